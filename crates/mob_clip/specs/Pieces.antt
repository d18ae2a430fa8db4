-- The parts of a slice kept on pieces of its span, and the parts of a piece before and after an
-- instant.
use Rattle.std.{specs.Prelude.{◌≡◌, Bool, true, cond, not, ◌||◌, ◌&&◌, ◌++◌, List, [], Option, Some, None, MatchOption, Result, Vec}, specs.declared.alloc.Global.{Global}}
use Rattle.mob_ratio.{specs.Ratio.{Ratio}, specs.Order.{before}}
use Rattle.mob_frac.specs.Formula.{AllFit}
use Rattle.mob_span.{specs.Span.{SpanOf, has_instant}, specs.Neighbours.{is_inside}}
use Rattle.mob_slice.{specs.Sides.{at_ends}, specs.Cut.{slice_value, slice_parts}, specs.Lines.{plane_value_of, plane_parts_of}, specs.Entries.{Entry}, specs.declared.slice.Slice.{Slice}}
use Rattle.mob_slice.{specs.declared.line.PlaneLine.{PlaneLine}, specs.OnPiece.{AreKeptOn, IsKeptBy}, specs.declared.formula.Formula.{Formula}}
use Rattle.mob_list.specs.declared.fault.Fault.{Fault}
use Rattle.mob_cells.specs.Restricted.{kept_where}
use Rattle.mob_plane.{specs.declared.point.Point.{Point}, specs.declared.edges.Tally.{Tally}}

-- the point is inside the polygon, by its tally
abbrev pub is_known_in : Tally → Bool
is_known_in t = t.on || t.odd

-- the span, if it has an instant
abbrev pub some_span : SpanOf → Option SpanOf
some_span r = cond (has_instant r) (Some r) None

-- the part of c before r, including r if `included` is true, and the part after it
abbrev pub left_span : SpanOf → Ratio → Bool → SpanOf
left_span c r included = cond (before c.upper r) c (record { lower = c.lower; upper = r; lower_inc = c.lower_inc; upper_inc = included && (before r c.upper || c.upper_inc) })

abbrev pub right_span : SpanOf → Ratio → Bool → SpanOf
right_span c r included = cond (before r c.lower) c (record { lower = r; upper = c.upper; lower_inc = not included && (before c.lower r || c.lower_inc); upper_inc = c.upper_inc })

abbrev pub left_piece : Option SpanOf → Ratio → Bool → Option SpanOf
left_piece None r included = None
left_piece (Some c) r included = some_span (left_span c r included)

abbrev pub right_piece : Option SpanOf → Ratio → Bool → Option SpanOf
right_piece None r included = None
right_piece (Some c) r included = some_span (right_span c r included)

-- the slice contains the piece, if any, and its values at the ends of the piece fit
abbrev pub IsOnSlice : Slice PlaneLine → Option SpanOf → Type 0
IsOnSlice s piece = MatchOption piece (Unit {0}) (λ r. (is_inside s.span r ≡ true) × AllFit (at_ends (slice_parts plane_parts_of s) r))

-- the slices are all of s on the piece, or none
abbrev pub AreAllOrNothing : Slice PlaneLine → Bool → Option SpanOf → List (Slice PlaneLine) → Type 0
AreAllOrNothing s keeps None v = v ≡ []
AreAllOrNothing s keeps (Some r) v = AreKeptOn plane_value_of (λ c. c.from) (λ c. c.to) (λ t. cond keeps (Some (slice_value plane_value_of s t)) None) r v

-- The part of s before r on the piece, or nothing, is appended to the list, and the part of the
-- piece after r is left.
abbrev pub IsPushedBefore : Slice PlaneLine → Bool → Option SpanOf → Ratio → Bool → List (Slice PlaneLine) → List (Slice PlaneLine) → Option SpanOf → Type 0
IsPushedBefore s keeps piece r included old new rest = (rest ≡ right_piece piece r included) × (v : List (Slice PlaneLine)) × (new ≡ old ++ v) × AreAllOrNothing s keeps (left_piece piece r included) v

-- the slices are the part of s on the span r on which the instant and the point meet a condition
-- (or do not, if `want` is false)
abbrev pub AreKeptInPlane : Bool → (Ratio → Point → Bool) → Slice PlaneLine → SpanOf → List (Slice PlaneLine) → Type 0
AreKeptInPlane want meets s r v = AreKeptOn plane_value_of (λ c. c.from) (λ c. c.to) (kept_where plane_value_of want meets s) r v

-- that is the result if every entry fits; otherwise it is the formula of the first that does not
abbrev pub IsKeptInPlane : Bool → (Ratio → Point → Bool) → Slice PlaneLine → SpanOf → List Entry → Result (Vec (Slice PlaneLine) Global) (Fault Formula) → Type 0
IsKeptInPlane want meets s r entries result = IsKeptBy plane_value_of (λ c. c.from) (λ c. c.to) (λ v. v.items) (kept_where plane_value_of want meets s) r entries result
