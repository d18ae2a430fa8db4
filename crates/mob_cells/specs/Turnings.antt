-- The results of a comparison of two courses on a span: at its ends, and inside it, where they
-- change at one instant at most.
use Rattle.std.{specs.List.{AllByRecursion}, specs.Prelude.{◌≡◌, Bool, true, false, cond, ◌&&◌, ◌||◌, List, [], ◌∷◌, Option, None, Some, IfSome}, specs.declared.cmp.Ordering.{Ordering}, specs.declared.cmp.Ordering.TheVariants.{Less, Equal}}
use Rattle.mob_ratio.{specs.Ratio.{Ratio, ◌/ℚ◌}, specs.Order.{before, same}, specs.Sign.{nil, opposite, sign_of}}
use Rattle.mob_span.specs.Span.{SpanOf, has}
use Rattle.mob_slice.{specs.Cut.{slice_value}, specs.declared.comparison.Rel.{Rel}, specs.declared.slice.Slice.{Slice}}
use Rattle.mob_cells.{specs.declared.linear.Ends.{Ends}, specs.declared.turning.Turn.{Turn}, specs.declared.turning.Turning.{Turning}, specs.Cells.{IsCut, NoneWithin, is_cell_of, signs_of}, specs.Gaps.{related_by}, specs.Restricted.{kept_value}, specs.Roots.{function_at}}
use Rattle.mob_cells.{specs.declared.turning.Meeting.{Meeting}, specs.declared.turning.Meeting.TheVariants.{Never, Always, Once}}

-- the result inside the span
abbrev pub turning_inside : Bool → Option Turn → Ratio → Bool
turning_inside first None t = first
turning_inside first (Some c) t = cond (before t c.at) first (cond (before c.at t) c.after c.there)

-- the result at the instant t
abbrev pub turning_at : SpanOf → Turning → Ratio → Bool
turning_at s w t = cond (same t s.lower) w.at_lower (cond (same t s.upper) w.at_upper (turning_inside w.first w.turn t))

-- the value of a slice at t, if the result there is the wanted one
abbrev pub kept_turned : {C B : Type 0} → (C → Ratio → Ratio → Ratio → B) → Bool → Turning → Slice C → Ratio → Option B
kept_turned value want w s t = kept_value want (turning_at s.span w t) (slice_value value s t)

-- the instant inside the span at which the result changes, if there is one
abbrev pub turn_numbers : Option Turn → List Ratio
turn_numbers None = []
turn_numbers (Some c) = c.at ∷ []

-- it is strictly inside the span
abbrev pub IsTurnInside : SpanOf → Option Turn → Type 0
IsTurnInside s turn = IfSome turn (λ c. (before s.lower c.at ≡ true) × (before c.at s.upper ≡ true))

-- The results are those of a comparison by the signs of linear functions on the span. They change
-- at the instant, at which each function is 0.
pub record IsTurning (s : SpanOf) (functions : List Ends) (rel : Rel) (w : Turning) : Type 0 where
  pub each : (t : Ratio) → has s t ≡ true → related_by rel (signs_of s functions t) ≡ turning_at s w t
  pub inside : IsTurnInside s w.turn
  pub zero : IfSome w.turn (λ c. AllByRecursion (λ f. function_at s f c.at ≡ nil) functions)
  pub changes : IfSome w.turn (λ c. w.first ≡ c.there → c.there ≡ c.after → ⊥)

-- results that do not change inside the span
abbrev pub level : Bool → Bool → Bool → Turning
level at_lower inside at_upper = record { at_lower = at_lower; first = inside; turn = None; at_upper = at_upper }

-- the sign of a line between two ends whose signs are not opposite
abbrev pub sign_between : Ratio → Ratio → Ordering
sign_between f g = cond (same f nil) (sign_of g) (sign_of f)

-- the order of two points with these gaps: Equal if both are 0, and otherwise Less
abbrev pub order_by : Ratio → Ratio → Ordering
order_by x y = cond (same x nil && same y nil) Equal Less

-- both functions are 0 at t
abbrev pub are_nil_at : SpanOf → Ends → Ends → Ratio → Bool
are_nil_at s f e t = same (function_at s f t) nil && same (function_at s e t) nil

-- when both functions are 0, strictly between the ends of the span
abbrev pub IsMeeting : SpanOf → Ends → Ends → Meeting → Type 0
IsMeeting s f e Never = (t : Ratio) → before s.lower t ≡ true → before t s.upper ≡ true → are_nil_at s f e t ≡ false
IsMeeting s f e Always = (t : Ratio) → before s.lower t ≡ true → before t s.upper ≡ true → are_nil_at s f e t ≡ true
IsMeeting s f e (Once r) = (before s.lower r ≡ true) × (before r s.upper ≡ true) × ((t : Ratio) → before s.lower t ≡ true → before t s.upper ≡ true → are_nil_at s f e t ≡ same t r)

-- the function from e to h is 0 at the root of the one from f to g, which crosses 0
abbrev pub shares_root : Ratio → Ratio → Ratio → Ratio → Bool
shares_root f g e h = (same e nil && same h nil) || (opposite f g && opposite e h && same (f /ℚ g) (e /ℚ h))

-- a cell of the span, cut at these instants
pub record IsCellBetween (s : SpanOf) (cuts : List Ratio) (c : SpanOf) : Type 0 where
  pub cell : is_cell_of s c ≡ true
  pub lower : IsCut s cuts c.lower
  pub upper : IsCut s cuts c.upper
  pub apart : AllByRecursion (λ r. NoneWithin r c) cuts

-- the result on a cell, by how it lies to the cut t
abbrev pub by_cut : Bool → Turn → Ratio → SpanOf → Bool
by_cut first turn t c = cond (before c.lower t) first (cond (before t c.upper) turn.after turn.there)

abbrev pub beside_cuts : Bool → Option Turn → List Ratio → SpanOf → Bool
beside_cuts first (Some turn) (t ∷ []) c = by_cut first turn t c
beside_cuts first turn cuts c = first

-- the result on a cell of the span, cut at the instant at which the result changes
abbrev pub turned_on : SpanOf → Turning → List Ratio → SpanOf → Bool
turned_on s w cuts c = cond (same c.upper s.lower) w.at_lower (cond (same c.lower s.upper) w.at_upper (beside_cuts w.first w.turn cuts c))

-- the value of the slice at t, if that is no end of its span, is x
abbrev pub IsHeldInside : {C B : Type 0} → (C → Ratio → Ratio → Ratio → B) → Slice C → B → Ratio → Type 0
IsHeldInside value s x t = same t s.span.lower ≡ false → same t s.span.upper ≡ false → slice_value value s t ≡ x
