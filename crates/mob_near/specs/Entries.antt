-- The formulas of nearness, on each piece that two points share, in the order in which they are
-- checked.
use Rattle.std.{specs.Prelude.{cond, List, [], ◌∷◌, ◌++◌}, specs.List.{flat_map}}
use Rattle.mob_ratio.{specs.Ratio.{Ratio, ◌*ℚ◌}, specs.Order.{before}, specs.Sign.{nil}}
use Rattle.mob_frac.specs.Formula.{square_parts, distance_parts, approach_parts, within_parts}
use Rattle.mob_slice.{specs.Entries.{Entry}, specs.Lines.{plane_value_of, plane_parts_of}, specs.LineComparison.{point_gaps}, specs.Sides.{at_ends}}
use Rattle.mob_slice.specs.declared.formula.Formula.TheVariants.{F5, F6}
use Rattle.mob_cells.specs.Gaps.{entries_of_ends}
use Rattle.mob_legs.specs.Legs.{PointPiece, gap_x, gap_y}

-- F1 of both points at the ends of the piece, F2, their difference there, and F6, its squared
-- length
abbrev pub entries_of_squares : PointPiece → List Entry
entries_of_squares p = entries_of_ends plane_value_of plane_parts_of point_gaps p ++ record { formula = F6; parts = at_ends (λ t. square_parts (gap_x p t) (gap_y p t)) p.span } ∷ []

-- a formula of the difference from one end of the piece to the other, if the piece is longer than
-- an instant
abbrev pub parts_between : (Ratio → Ratio → Ratio → Ratio → List Ratio) → PointPiece → List Ratio
parts_between parts p = cond (before p.span.lower p.span.upper) (parts (gap_x p p.span.lower) (gap_y p p.span.lower) (gap_x p p.span.upper) (gap_y p p.span.upper)) []

-- those entries, and then F5, for the squared distance D
abbrev pub entries_of_reach : Ratio → PointPiece → List Entry
entries_of_reach D p = entries_of_squares p ++ record { formula = F5; parts = parts_between (within_parts D) p } ∷ []

-- The entries of nearness within d: on each piece, first F6, the square of d. A distance below 0
-- has no formula.
abbrev pub entries_of_within : Ratio → List PointPiece → List Entry
entries_of_within d ps = cond (before d nil) [] (flat_map (λ p. record { formula = F6; parts = distance_parts d } ∷ entries_of_reach (d *ℚ d) p) ps)

-- the entries of the nearest approach
abbrev pub entries_of_approach : PointPiece → List Entry
entries_of_approach p = entries_of_squares p ++ record { formula = F5; parts = parts_between approach_parts p } ∷ []
