-- Worked examples of lines. Each holds by computing.
use Rattle.std.proofs.Common.{◌≡◌, true, false, pos, negsuc, refl, List, [], ◌∷◌, Some, None}
use Rattle.mob_ratio.{specs.Gcd.{gcd, gcd_steps}, specs.Lowest.{in_lowest_terms}, specs.Ratio.{Ratio, over, whole, turned, inverse, ◌+ℚ◌, ◌*ℚ◌, neg_ℚ}, specs.Order.{before, same}}
use Rattle.mob_ratio.{specs.Line.{line_value, line_at, line_continues}, specs.Sign.{sign_of}}
use Rattle.mob_slice.{specs.Comparison.{relates_gaps}, specs.Instants.{slice_at, parts_at}, specs.LineComparison.{number_relates, number_gaps, point_relates, point_gaps}}
use Rattle.mob_slice.{specs.Lines.{line_value_of, line_continued, line_parts_of, plane_value_of, plane_parts_of}, specs.Slices.{value_at}, specs.declared.comparison.Gaps.TheVariants.{One, Two}}
use Rattle.mob_slice.{specs.declared.comparison.Rel.TheVariants.{Ne, Lt}, specs.declared.line.Line.{Line}, specs.declared.line.PlaneLine.{PlaneLine}, specs.declared.slice.Slice.{Slice}}

-- a number from a to b
abbrev line : Ratio → Ratio → Line
line a b = record { from = a; to = b }

-- from 0 at 0 to 1 at 3, excluding the upper end
abbrev rising : List (Slice Line)
rising = record { span = record { lower = whole (pos 0); upper = whole (pos 3); lower_inc = true; upper_inc = false }; course = line (whole (pos 0)) (whole (pos 1)) } ∷ []

-- at 1 it is 1/3, at 0 it is 0, and at 3 it has no value
third : value_at line_value_of rising (whole (pos 1)) ≡ Some (over (pos 1) 3)
unfolding over gcd gcd_steps in_lowest_terms whole ◌+ℚ◌ neg_ℚ ◌*ℚ◌ inverse turned before line_at line_value
third = refl

first : value_at line_value_of rising (whole (pos 0)) ≡ Some (whole (pos 0))
unfolding over gcd gcd_steps in_lowest_terms whole ◌+ℚ◌ neg_ℚ ◌*ℚ◌ inverse turned before line_at line_value
first = refl

left_out : value_at line_value_of rising (whole (pos 3)) ≡ None
unfolding over gcd gcd_steps in_lowest_terms whole before
left_out = refl

no_slice : slice_at rising (whole (pos 3)) ≡ None
unfolding over gcd gcd_steps in_lowest_terms whole before
no_slice = refl

-- the parts of F1 at 1: 1 - 0, 3 - 0, their quotient, 1 - 0, the product, the value; none at an
-- end, and none if the value is undefined
parts_inside : parts_at line_parts_of rising (whole (pos 1)) ≡ whole (pos 1) ∷ whole (pos 3) ∷ over (pos 1) 3 ∷ whole (pos 1) ∷ over (pos 1) 3 ∷ over (pos 1) 3 ∷ []
unfolding over gcd gcd_steps in_lowest_terms whole ◌+ℚ◌ neg_ℚ ◌*ℚ◌ inverse turned before same
parts_inside = refl

parts_first : parts_at line_parts_of rising (whole (pos 0)) ≡ []
unfolding over gcd gcd_steps in_lowest_terms whole before same
parts_first = refl

parts_left_out : parts_at line_parts_of rising (whole (pos 3)) ≡ []
unfolding over gcd gcd_steps in_lowest_terms whole before same
parts_left_out = refl

-- a point from (1/2, 0) at 0 to (1/2, 9) at 3 is at (1/2, 3) at 1: x is constant, y changes
abbrev climbing : PlaneLine
climbing = record { from = record { x = over (pos 1) 2; y = whole (pos 0) }; to = record { x = over (pos 1) 2; y = whole (pos 9) } }

point_inside : plane_value_of climbing (whole (pos 0)) (whole (pos 3)) (whole (pos 1)) ≡ record { x = over (pos 1) 2; y = whole (pos 3) }
unfolding over gcd gcd_steps in_lowest_terms whole ◌+ℚ◌ neg_ℚ ◌*ℚ◌ inverse turned before line_at line_value
point_inside = refl

-- x takes no step, since it is constant; y takes six
point_parts : plane_parts_of climbing (whole (pos 0)) (whole (pos 3)) (whole (pos 1)) ≡ whole (pos 1) ∷ whole (pos 3) ∷ over (pos 1) 3 ∷ whole (pos 9) ∷ whole (pos 3) ∷ whole (pos 3) ∷ []
unfolding over gcd gcd_steps in_lowest_terms whole ◌+ℚ◌ neg_ℚ ◌*ℚ◌ inverse turned before same
point_parts = refl

-- 0 to 1 and 1 to 3 continue as one line if the second takes twice the time; after a jump, or with
-- another slope, they do not
straight : line_continued (line (whole (pos 0)) (whole (pos 1))) (line (whole (pos 1)) (whole (pos 3))) (whole (pos 0)) (whole (pos 1)) (whole (pos 3)) ≡ true
unfolding over gcd gcd_steps in_lowest_terms whole ◌+ℚ◌ neg_ℚ ◌*ℚ◌ inverse turned before same line_at line_value line_continues
straight = refl

corner : line_continued (line (whole (pos 0)) (whole (pos 1))) (line (whole (pos 1)) (whole (pos 3))) (whole (pos 0)) (whole (pos 1)) (whole (pos 2)) ≡ false
unfolding over gcd gcd_steps in_lowest_terms whole ◌+ℚ◌ neg_ℚ ◌*ℚ◌ inverse turned before same line_at line_value line_continues
corner = refl

jump : line_continued (line (whole (pos 0)) (whole (pos 1))) (line (whole (pos 2)) (whole (pos 3))) (whole (pos 0)) (whole (pos 1)) (whole (pos 2)) ≡ false
unfolding over gcd gcd_steps in_lowest_terms whole before same line_continues
jump = refl

-- 1/2 is below 2/3, as their gap -1/6 is below 0
below : number_relates Lt (over (pos 1) 2) (over (pos 2) 3) ≡ true
unfolding over gcd gcd_steps in_lowest_terms before
below = refl

number_gap : number_gaps (over (pos 1) 2) (over (pos 2) 3) ≡ One (over (negsuc 0) 6)
unfolding over gcd gcd_steps in_lowest_terms ◌+ℚ◌ neg_ℚ
number_gap = refl

below_by_gap : relates_gaps Lt (number_gaps (over (pos 1) 2) (over (pos 2) 3)) ≡ true
unfolding over gcd gcd_steps in_lowest_terms whole ◌+ℚ◌ neg_ℚ before sign_of
below_by_gap = refl

-- POINT(1 2) and POINT(1 5) are different points, with the gaps 0 and -3
two_points : point_relates Ne (record { x = whole (pos 1); y = whole (pos 2) }) (record { x = whole (pos 1); y = whole (pos 5) }) ≡ true
unfolding over gcd gcd_steps in_lowest_terms whole before same
two_points = refl

point_gap : point_gaps (record { x = whole (pos 1); y = whole (pos 2) }) (record { x = whole (pos 1); y = whole (pos 5) }) ≡ Two (whole (pos 0)) (whole (negsuc 2))
unfolding over gcd gcd_steps in_lowest_terms whole ◌+ℚ◌ neg_ℚ
point_gap = refl
