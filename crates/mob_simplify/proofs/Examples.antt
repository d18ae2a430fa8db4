-- Worked examples of the definitions. Each holds by computing.
use Rattle.std.proofs.Common.{◌≡◌, true, false, pos, negsuc, refl, List, [], ◌∷◌, ◌++◌, ℕ}
use Rattle.mob_ratio.{specs.Gcd.{gcd, gcd_steps}, specs.Lowest.{in_lowest_terms}, specs.Ratio.{Ratio, over, whole, turned, inverse, ◌+ℚ◌, ◌*ℚ◌, neg_ℚ}, specs.Order.{before, same}}
use Rattle.mob_ratio.specs.Line.{line_at, line_value}
use Rattle.mob_slice.{specs.declared.line.PlaneLine.{PlaneLine}, specs.declared.slice.Slice.{Slice}, specs.declared.formula.Formula.TheVariants.{F1, F2, F6}}
use Rattle.mob_simplify.{specs.Breaks.{off_course}, specs.Tests.{entries_of_test}, specs.declared.breaks.Break.{Break}, specs.Walk.{continues_run, all_legs, all_tests}}

abbrev n : ℕ → Ratio
n k = whole (pos k)

abbrev at : ℕ → ℕ → ℕ → Break
at t x y = record { instant = n t; place = record { x = n x; y = n y } }

abbrev piece : Break → Break → Slice PlaneLine
piece p q = record { span = record { lower = p.instant; upper = q.instant; lower_inc = true; upper_inc = false }; course = record { from = p.place; to = q.place } }

-- up to (1, 1), down to (2, 0), and on to (4, 0)
abbrev bent : List (Slice PlaneLine)
bent = piece (at 0 0 0) (at 1 1 1) ∷ piece (at 1 1 1) (at 2 2 0) ∷ piece (at 2 2 0) (at 4 4 0) ∷ []

-- within 1, one straight course replaces it
within_one : all_legs (n 1) bent ≡ piece (at 0 0 0) (at 4 4 0) ∷ []
unfolding over gcd gcd_steps in_lowest_terms whole ◌+ℚ◌ neg_ℚ ◌*ℚ◌ inverse turned before same line_at line_value continues_run
within_one = refl

-- within 1/2, each break is kept: from 1 to 4 the straight course passes 2 at the height 2/3
within_half : all_legs (over (pos 1) 2) bent ≡ bent
unfolding over gcd gcd_steps in_lowest_terms whole ◌+ℚ◌ neg_ℚ ◌*ℚ◌ inverse turned before same line_at line_value continues_run
within_half = refl

height : off_course (at 1 1 1) (at 4 4 0) (at 2 2 0) ≡ over (pos 4) 9
unfolding over gcd gcd_steps in_lowest_terms whole ◌+ℚ◌ neg_ℚ ◌*ℚ◌ inverse turned before same line_at line_value
height = refl

-- the formulas of that test: x is 1 + 3·(1/3), y is 1 - 1·(1/3)
its_formulas : entries_of_test (over (pos 1) 2) (at 1 1 1) (at 4 4 0) (at 2 2 0) ≡
    record { formula = F1; parts = n 1 ∷ n 3 ∷ over (pos 1) 3 ∷ n 3 ∷ n 1 ∷ n 2 ∷ n 1 ∷ n 3 ∷ over (pos 1) 3 ∷ whole (negsuc 0) ∷ over (negsuc 0) 3 ∷ over (pos 2) 3 ∷ [] }
    ∷ record { formula = F2; parts = n 0 ∷ over (pos 2) 3 ∷ [] }
    ∷ record { formula = F6; parts = n 0 ∷ over (pos 4) 9 ∷ over (pos 4) 9 ∷ over (pos 1) 4 ∷ [] }
    ∷ []
unfolding over gcd gcd_steps in_lowest_terms whole ◌+ℚ◌ neg_ℚ ◌*ℚ◌ inverse turned before same line_at line_value
its_formulas = refl

-- the tests in order: within 1 the break at 2, then the one at 4 at the two between
tests_within_one : all_tests (n 1) bent ≡ entries_of_test (n 1) (at 0 0 0) (at 2 2 0) (at 1 1 1) ++ (entries_of_test (n 1) (at 0 0 0) (at 4 4 0) (at 1 1 1) ++ entries_of_test (n 1) (at 0 0 0) (at 4 4 0) (at 2 2 0))
unfolding over gcd gcd_steps in_lowest_terms whole ◌+ℚ◌ neg_ℚ ◌*ℚ◌ inverse turned before same line_at line_value continues_run
tests_within_one = refl

-- within 1/2 the break at 2 fails for 0, and the one at 4 for 1; for 2 nothing is tested
tests_within_half : all_tests (over (pos 1) 2) bent ≡ entries_of_test (over (pos 1) 2) (at 0 0 0) (at 2 2 0) (at 1 1 1) ++ entries_of_test (over (pos 1) 2) (at 1 1 1) (at 4 4 0) (at 2 2 0)
unfolding over gcd gcd_steps in_lowest_terms whole ◌+ℚ◌ neg_ℚ ◌*ℚ◌ inverse turned before same line_at line_value continues_run
tests_within_half = refl

-- a jump ends a run, even if its two sides are near: nothing is tested across it
abbrev jump : List (Slice PlaneLine)
jump = piece (at 0 0 0) (at 1 1 0) ∷ record { span = record { lower = n 1; upper = n 2; lower_inc = true; upper_inc = true }; course = record { from = (at 1 1 1).place; to = (at 2 2 1).place } } ∷ []

tests_at_jump : all_tests (n 5) jump ≡ []
unfolding over gcd gcd_steps in_lowest_terms whole ◌+ℚ◌ neg_ℚ ◌*ℚ◌ inverse turned before same line_at line_value continues_run
tests_at_jump = refl

legs_at_jump : all_legs (n 5) jump ≡ jump
unfolding over gcd gcd_steps in_lowest_terms whole ◌+ℚ◌ neg_ℚ ◌*ℚ◌ inverse turned before same line_at line_value continues_run
legs_at_jump = refl
