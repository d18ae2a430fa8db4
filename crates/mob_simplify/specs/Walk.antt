-- The walk along the slices that finds the kept breaks, as the code does it. `Runs` has the meaning
-- of its result.
use Rattle.std.specs.Prelude.{Bool, cond, ◌&&◌, not, List, [], ◌∷◌, ◌++◌}
use Rattle.mob_ratio.{specs.Ratio.{Ratio}, specs.Order.{before, same}}
use Rattle.mob_plane.specs.Points.{same_point}
use Rattle.mob_slice.{specs.Entries.{Entry}, specs.declared.line.PlaneLine.{PlaneLine}, specs.declared.slice.Slice.{Slice}}
use Rattle.mob_simplify.{specs.Breaks.{start_of, end_of, passes_within}, specs.Tests.{tests_within}, specs.Thinned.{leg}, specs.declared.breaks.Break.{Break}}

-- whether r continues the run of s
unfoldable pub continues_run : Slice PlaneLine → Slice PlaneLine → Bool
continues_run s r = before s.span.lower s.span.upper && before r.span.lower r.span.upper && same s.span.upper r.span.lower && not s.span.upper_inc && r.span.lower_inc && same_point s.course.to r.course.from

-- whether r continues the run of l, and its end passes after the start of s, where `between` are
-- the breaks between
abbrev pub stays : Ratio → Slice PlaneLine → List Break → Slice PlaneLine → Slice PlaneLine → Bool
stays d s between l r = continues_run l r && passes_within d (start_of s) between (end_of r)

-- the straight course from the start of s to the end of l
abbrev pub leg_over : Slice PlaneLine → Slice PlaneLine → Slice PlaneLine
leg_over s l = leg s.span.lower_inc (start_of s) (end_of l) l.span.upper_inc

-- the courses from here: s starts at the kept break, `between` are the breaks after it up to the
-- start of l, and all slices up to l pass
abbrev pub legs_along : Ratio → Slice PlaneLine → List Break → Slice PlaneLine → List (Slice PlaneLine) → List (Slice PlaneLine)
legs_along d s between l [] = leg_over s l ∷ []
legs_along d s between l (r ∷ rest) = cond (stays d s (between ++ start_of r ∷ []) l r) (legs_along d s (between ++ start_of r ∷ []) r rest) (leg_over s l ∷ legs_along d r [] r rest)

-- the tests of that walk
abbrev pub tests_along : Ratio → Slice PlaneLine → List Break → Slice PlaneLine → List (Slice PlaneLine) → List Entry
tests_along d s between l [] = []
tests_along d s between l (r ∷ rest) =
    cond (continues_run l r) (tests_within d (start_of s) (between ++ start_of r ∷ []) (end_of r)) []
    ++ cond (stays d s (between ++ start_of r ∷ []) l r) (tests_along d s (between ++ start_of r ∷ []) r rest) (tests_along d r [] r rest)

-- on all slices
abbrev pub all_legs : Ratio → List (Slice PlaneLine) → List (Slice PlaneLine)
all_legs d [] = []
all_legs d (s ∷ rest) = legs_along d s [] s rest

abbrev pub all_tests : Ratio → List (Slice PlaneLine) → List Entry
all_tests d [] = []
all_tests d (s ∷ rest) = tests_along d s [] s rest
