-- Examples, worked by hand: texts of numbers and points that change linearly. Here a number prints
-- as its digit, a point as the digits of its coordinates in brackets, and a moment as the word day
-- and the number of the day.
use Rattle.std.{specs.Prelude.{option_map, List}, proofs.Common.{◌≡◌, ℕ, ◌+◌, [], ◌∷◌, ◌++◌, Bool, true, false, Option, Some, None, codes, refl, nat_abs}}
use Rattle.mob_ratio.{specs.Ratio.{Ratio}, specs.Order.{before, same}}
use Rattle.mob_language.specs.Language.{Text}
use Rattle.mob_plane.specs.declared.point.Point.{Point}
use Rattle.mob_slice.{specs.declared.slice.Slice.{Slice}, specs.declared.line.Line.{Line}, specs.declared.line.PlaneLine.{PlaneLine}, specs.CourseOf.{line_course, plane_course}}
use Rattle.mob_written.{specs.declared.written.Written.{Written}, specs.declared.written.Sequence.{Sequence}, specs.Printed.{Style, moving_text}, specs.Values.{any_value}}
use Rattle.mob_literal.{specs.Flat.{made_all}, specs.Sound.{fitting_all, is_sound}, proofs.Rows.{day, first_day, second_day, third_day}}

abbrev day_text : Ratio → Text
day_text t = codes "day " ++ (48 + nat_abs t.num) ∷ []

abbrev numbers : Style Line Ratio
numbers = record { course = line_course; value_text = λ q. (48 + nat_abs q.num) ∷ []; moment_text = day_text }

-- the sequence from 1 on the first day to 2 on the third
abbrev rising : Bool → Bool → Sequence (Written Ratio)
rising lower_inc upper_inc = record { lower_inc = lower_inc; instants = record { value = day 1; instant = first_day } ∷ record { value = day 2; instant = third_day } ∷ []; upper_inc = upper_inc }

-- ---- Interp=Step;

-- the printed sequences, with or without step interpolation
abbrev printed : Bool → List (Sequence (Written Ratio)) → Option Text
printed step qs = option_map (moving_text numbers) (made_all any_value line_course step qs)

line_printed : printed false (rising true true ∷ []) ≡ Some (codes "[1@day 1, 2@day 3]")
unfolding before same
line_printed = refl

-- the value holds up to the second instant, and both values print as groups of their own
step_printed : printed true (rising true true ∷ []) ≡ Some (codes "{[1@day 1, 1@day 3), [2@day 3]}")
unfolding before same
step_printed = refl

-- a jump at an excluded end would have no effect: it is unsound under step interpolation, and sound
-- for a line
jump_left_out : is_sound any_value line_course true (rising true false ∷ []) ≡ false
unfolding before same
jump_left_out = refl

line_left_out : is_sound any_value line_course false (rising true false ∷ []) ≡ true
unfolding before same
line_left_out = refl

-- a number that does not fit is reported before an unsound sequence
too_large_first : ◌≡◌ {A = Option (List (Sequence (Written Ratio)))} (fitting_all (record { lower_inc = true; instants = record { value = None; instant = Some third_day } ∷ record { value = Some first_day; instant = Some first_day } ∷ []; upper_inc = false } ∷ [])) None
too_large_first = refl

-- ---- groups of lines

abbrev line : Bool → Ratio → Ratio → Bool → ℕ → ℕ → Slice Line
line lower_inc lower upper upper_inc from to = record { span = record { lower = lower; upper = upper; lower_inc = lower_inc; upper_inc = upper_inc }; course = record { from = day from; to = day to } }

a_bend : moving_text numbers (line true first_day second_day false 1 2 ∷ line true second_day third_day true 2 1 ∷ []) ≡ codes "[1@day 1, 2@day 2, 1@day 3]"
unfolding before same
a_bend = refl

-- a group ends at a jump, whichever of the two lines includes the instant
first_has_jump : moving_text numbers (line true first_day second_day true 1 2 ∷ line false second_day third_day true 3 5 ∷ []) ≡ codes "{[1@day 1, 2@day 2], (3@day 2, 5@day 3]}"
unfolding before same
first_has_jump = refl

second_has_jump : moving_text numbers (line true first_day second_day false 1 2 ∷ line true second_day third_day true 3 5 ∷ []) ≡ codes "{[1@day 1, 2@day 2), [3@day 2, 5@day 3]}"
unfolding before same
second_has_jump = refl

-- two groups are separated by an instant that no line has
an_instant_missing : moving_text numbers (line true first_day second_day false 1 2 ∷ line false second_day third_day true 2 3 ∷ []) ≡ codes "{[1@day 1, 2@day 2), (2@day 2, 3@day 3]}"
unfolding before same
an_instant_missing = refl

-- ---- points

abbrev points : Style PlaneLine Point
points = record { course = plane_course; value_text = λ p. codes "(" ++ (48 + nat_abs p.x.num) ∷ 32 ∷ (48 + nat_abs p.y.num) ∷ codes ")"; moment_text = day_text }

abbrev at : ℕ → Point
at x = record { x = day x; y = day 0 }

abbrev way : Bool → Ratio → Ratio → Bool → ℕ → ℕ → Slice PlaneLine
way lower_inc lower upper upper_inc from to = record { span = record { lower = lower; upper = upper; lower_inc = lower_inc; upper_inc = upper_inc }; course = record { from = at from; to = at to } }

-- a path without its middle
two_ways : moving_text points (way true (day 0) first_day false 0 1 ∷ way false second_day third_day true 2 3 ∷ []) ≡ codes "{[(0 0)@day 0, (1 0)@day 1), ((2 0)@day 2, (3 0)@day 3]}"
unfolding before same
two_ways = refl

one_place : moving_text points (way true second_day second_day true 2 2 ∷ []) ≡ codes "(2 0)@day 2"
unfolding before same
one_place = refl
