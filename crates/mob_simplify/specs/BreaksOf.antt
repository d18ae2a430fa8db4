-- The breaks of a moving point, and how many instants it prints.
use Rattle.std.{specs.Prelude.{◌≡◌, ◌⊎◌, ◌+◌, ℕ, Bool, false, cond, ◌&&◌, not, List, [], ◌∷◌}, specs.List.{AllByRecursion}}
use Rattle.mob_ratio.specs.Order.{before, same}
use Rattle.mob_plane.specs.Points.{same_point}
use Rattle.mob_slice.{specs.declared.line.PlaneLine.{PlaneLine}, specs.declared.slice.Slice.{Slice}}
use Rattle.mob_simplify.{specs.Breaks.{start_of, end_of}, specs.declared.breaks.Break.{Break}}

-- b is the start or the end of one of the slices
abbrev pub IsBreakOf : List (Slice PlaneLine) → Break → Type 0
IsBreakOf [] b = ⊥
IsBreakOf (s ∷ rest) b = ((b ≡ start_of s) ⊎ (b ≡ end_of s)) ⊎ IsBreakOf rest b

-- this holds for each break of the slices
abbrev pub HaveBreaks : (Break → Type 0) → List (Slice PlaneLine) → Type 0
HaveBreaks P slices = AllByRecursion (λ s. P (start_of s) × P (end_of s)) slices

-- the end of s is the start of the next slice, which includes it
abbrev pub followed : Slice PlaneLine → List (Slice PlaneLine) → Bool
followed s [] = false
followed s (r ∷ rest) = same s.span.upper r.span.lower && (r.span.lower_inc && not s.span.upper_inc) && same_point s.course.to r.course.from

-- A slice prints its start; and its end, if it is longer than an instant and the next slice does
-- not print that.
abbrev pub instants_by : Slice PlaneLine → Bool → ℕ
instants_by s next = cond next 1 (1 + cond (before s.span.lower s.span.upper) 1 0)

abbrev pub printed_instants : List (Slice PlaneLine) → ℕ
printed_instants [] = 0
printed_instants (s ∷ rest) = instants_by s (followed s rest) + printed_instants rest
