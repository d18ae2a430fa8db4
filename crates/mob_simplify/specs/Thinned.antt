-- The simplified moving point.
use Rattle.std.{specs.Prelude.{◌≡◌, Bool, true, false, List, [], ◌∷◌, Option, Some, None}, specs.List.{flat_map}}
use Rattle.mob_ratio.{specs.Ratio.{Ratio}, specs.Order.{up_to}}
use Rattle.mob_plane.specs.declared.point.Point.{Point}
use Rattle.mob_slice.{specs.Entries.{Entry}, specs.Lines.{plane_value_of, plane_continued}, specs.Slices.{value_at, IsNormal}, specs.declared.line.PlaneLine.{PlaneLine}}
use Rattle.mob_slice.{specs.Modes.{by_mode}, specs.declared.mode.Mode.{Mode}, specs.declared.slice.Slice.{Slice}}
use Rattle.mob_near.specs.Distances.{distance_squared}
use Rattle.mob_simplify.{specs.Breaks.{straight}, specs.Runs.{KeptBreak, RunOf, first_kept, last_slice, AreRuns}, specs.Tests.{tests_after}, specs.declared.breaks.Break.{Break}}

-- the straight course between two breaks, on the instants between them; for each end, whether it is
-- included
abbrev pub leg : Bool → Break → Break → Bool → Slice PlaneLine
leg lower_inc p m upper_inc = record { span = record { lower = p.instant; upper = m.instant; lower_inc = lower_inc; upper_inc = upper_inc }; course = straight p m }

-- The straight courses between kept breaks, the first of which is p. Each includes the instant at
-- which it starts, but the first only if the run does; the last includes its end if the run does.
abbrev pub legs_from : Bool → Break → List KeptBreak → Bool → List (Slice PlaneLine)
legs_from lower_inc p [] upper_inc = []
legs_from lower_inc p (m ∷ []) upper_inc = leg lower_inc p m.at upper_inc ∷ []
legs_from lower_inc p (m ∷ k ∷ kept) upper_inc = leg lower_inc p m.at false ∷ legs_from true m.at (k ∷ kept) upper_inc

-- those of a run, on its span
abbrev pub legs_of : RunOf → List (Slice PlaneLine)
legs_of g = legs_from g.first.span.lower_inc (first_kept g).at g.kept (last_slice g.first g.more).span.upper_inc

-- the tests of a run: for each kept break in order those of the breaks after it
abbrev pub tests_of_run : Ratio → RunOf → List Entry
tests_of_run d g = flat_map (λ k. tests_after d k.at [] k.later) (first_kept g ∷ g.kept)

-- those of all runs; in the wide mode no part of a test has to fit
abbrev pub tests_by_mode : Mode → Ratio → List RunOf → List Entry
tests_by_mode mode d runs = by_mode mode (flat_map (tests_of_run d) runs) []

-- The simplified moving point: it is normal, and has at each instant the value of the straight
-- courses between the kept breaks of the runs.
pub record IsThin (d : Ratio) (slices thin : List (Slice PlaneLine)) : Type 0 where
  pub runs : List RunOf
  pub of : AreRuns d runs slices
  pub normal : IsNormal (λ c. c.from) (λ c. c.to) plane_continued thin
  pub same : (t : Ratio) → value_at plane_value_of thin t ≡ value_at plane_value_of (flat_map legs_of runs) t

-- there is one list of runs with their kept breaks, and this holds for it
abbrev pub OnRuns : Ratio → List (Slice PlaneLine) → (List RunOf → Type 0) → Type 0
OnRuns d slices P = (runs : List RunOf) × AreRuns d runs slices × P runs

-- two values at one instant are both missing, or both exist with a squared distance of at most D
abbrev pub AreNear : Ratio → Option Point → Option Point → Type 0
AreNear D None None = Unit {0}
AreNear D (Some x) (Some y) = up_to (distance_squared x y) D ≡ true
AreNear D a b = ⊥
