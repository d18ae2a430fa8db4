-- A walk over steps and names: each makes a line, and after the last step all lines are made.
use Rattle.std.specs.Prelude.{is_some, slice_get}
use Rattle.std.proofs.Common.{◌≡◌, ◌∙◌, ◌+◌, ◌<◌, sym, ap, arith, ℕ, zero, suc, List, [], ◌∷◌, ◌++◌, append-nil, append_assoc, drop, get_or, length, map, Option, Some}
use Rattle.std.proofs.lemmas.List.{drop_more}
use Rattle.mob_typed.{specs.Trees.{TypedTree}, specs.Selects.{on_of}}
use Rattle.mob_catalog.specs.Catalogue.{Catalogue}
use Rattle.mob_plan.{specs.declared.steps.Step.{Step}, specs.Plans.{step_seen}}
use Rattle.mob_tail.specs.PlanAnswers.{plan_line, plan_rows}

-- the names from a place on, where the first exists
names_there : (names : List (List ℕ)) (place : ℕ) (name : List ℕ) → slice_get names place ≡ Some name → drop place names ≡ name ∷ drop (suc place) names
names_there [] zero name is = absurd (cc is)
names_there [] (suc place) name is = absurd (cc is)
names_there (n ∷ names) zero name is = let same : n ≡ name = cc is in ap (λ m. m ∷ names) same
names_there (n ∷ names) (suc place) name is = names_there names place name is

one_more : (place : ℕ) → suc place ≡ place + 1
one_more place = omega arith

module _ (c : Catalogue) (joins : List (Option TypedTree)) (steps : List Step) (names : List (List ℕ)) where
  -- the rows of the steps from a place on
  abbrev pub rows_behind : ℕ → List (List (List ℕ))
  rows_behind place = plan_rows c joins place (map step_seen (drop place steps)) (drop place names)

  pub next_made : (place : ℕ) (step : Step) (name line : List ℕ) (rows : List (List (List ℕ))) → place < length steps → step ≡ get_or steps place step → slice_get names place ≡ Some name
      → line ≡ plan_line c (is_some (on_of joins place)) (step_seen step) name → rows ++ rows_behind place ≡ plan_rows c joins 0 (map step_seen steps) names
      → (rows ++ (line ∷ []) ∷ []) ++ rows_behind (place + 1) ≡ plan_rows c joins 0 (map step_seen steps) names
  next_made place step name line rows lt is there says h =
      append_assoc rows ((line ∷ []) ∷ []) (rows_behind (place + 1)) ∙ ap (λ l. rows ++ (l ∷ []) ∷ rows_behind (place + 1)) says
      ∙ ap (λ r. rows ++ r) (sym (ap (λ ss. plan_rows c joins place (map step_seen ss) (drop place names)) (drop_more steps place step lt ∙ ap (λ s. s ∷ drop (place + 1) steps) (sym is))
      ∙ ap (λ ns. plan_rows c joins place (step_seen step ∷ map step_seen (drop (place + 1) steps)) ns) (names_there names place name there ∙ ap (λ k. name ∷ drop k names) (one_more place)))) ∙ h

  -- where steps end
  pub steps_end : (place : ℕ) (rows : List (List (List ℕ))) → drop place steps ≡ [] → rows ++ rows_behind place ≡ plan_rows c joins 0 (map step_seen steps) names → rows ≡ plan_rows c joins 0 (map step_seen steps) names
  steps_end place rows none h = sym (append-nil rows) ∙ ap (λ r. rows ++ r) (sym (ap (λ ss. plan_rows c joins place (map step_seen ss) (drop place names)) none)) ∙ h
