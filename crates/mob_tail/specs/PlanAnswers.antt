-- The answer of EXPLAIN: a plan in one column, with a line for each table of FROM.
use Rattle.std.specs.Prelude.{◌+◌, ◌++◌, ℕ, List, [], ◌∷◌, Bool, Option, codes, is_some, if◌then◌else◌}
use Rattle.mob_typed.{specs.Trees.{TypedTree}, specs.Selects.{on_of}}
use Rattle.mob_plan.specs.Plans.{PlanStep, scan, probe}
use Rattle.mob_catalog.{specs.Catalogue.{Catalogue}, specs.Indexes.{index_name}}

-- the name of the column
abbrev pub plan_names : List (List ℕ)
plan_names = codes "plan" ∷ []

-- the word before the step of a left-joined table
abbrev pub left_word : Bool → List ℕ
left_word left = if left then codes "left " else []

-- the line of a table with this name in the query, left-joined or not: how the query finds its rows
abbrev pub plan_line : Catalogue → Bool → PlanStep → List ℕ → List ℕ
plan_line c left scan name = left_word left ++ codes "scan " ++ name
plan_line c left (probe index key) name = left_word left ++ codes "probe " ++ name ++ codes " by " ++ index_name c index

-- The rows of the answer: a line for each step of the plan, with the name of its table in the
-- query. The first of these tables has this place in FROM.
abbrev pub plan_rows : Catalogue → List (Option TypedTree) → ℕ → List PlanStep → List (List ℕ) → List (List (List ℕ))
plan_rows c joins place [] names = []
plan_rows c joins place (step ∷ steps) [] = []
plan_rows c joins place (step ∷ steps) (name ∷ names) = (plan_line c (is_some (on_of joins place)) step name ∷ []) ∷ plan_rows c joins (place + 1) steps names
