-- What is remembered of the select list and the keys of a query.
use Rattle.std.{specs.Prelude.{◌++◌, ℕ, List, map}, specs.List.{AllByRecursion}}
use Rattle.mob_typed.{specs.Trees.{TypedTree}, specs.Selects.{TypedSelectParts}}
use Rattle.mob_value.specs.declared.store.Store.{Store}
use Rattle.mob_meaning.specs.Scene.{Scene, scene}
use Rattle.mob_eval.specs.Remembered.{Recollection, Fits, recollection_of}
use Rattle.mob_meaning.specs.declared.terms.Terms.{Terms}

-- the expressions of the select list
abbrev pub item_trees : TypedSelectParts → List TypedTree
item_trees select = map (λ item. item.0) select.items

-- the expressions of the keys
abbrev pub order_trees : TypedSelectParts → List TypedTree
order_trees select = map (λ key. key.0) select.keys

-- what may be remembered of these: an operator at a place of the script, if no other operator is at
-- that place
abbrev pub answer_recollection : TypedSelectParts → Store → Terms → Recollection
answer_recollection select store terms = recollection_of store select.from terms (item_trees select ++ order_trees select)

-- each expression of the select list and of the keys fits what is remembered
abbrev pub SelectFits : Recollection → TypedSelectParts → Scene → Type 0
SelectFits c select s = AllByRecursion (Fits c s) (item_trees select ++ order_trees select)

-- and does so on each tuple
abbrev pub AnswerFits : Recollection → TypedSelectParts → Store → Terms → Type 0
AnswerFits c select store terms = (tuple : List ℕ) → SelectFits c select (scene store select.from tuple terms)
