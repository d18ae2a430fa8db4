-- The groups of the tuples that a grouped query keeps.
use Rattle.std.{specs.Prelude.{not, Bool, true, false, ℕ, List, [], ◌∷◌, map, nat_eq}, specs.Cmp.Lexicographic.{pointwise}}
use Rattle.mob_typed.{specs.Trees.{TypedTree, typed, none, more}, specs.Selects.{TypedSelectParts}}
use Rattle.mob_value.{specs.declared.value.Value.{Value}, specs.declared.value.Value.TheVariants.{Null}, specs.declared.store.Store.{Store}}
use Rattle.mob_literal.specs.Fields.{field_text}
use Rattle.mob_meaning.specs.Scene.{Scene, scene, leaf_value}
use Rattle.mob_groups.specs.Groups.{groups_by}
use Rattle.mob_meaning.specs.declared.terms.Terms.{Terms}

-- whether a list is empty
abbrev pub is_bare_column : {X : Type 0} → List X → Bool
is_bare_column [] = true
is_bare_column (x ∷ xs) = false

-- the value of a column on a tuple; an expression with operands is not a column
abbrev pub column_on : Scene → TypedTree → Value
column_on s (typed o ty place none) = leaf_value s o ty
column_on s (typed o ty place (more e rest)) = Null

-- The printed fields of the columns of GROUP BY. Values of one column are the same exactly if their
-- fields are, and NULL equals NULL.
abbrev pub group_fields : TypedSelectParts → Store → Terms → List ℕ → List (List ℕ)
group_fields select store terms tuple = map (λ g. field_text terms.epoch (column_on (scene store select.from tuple terms) g)) select.groups

-- whether two lists of texts are the same
abbrev pub same_texts : List (List ℕ) → List (List ℕ) → Bool
same_texts = pointwise (pointwise nat_eq)

-- whether two tuples are in one group
abbrev pub same_group : TypedSelectParts → Store → Terms → List ℕ → List ℕ → Bool
same_group select store terms t u = same_texts (group_fields select store terms t) (group_fields select store terms u)

-- the tuples, each under its fields
abbrev pub under_fields : TypedSelectParts → Store → Terms → List (List ℕ) → List (List (List ℕ) × List ℕ)
under_fields select store terms tuples = map (λ t. (group_fields select store terms t, t)) tuples

-- whether a query has GROUP BY
abbrev pub has_groups : TypedSelectParts → Bool
has_groups select = not (is_bare_column select.groups)

-- The groups of the kept tuples, in the order of their first tuples; without GROUP BY one group,
-- even if no tuple is kept.
abbrev pub groups_on : TypedSelectParts → Store → Terms → List (List ℕ) → List (List (List ℕ))
groups_on select store terms kept = groups_by (has_groups select) same_texts (under_fields select store terms kept)

-- the value of a column on the first tuple of a group; NULL if the group has none
abbrev pub first_value : TypedSelectParts → Store → Terms → List (List ℕ) → TypedTree → Value
first_value select store terms [] column = Null
first_value select store terms (t ∷ group) column = column_on (scene store select.from t terms) column
