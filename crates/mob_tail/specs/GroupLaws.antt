-- Groups separate different values, and no count overflows.
use Rattle.std.{specs.Prelude.{◌≡◌, ◌⊎◌, ◌↔◌, ◌+◌, ◌<◌, ◌^◌, true, ℕ, ℤ, List, Some, length}, specs.List.{AllByRecursion}}
use Rattle.mob_ast.specs.declared.types.SqlType.{SqlType}
use Rattle.mob_value.{specs.declared.value.Value.{Value}, specs.declared.value.Value.TheVariants.{Null}, specs.declared.store.Store.{Store}}
use Rattle.mob_literal.{specs.Fields.{field_text}, specs.SqlReadable.{IsReadableAs}}
use Rattle.mob_meaning.{specs.Evaluation.{PlacedFormula}, specs.Scene.{scene}}
use Rattle.mob_typed.{specs.declared.typed.Agg.{Agg}, specs.Trees.{TypedTree, type_of}, specs.Selects.{TypedSelectParts}}
use Rattle.mob_clauses.specs.Keys.{is_key}
use Rattle.mob_catalog.specs.OwnTypes.{IsReadAs}
use Rattle.mob_tail.{specs.Groups.{column_on, same_group}, specs.GroupedAnswers.{AddingFails}, specs.States.{is_counting}}
use Rattle.mob_meaning.specs.declared.terms.Terms.{Terms}

-- a value of a type that a text can have, or NULL
abbrev pub IsStoredAs : SqlType → ℤ → Value → Type 0
IsStoredAs type day v = (v ≡ Null) ⊎ IsReadableAs type day v

-- Two values of one column have the same field only if they are the same value, and the field of
-- NULL differs from all others.
abbrev pub FieldsTellValues : Type 0
FieldsTellValues = (type : SqlType) (day : ℤ) (v w : Value) → IsStoredAs type day v → IsStoredAs type day w → field_text day v ≡ field_text day w → v ≡ w

-- a column has a type that GROUP BY allows, and its value on a tuple was read as one of that type,
-- or is NULL
abbrev pub IsKeyOn : TypedSelectParts → Store → Terms → List ℕ → TypedTree → Type 0
IsKeyOn select store terms tuple column = (is_key (type_of column) ≡ true) × IsReadAs (type_of column) (column_on (scene store select.from tuple terms) column)

-- a column has the same value on two tuples, where NULL equals NULL
abbrev pub HasSameValue : TypedSelectParts → Store → Terms → List ℕ → List ℕ → TypedTree → Type 0
HasSameValue select store terms t u column = column_on (scene store select.from t terms) column ≡ column_on (scene store select.from u terms) column

-- Two tuples with such values in the columns of GROUP BY are in one group exactly if each of these
-- columns has the same value on both.
abbrev pub GroupsAreOfValues : Type 0
GroupsAreOfValues = (select : TypedSelectParts) (store : Store) (terms : Terms) (t u : List ℕ) → AllByRecursion (IsKeyOn select store terms t) select.groups → AllByRecursion (IsKeyOn select store terms u) select.groups
    → (same_group select store terms t u ≡ true) ↔ AllByRecursion (HasSameValue select store terms t u) select.groups

-- Adding to a count of fewer than 2^62 - 1 values does not overflow. So no count over tuples that
-- fit in memory has a fault of adding, and counts may be added in any order.
abbrev pub NoCountPasses : Type 0
NoCountPasses = (select : TypedSelectParts) (store : Store) (terms : Terms) (before : List (List ℕ)) (tuple : List ℕ) (e : TypedTree) (agg : Agg) (f : PlacedFormula) → is_counting agg.kind ≡ true → length before + 1 < 2 ^ 62 → AddingFails select store terms before tuple (e, Some agg) f → ⊥
