-- Worked groups and aggregates, by the definitions.
use Rattle.std.{specs.Prelude.{pos}, proofs.Common.{◌≡◌, true, false, [], ◌∷◌, None, refl}}
use Rattle.mob_operators.specs.declared.aggregate.AggKind.TheVariants.{CountAll, Count, Sum, TCount, TAnd}
use Rattle.mob_typed.{specs.Trees.{typed, none}, specs.Selects.{TypedSelectParts}}
use Rattle.mob_value.{specs.declared.value.Value.TheVariants.{Null, Bool as Truth}, specs.declared.store.Store.{Store}}
use Rattle.mob_tail.{specs.Aggregated.{counted_values, IsAggregated, AddingPasses}, specs.Groups.{groups_on}}
use Rattle.mob_ast.specs.declared.types.SqlType.TheVariants as sql
use Rattle.mob_operators.specs.declared.operator.Op.TheVariants as op
use Rattle.mob_slice.specs.declared.mode.Mode.TheVariants.{Narrow}

-- count(*) counts NULL, count does not, and the sum of no numbers is NULL
rows_counted : IsAggregated CountAll sql.Int (Null ∷ Null ∷ []) (counted_values 2)
rows_counted = refl

values_counted : IsAggregated Count sql.Int (Null ∷ Truth true ∷ Truth false ∷ []) (counted_values 2)
values_counted = refl

nothing_counted : IsAggregated Count sql.Int [] (counted_values 0)
nothing_counted = refl

nothing_summed : IsAggregated Sum sql.Int (Null ∷ []) Null
nothing_summed = refl

nothing_over_time : IsAggregated TCount sql.TInt (Null ∷ []) Null
nothing_over_time = (None, λ t. refl, refl)

-- a first value never overflows
first_adds : AddingPasses false TAnd sql.TBool [] (Truth true) None
first_adds = (Null, (None, λ t. refl, refl), (Null, (None, λ t. refl, refl), refl))

-- one table with the bool true, NULL, true; a query of it by this column
abbrev store : Store
store = record { tables = record { rows = (Truth true ∷ []) ∷ (Null ∷ []) ∷ (Truth true ∷ []) ∷ [] } ∷ []; consts = [] }

abbrev by_column : TypedSelectParts
by_column = record { distinct = false; items = []; from = 0 ∷ []; names = []; joins = None ∷ []; cond = None; grouped = true; groups = typed (op.Column 0 0) sql.Bool 0 none ∷ []; aggs = []; keys = []; key_items = []; limit = None }

abbrev of_all : TypedSelectParts
of_all = record { distinct = false; items = []; from = 0 ∷ []; names = []; joins = None ∷ []; cond = None; grouped = true; groups = []; aggs = []; keys = []; key_items = []; limit = None }

-- groups come in the order of their first tuple, and NULL is a group of its own
two_groups : groups_on by_column store (record { epoch = pos 10957; mode = Narrow }) ((0 ∷ []) ∷ (1 ∷ []) ∷ (2 ∷ []) ∷ []) ≡ ((0 ∷ []) ∷ (2 ∷ []) ∷ []) ∷ ((1 ∷ []) ∷ []) ∷ []
two_groups = refl

-- without GROUP BY there is one group, even of no tuples
one_group : groups_on of_all store (record { epoch = pos 10957; mode = Narrow }) ((0 ∷ []) ∷ (1 ∷ []) ∷ []) ≡ ((0 ∷ []) ∷ (1 ∷ []) ∷ []) ∷ []
one_group = refl

empty_group : groups_on of_all store (record { epoch = pos 10957; mode = Narrow }) [] ≡ [] ∷ []
empty_group = refl

no_group : groups_on by_column store (record { epoch = pos 10957; mode = Narrow }) [] ≡ []
no_group = refl
