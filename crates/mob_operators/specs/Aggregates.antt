-- The aggregates of grouped queries: their names, and the types that they take and give.
use Rattle.std.{specs.Prelude.{ℕ, List, [], ◌∷◌, Bool, Option, Some, None, codes, option_map, option_and_then, is_some, if◌then◌else◌}, specs.Str.{bytes_eq}}
use Rattle.mob_ast.{specs.declared.types.SqlType.{SqlType}, specs.declared.types.SqlType.TheVariants.{Int, TBool, TInt}}
use Rattle.mob_operators.{specs.declared.aggregate.AggKind.{AggKind}, specs.declared.aggregate.AggKind.TheVariants.{CountAll, Count, Sum, TCount, TSum, TAnd, TOr}, specs.Lookup.{has_type}}
use Rattle.mob_operators.specs.Table.{plain_number, moving_number, temporal_types}

-- The aggregate with this name. `count(*)` is an item of its own and has no name here.
abbrev pub aggregate_named : List ℕ → Option AggKind
aggregate_named name =
    if bytes_eq name (codes "count") then Some Count
    else if bytes_eq name (codes "sum") then Some Sum
    else if bytes_eq name (codes "tcount") then Some TCount
    else if bytes_eq name (codes "tsum") then Some TSum
    else if bytes_eq name (codes "tand") then Some TAnd
    else if bytes_eq name (codes "tor") then Some TOr
    else None

-- a type, if it is one of these
abbrev pub only_of : List SqlType → SqlType → Option SqlType
only_of class ty = if has_type class ty then Some ty else None

-- The type of an aggregate's result for an argument of this type, if it takes it. `count` takes
-- every type.
abbrev pub aggregate_type : AggKind → SqlType → Option SqlType
aggregate_type CountAll ty = Some Int
aggregate_type Count ty = Some Int
aggregate_type Sum ty = only_of plain_number ty
aggregate_type TCount ty = option_map (λ _. TInt) (only_of temporal_types ty)
aggregate_type TSum ty = only_of moving_number ty
aggregate_type TAnd ty = only_of (TBool ∷ []) ty
aggregate_type TOr ty = only_of (TBool ∷ []) ty

-- whether this is the name of an aggregate
abbrev pub is_aggregate : List ℕ → Bool
is_aggregate name = is_some (aggregate_named name)

-- The aggregate with this name, and the type of its result for an argument of this type.
abbrev pub aggregate_row : List ℕ → SqlType → Option (AggKind × SqlType)
aggregate_row name ty = option_and_then (λ kind. option_map (λ result. (kind, result)) (aggregate_type kind ty)) (aggregate_named name)
