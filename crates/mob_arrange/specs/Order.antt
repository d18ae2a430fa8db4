-- The order of rows by their keys.
use Rattle.std.{specs.Prelude.{Bool, cond, ℕ, List, [], ◌∷◌}, specs.List.Sorted.{IsPermutation, IsSorted, IsStable}, specs.Ordering.{bool_cmp, nat_cmp, ordering_then}}
use Rattle.std.{specs.declared.cmp.Ordering.{Ordering}, specs.declared.cmp.Ordering.TheVariants.{Equal}}
use Rattle.mob_slice.specs.Ranks.{compare_ratio, compare_bytes}
use Rattle.mob_value.specs.declared.value.Value.{Value}
use Rattle.mob_value.specs.declared.value.Value.TheVariants.{Null, Bool as Truth, Number, Text, Moment, Point, Polygon, Span, SpanSet, Box, MovingBool, MovingInt, MovingFrac, MovingText, MovingPoint}
use Rattle.mob_arrange.specs.Keyed.{Keyed}

-- The rank of a value among values of other types, with NULL last. A key has one type, so only NULL
-- comes with its values.
abbrev pub type_rank : Value → ℕ
type_rank (Truth a) = 0
type_rank (Number a) = 1
type_rank (Text a) = 2
type_rank (Moment a) = 3
type_rank (Point a) = 4
type_rank (Polygon a) = 5
type_rank (Span a) = 6
type_rank (SpanSet a) = 7
type_rank (Box a) = 8
type_rank (MovingBool a) = 9
type_rank (MovingInt a) = 10
type_rank (MovingFrac a) = 11
type_rank (MovingText a) = 12
type_rank (MovingPoint a) = 13
type_rank Null = 14

-- false before true, numbers by size, texts by their bytes, moments by time
abbrev pub compare_values : Value → Value → Ordering
compare_values (Truth a) (Truth b) = bool_cmp a b
compare_values (Number a) (Number b) = compare_ratio a b
compare_values (Text a) (Text b) = compare_bytes a b
compare_values (Moment a) (Moment b) = compare_ratio a b
compare_values a b = nat_cmp (type_rank a) (type_rank b)

-- a descending key reverses the order, with NULL first
abbrev pub compare_key : Bool → Value → Value → Ordering
compare_key falls a b = cond falls (compare_values b a) (compare_values a b)

-- the first key; a row without one counts as NULL
abbrev pub first_key : List Value → Value
first_key [] = Null
first_key (v ∷ vs) = v

abbrev pub other_keys : List Value → List Value
other_keys [] = []
other_keys (v ∷ vs) = vs

-- by the first key, then by the second, and so on
abbrev pub compare_keys : List Bool → List Value → List Value → Ordering
compare_keys [] vs ws = Equal
compare_keys (falls ∷ rest) vs ws = ordering_then (compare_key falls (first_key vs) (first_key ws)) (compare_keys rest (other_keys vs) (other_keys ws))

abbrev pub compare_rows : List Bool → Keyed → Keyed → Ordering
compare_rows falls a b = compare_keys falls a.keys b.keys

-- the rows sorted by the keys; rows with equal keys keep their order
pub record IsOrderedByKeys (falls : List Bool) (rows ordered : List Keyed) : Type 0 where
  pub same : IsPermutation rows ordered
  pub sorted : IsSorted (compare_rows falls) ordered
  pub stable : IsStable (compare_rows falls) rows ordered
