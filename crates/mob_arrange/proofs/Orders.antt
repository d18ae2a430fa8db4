-- The order of rows is total up to ties.
use Rattle.std.{specs.Cmp.{IsTotalOrder, nat_cmp_total, bool_cmp_total, on_total, back_total, then_total, IsStrictWeakOrder}, specs.Ordering.{bool_cmp, nat_cmp, ordering_then, then_cmp, on, is_lt}}
use Rattle.std.{specs.declared.cmp.Ordering.{Ordering}, specs.declared.cmp.Ordering.TheVariants.{Less, Equal, Greater}}
use Rattle.std.{proofs.Common.{◌≡◌, ℕ, pos, Bool, true, false, List, [], ◌∷◌, refl, ap, ◌∙◌, subst}, proofs.lemmas.List.MinMax.{ranks_by}}
use Rattle.mob_ratio.specs.Ratio.{Ratio, over}
use Rattle.mob_slice.{specs.Ranks.{compare_ratio, compare_bytes}, specs.RankLaws.{ranking_bytes, ranking_ratio}}
use Rattle.mob_value.specs.declared.value.Value.{Value}
use Rattle.mob_value.specs.declared.value.Value.TheVariants.{Null, Bool as Truth, Number, Text, Moment, Point, Polygon, Span, SpanSet, Box, MovingBool, MovingInt, MovingFrac, MovingText, MovingPoint}
use Rattle.mob_arrange.{specs.Keyed.{Keyed}, specs.Order.{type_rank, compare_values, compare_key, first_key, other_keys, compare_keys, compare_rows}}

nothing : Ratio
nothing = over (pos 0) 1

number_of : Value → Ratio
number_of (Number q) = q
number_of (Moment t) = t
number_of v = nothing

bytes_of : Value → List ℕ
bytes_of (Text s) = s
bytes_of v = []

truth_of : Value → Bool
truth_of (Truth b) = b
truth_of v = false

-- by rank, by truth, by bytes and by number, each of which a value has or not
by_parts : Value → Value → Ordering
by_parts = then_cmp (on type_rank nat_cmp) (then_cmp (on truth_of bool_cmp) (then_cmp (on bytes_of compare_bytes) (on number_of compare_ratio)))

parts_total : IsTotalOrder by_parts
unfolding by_parts
parts_total =
    then_total (on_total type_rank nat_cmp_total)
    (then_total (on_total truth_of bool_cmp_total) (then_total (on_total bytes_of ranking_bytes.total) (on_total number_of ranking_ratio.total)))

then_equal : (o : Ordering) → ordering_then o Equal ≡ o
then_equal Less = refl
then_equal Equal = refl
then_equal Greater = refl

level : compare_ratio nothing nothing ≡ Equal
level = (ranking_ratio.level nothing nothing).1 refl

last : (o : Ordering) → ordering_then o (compare_ratio nothing nothing) ≡ o
last o = ap (ordering_then o) level ∙ then_equal o

same_parts : (a b : Value) → by_parts a b ≡ compare_values a b
unfolding by_parts number_of bytes_of truth_of
same_parts (Truth a) (Truth b) = last (bool_cmp a b)
same_parts (Number a) (Number b) = refl
same_parts (Text a) (Text b) = last (compare_bytes a b)
same_parts (Moment a) (Moment b) = refl
same_parts (Point a) (Point b) = last Equal
same_parts (Polygon a) (Polygon b) = last Equal
same_parts (Span a) (Span b) = last Equal
same_parts (SpanSet a) (SpanSet b) = last Equal
same_parts (Box a) (Box b) = last Equal
same_parts (MovingBool a) (MovingBool b) = last Equal
same_parts (MovingInt a) (MovingInt b) = last Equal
same_parts (MovingFrac a) (MovingFrac b) = last Equal
same_parts (MovingText a) (MovingText b) = last Equal
same_parts (MovingPoint a) (MovingPoint b) = last Equal
same_parts Null Null = last Equal
same_parts a b = refl

values_total : IsTotalOrder compare_values
values_total = subst IsTotalOrder (λ i a b. same_parts a b i) parts_total

key_total : (falls : Bool) → IsTotalOrder (compare_key falls)
key_total true = back_total values_total
key_total false = values_total

keys_total : (falls : List Bool) → IsTotalOrder (compare_keys falls)
keys_total [] = record { antisymm = λ vs ws. refl; trans = λ us vs ws h k. h; congr = λ us vs ws h. refl }
keys_total (f ∷ rest) = then_total (on_total first_key (key_total f)) (on_total other_keys (keys_total rest))

-- values are before others if their keys compare as less
pub keys_ranked : (falls : List Bool) → IsStrictWeakOrder (λ vs ws. is_lt (compare_keys falls vs ws))
keys_ranked falls = ranks_by (keys_total falls) (λ (values : List Value). values)

-- a row is before another if their keys compare as less
pub rows_ranked : (falls : List Bool) → IsStrictWeakOrder (λ a b. is_lt (compare_rows falls a b))
rows_ranked falls = ranks_by (keys_total falls) (λ (row : Keyed). row.keys)
