-- The value at a place of a row.
use Rattle.std.{specs.declared.cmp.Ordering.{Ordering}, specs.declared.cmp.Ordering.TheVariants.{Equal}}
use Rattle.std.{proofs.Common.{◌≡◌, ◌∙◌, refl, sym, ap, ap₂, Bool, ℕ, zero, suc, ◌+◌, ◌<◌, arith, List, [], ◌∷◌, length, get_or, map, drop}, proofs.lemmas.List.{get_or-map, length-map}}
use Rattle.mob_value.specs.declared.value.Value.{Value}
use Rattle.mob_arrange.specs.Order.{compare_key, compare_keys, first_key, other_keys}

-- the first value after so many others
pub first_dropped : (values : List Value) (n : ℕ) (d : Value) → n < length values → first_key (drop n values) ≡ get_or values n d
first_dropped [] n d lt = absurd (omega arith)
first_dropped (v ∷ values) zero d lt = refl
first_dropped (v ∷ values) (suc n) d lt = first_dropped values n d (omega arith)

pub others_dropped : (values : List Value) (n : ℕ) → other_keys (drop n values) ≡ drop (n + 1) values
others_dropped [] zero = refl
others_dropped [] (suc n) = let one : suc n + 1 ≡ suc (n + 1) = omega arith in rw one refl
others_dropped (v ∷ values) zero = refl
others_dropped (v ∷ values) (suc n) = let one : suc n + 1 ≡ suc (n + 1) = omega arith in rw one (others_dropped values n)

-- the printed value after so many others
pub field_dropped : (print : Value → List ℕ) (k n : ℕ) (values : List Value) → n < length (map print (drop k values)) → print (first_key (drop (k + n) values)) ≡ get_or (map print (drop k values)) n []
field_dropped print zero n values lt =
    let same : 0 + n ≡ n = omega arith in
    let among : n < length values = omega (arith, lt, length-map values print) in
    let first = first_key (drop n values) in
    rw same (ap print (first_dropped values n first among) ∙ sym (get_or-map print values n first [] among))
field_dropped print (suc k) n [] lt = absurd (omega arith)
field_dropped print (suc k) n (v ∷ values) lt =
    let one : suc k + n ≡ suc (k + n) = omega arith in
    rw one (field_dropped print k n values lt)

-- keys whose first ones tie are in the order of the later ones
pub next_keys : (falls : Bool) (rest all : List Bool) (place : ℕ) (a b : List Value) (order : Ordering) → all ≡ falls ∷ rest → compare_key falls (first_key (drop place a)) (first_key (drop place b)) ≡ Equal
    → order ≡ compare_keys rest (drop (place + 1) a) (drop (place + 1) b) → order ≡ compare_keys all (drop place a) (drop place b)
next_keys falls rest all place a b order split tie next = rw (split, tie) (next ∙ ap₂ (compare_keys rest) (sym (others_dropped a place)) (sym (others_dropped b place)))
