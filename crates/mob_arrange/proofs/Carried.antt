-- An order of the values of rows is an order of the rows.
use Rattle.std.{specs.List.{filter}, specs.List.Sorted.{IsPermutation, IsSorted, IsSortedBy, IsStable, ties}, specs.Cmp.{IsStrictWeakOrder}, specs.Ordering.{is_lt, ordering_then}}
use Rattle.std.proofs.Common.{◌≡◌, ◌⊎◌, inl, inr, ℕ, ℤ, zero, suc, ◌+◌, ◌<◌, Bool, true, false, cond, List, [], ◌∷◌, length, map, take, refl, sym, ap, ap₂, subst, ◌∙◌, true≢false, arith}
use Rattle.std.{proofs.lemmas.List.{get_or-map}, proofs.lemmas.List.Sorted.{IsPermutation-map}}
use Rattle.mob_value.specs.declared.value.Value.{Value}
use Rattle.mob_arrange.{specs.Keyed.{Keyed, row_of_values}, specs.Order.{compare_key, first_key, other_keys, compare_keys, compare_rows, IsOrderedByKeys}, proofs.Orders.{rows_ranked}}

module _ {X Y : Type 0} (f : X → Y) where
  filtered : (p : Y → Bool) (xs : List X) → filter p (map f xs) ≡ map f (filter (λ x. p (f x)) xs)
  filtered p [] = refl
  filtered p (x ∷ xs) = by (p (f x)) (filtered p xs)
    where
      by : (b : Bool) → filter p (map f xs) ≡ map f (filter (λ x. p (f x)) xs) → cond b (f x ∷ filter p (map f xs)) (filter p (map f xs)) ≡ map f (cond b (x ∷ filter (λ x. p (f x)) xs) (filter (λ x. p (f x)) xs))
      by true e = ap (λ z. f x ∷ z) e
      by false e = e

same_filter : {X : Type 0} (p q : X → Bool) → ((x : X) → p x ≡ q x) → (xs : List X) → filter p xs ≡ filter q xs
same_filter p q e [] = refl
same_filter p q e (x ∷ xs) = ap₂ (λ (b : Bool) zs. cond b (x ∷ zs) zs) (e x) (same_filter p q e xs)

-- some entry passes a test, or none is left
module _ {X : Type 0} (p : X → Bool) where
  passing : (xs : List X) → ((x : X) × (p x ≡ true)) ⊎ (filter p xs ≡ [])
  passing [] = inr refl
  passing (x ∷ xs) = by (p x) refl (passing xs)
    where
      by : (b : Bool) → p x ≡ b → ((x : X) × (p x ≡ true)) ⊎ (filter p xs ≡ []) → ((x : X) × (p x ≡ true)) ⊎ (filter p (x ∷ xs) ≡ [])
      by true e rest = inl (x, e)
      by false e (inl found) = inl found
      by false e (inr none) = inr (rw e none)

module _ {Y : Type 0} (lt : Y → Y → Bool) (order : IsStrictWeakOrder lt) where
  neither : (y z : Y) → ties lt y z ≡ true → (lt y z ≡ false) × (lt z y ≡ false)
  neither y z h = by (lt y z) (lt z y) refl refl h
    where
      by : (a b : Bool) → lt y z ≡ a → lt z y ≡ b → ties lt y z ≡ true → (lt y z ≡ false) × (lt z y ≡ false)
      by false false e k h = (e, k)
      by true b e k h = absurd (true≢false (sym h ∙ rw e refl))
      by false true e k h = absurd (true≢false (sym h ∙ rw (e, k) refl))

  -- values that tie are before the same values
  level : (y z w : Y) → lt y z ≡ false → lt z y ≡ false → lt y w ≡ lt z w
  level y z w h k = by (lt y w) (lt z w) refl refl
    where
      by : (a b : Bool) → lt y w ≡ a → lt z w ≡ b → a ≡ b
      by true true e q = refl
      by false false e q = refl
      by true false e q = absurd (true≢false (sym e ∙ order.chain y z w h q))
      by false true e q = absurd (true≢false (sym q ∙ order.chain z y w k e))

  -- and after the same values
  level_behind : (y z w : Y) → lt y z ≡ false → lt z y ≡ false → lt w y ≡ lt w z
  level_behind y z w h k = by (lt w y) (lt w z) refl refl
    where
      by : (a b : Bool) → lt w y ≡ a → lt w z ≡ b → a ≡ b
      by true true e q = refl
      by false false e q = refl
      by true false e q = absurd (true≢false (sym e ∙ order.chain w z y q k))
      by false true e q = absurd (true≢false (sym q ∙ order.chain w y z e h))

  same_ties : (y z : Y) → ties lt y z ≡ true → (w : Y) → ties lt y w ≡ ties lt z w
  same_ties y z h w = let n = neither y z h in rw (level y z w n.0 n.1, level_behind y z w n.0 n.1) refl

  module _ {X : Type 0} (f : X → Y) where
    pub stable_seen : (xs ys : List X) → ((x : X) → filter (ties (λ a b. lt (f a) (f b)) x) ys ≡ filter (ties (λ a b. lt (f a) (f b)) x) xs) → (z : Y) → filter (ties lt z) (map f ys) ≡ filter (ties lt z) (map f xs)
    stable_seen xs ys stable z = filtered f (ties lt z) ys ∙ ap (map f) (by (passing passes xs) (passing passes ys)) ∙ sym (filtered f (ties lt z) xs)
      where
        passes : X → Bool
        passes = λ x. ties lt z (f x)

        from : (x : X) → passes x ≡ true → filter passes ys ≡ filter passes xs
        from x h =
            let same = λ (w : X). same_ties z (f x) h (f w) in
            same_filter passes (ties (λ a b. lt (f a) (f b)) x) same ys ∙ stable x ∙ sym (same_filter passes (ties (λ a b. lt (f a) (f b)) x) same xs)

        by : ((x : X) × (passes x ≡ true)) ⊎ (filter passes xs ≡ []) → ((x : X) × (passes x ≡ true)) ⊎ (filter passes ys ≡ []) → filter passes ys ≡ filter passes xs
        by (inl found) other = from found.0 found.1
        by (inr none) (inl found) = from found.0 found.1
        by (inr none) (inr neither) = neither ∙ sym none

    pub sorted_seen : (xs : List X) → IsSortedBy (λ a b. lt (f a) (f b)) xs → IsSortedBy lt (map f xs)
    sorted_seen [] up k d low high = absurd (omega arith)
    sorted_seen (x ∷ xs) up k d low high =
        let many : length (map f (x ∷ xs)) ≡ length (x ∷ xs) = counted (x ∷ xs) in
        let next : k + 1 < length (x ∷ xs) = omega arith in
        let this : k < length (x ∷ xs) = omega arith in
        rw (get_or-map f (x ∷ xs) (k + 1) x d next, get_or-map f (x ∷ xs) k x d this) (up k x low next)
      where
        counted : (ys : List X) → length (map f ys) ≡ length ys
        counted [] = refl
        counted (y ∷ ys) = let e = counted ys in omega (arith, e)

none : (n : ℕ) → ◌≡◌ {A = List Value} [] (take n [])
none zero = refl
none (suc n) = refl

-- keys are compared only as far as there are directions
taken : (falls : List Bool) (vs ws : List Value) → compare_keys falls (take (length falls) vs) (take (length falls) ws) ≡ compare_keys falls vs ws
taken [] vs ws = refl
taken (f ∷ falls) vs ws = ap₂ ordering_then (ap₂ (compare_key f) (first vs) (first ws)) (ap₂ (compare_keys falls) (others vs) (others ws) ∙ taken falls (other_keys vs) (other_keys ws))
  where
    first : (us : List Value) → first_key (take (length (f ∷ falls)) us) ≡ first_key us
    first [] = refl
    first (u ∷ us) = refl

    others : (us : List Value) → other_keys (take (length (f ∷ falls)) us) ≡ take (length falls) (other_keys us)
    others [] = none (length falls)
    others (u ∷ us) = refl

module _ (falls : List Bool) (day : ℤ) where
  row_of : List Value → Keyed
  row_of = row_of_values day (length falls)

  compared : (vs ws : List Value) → compare_rows falls (row_of vs) (row_of ws) ≡ compare_keys falls vs ws
  unfolding row_of
  compared vs ws = taken falls vs ws

  pub values_ordered : (rows ordered : List (List Value)) → IsPermutation rows ordered → IsSorted (compare_keys falls) ordered → IsStable (compare_keys falls) rows ordered → IsOrderedByKeys falls (map (row_of_values day (length falls)) rows) (map (row_of_values day (length falls)) ordered)
  unfolding row_of
  values_ordered rows ordered same sorted stable =
      let before = λ (a b : Keyed). is_lt (compare_rows falls a b) in
      let by_values : (λ (vs ws : List Value). is_lt (compare_keys falls vs ws)) ≡ (λ (vs ws : List Value). before (row_of vs) (row_of ws)) = λ i vs ws. is_lt (sym (compared vs ws) i) in
      record {
        same = IsPermutation-map (row_of_values day (length falls)) rows ordered same;
        sorted = sorted_seen before (rows_ranked falls) row_of ordered (subst (λ lt. IsSortedBy lt ordered) by_values sorted);
        stable = stable_seen before (rows_ranked falls) row_of rows ordered (subst (λ lt. (vs : List Value) → filter (ties lt vs) ordered ≡ filter (ties lt vs) rows) by_values stable);
      }
