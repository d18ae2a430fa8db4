-- The invariant of a loop that numbers groups by their keys.
use Rattle.std.{specs.Prelude.{◌≡◌, Bool, true, false, cond, not, ℕ, ◌+◌, refl, List, [], ◌∷◌, ◌++◌, map, filter, if◌then◌else◌, ◌||◌}, specs.List.{list_any, position_or_len}}
use Rattle.std.{specs.Cmp.{IsEquivalence}, proofs.Common.{ap, ap₂, sym, ◌∙◌, true≢false, append_assoc, append-nil}}
use Rattle.mob_groups.specs.Groups.{first_keys, group_number}

module _ {K : Type 0} (same : K → K → Bool) where
  -- the keys so far with one more, if it is new
  abbrev pub with_key : List K → K → List K
  with_key ks k = if list_any (same k) ks then ks else ks ++ k ∷ []

  -- the keys so far with all that follow
  abbrev pub with_keys : List K → List K → List K
  with_keys ks [] = ks
  with_keys ks (k ∷ rest) = with_keys (with_key ks k) rest

  -- the numbers of those that follow
  abbrev pub numbers_on : List K → List K → List ℕ
  numbers_on ks [] = []
  numbers_on ks (k ∷ rest) = position_or_len (same k) ks ∷ numbers_on (with_key ks k) rest

  -- those that are not among these keys
  abbrev pub others : List K → List K → List K
  others ks js = filter (λ j. not (list_any (same j) ks)) js

-- what is found in a list is found at the same place in a longer one
found_before : {K : Type 0} (p : K → Bool) (ks js : List K) → list_any p ks ≡ true → position_or_len p (ks ++ js) ≡ position_or_len p ks
found_before p [] js h = absurd (true≢false (sym h))
found_before p (k ∷ ks) js h = by (p k) refl h (found_before p ks js)
  where
    by : (b : Bool) → p k ≡ b → (b || list_any p ks) ≡ true → (list_any p ks ≡ true → position_or_len p (ks ++ js) ≡ position_or_len p ks) → cond (not (p k)) (1 + position_or_len p (ks ++ js)) 0 ≡ cond (not (p k)) (1 + position_or_len p ks) 0
    by true e h f = ap (λ b. cond (not b) (1 + position_or_len p (ks ++ js)) 0) e ∙ sym (ap (λ b. cond (not b) (1 + position_or_len p ks) 0) e)
    by false e h f = ap (λ n. cond (not (p k)) (1 + n) 0) (f h)

-- what is not found earlier is found next
found_next : {K : Type 0} (p : K → Bool) (ks : List K) (k : K) (js : List K) → list_any p ks ≡ false → p k ≡ true → position_or_len p ((ks ++ k ∷ []) ++ js) ≡ position_or_len p ks
found_next p [] k js h e = ap (λ b. cond (not b) (1 + position_or_len p js) 0) e
found_next p (i ∷ ks) k js h e = by (p i) refl h (found_next p ks k js)
  where
    by : (b : Bool) → p i ≡ b → (b || list_any p ks) ≡ false → (list_any p ks ≡ false → p k ≡ true → position_or_len p ((ks ++ k ∷ []) ++ js) ≡ position_or_len p ks) → cond (not (p i)) (1 + position_or_len p ((ks ++ k ∷ []) ++ js)) 0 ≡ cond (not (p i)) (1 + position_or_len p ks) 0
    by true m h f = absurd (true≢false h)
    by false m h f = ap (λ n. cond (not (p i)) (1 + n) 0) (f h e)

module _ {K : Type 0} (same : K → K → Bool) (equal : IsEquivalence same) where
  -- equal keys are equal to the same keys
  any_same : (j k : K) (ks : List K) → same j k ≡ true → list_any (same j) ks ≡ list_any (same k) ks
  any_same j k [] e = refl
  any_same j k (l ∷ ks) e = ap₂ (λ a b. a || b) (equal.congr j k l e) (any_same j k ks e)

  any_more : (j k : K) (ks : List K) → list_any (same j) (ks ++ k ∷ []) ≡ (same j k || list_any (same j) ks)
  any_more j k [] = refl
  any_more j k (l ∷ ks) = ap (λ b. same j l || b) (any_more j k ks) ∙ turned (same j l) (same j k) (list_any (same j) ks)
    where
      turned : (a b c : Bool) → (a || (b || c)) ≡ (b || (a || c))
      turned true true c = refl
      turned true false c = refl
      turned false b c = refl

  -- of those that are not among the keys, those not equal to an old key are all
  others_old : (ks : List K) (k : K) (js : List K) → list_any (same k) ks ≡ true → others same ks (filter (λ j. not (same k j)) js) ≡ others same ks js
  others_old ks k [] h = refl
  others_old ks k (j ∷ js) h = by (same k j) refl (others_old ks k js h)
    where
      by : (b : Bool) → same k j ≡ b → others same ks (filter (λ j. not (same k j)) js) ≡ others same ks js → others same ks (cond (not (same k j)) (j ∷ filter (λ j. not (same k j)) js) (filter (λ j. not (same k j)) js)) ≡ cond (not (list_any (same j) ks)) (j ∷ others same ks js) (others same ks js)
      by true e f = ap (λ b. others same ks (cond (not b) (j ∷ filter (λ j. not (same k j)) js) (filter (λ j. not (same k j)) js))) e ∙ f ∙ sym (ap (λ b. cond (not b) (j ∷ others same ks js) (others same ks js)) (sym (any_same k j ks e) ∙ h))
      by false e f = ap (λ b. others same ks (cond (not b) (j ∷ filter (λ j. not (same k j)) js) (filter (λ j. not (same k j)) js))) e ∙ ap (λ z. cond (not (list_any (same j) ks)) (j ∷ z) z) f

  others_new : (ks : List K) (k : K) (js : List K) → others same ks (filter (λ j. not (same k j)) js) ≡ others same (ks ++ k ∷ []) js
  others_new ks k [] = refl
  others_new ks k (j ∷ js) = by (same k j) refl (others_new ks k js)
    where
      more : list_any (same j) (ks ++ k ∷ []) ≡ (same k j || list_any (same j) ks)
      more = any_more j k ks ∙ ap (λ b. b || list_any (same j) ks) (equal.symm j k)

      by : (b : Bool) → same k j ≡ b → others same ks (filter (λ j. not (same k j)) js) ≡ others same (ks ++ k ∷ []) js
          → others same ks (cond (not (same k j)) (j ∷ filter (λ j. not (same k j)) js) (filter (λ j. not (same k j)) js)) ≡ cond (not (list_any (same j) (ks ++ k ∷ []))) (j ∷ others same (ks ++ k ∷ []) js) (others same (ks ++ k ∷ []) js)
      by true e f = ap (λ b. others same ks (cond (not b) (j ∷ filter (λ j. not (same k j)) js) (filter (λ j. not (same k j)) js))) e ∙ f ∙ sym (ap (λ b. cond (not b) (j ∷ others same (ks ++ k ∷ []) js) (others same (ks ++ k ∷ []) js)) (more ∙ ap (λ b. b || list_any (same j) ks) e))
      by false e f =
          ap (λ b. others same ks (cond (not b) (j ∷ filter (λ j. not (same k j)) js) (filter (λ j. not (same k j)) js))) e
          ∙ ap (λ z. cond (not (list_any (same j) ks)) (j ∷ z) z) f
          ∙ sym (ap (λ b. cond (not b) (j ∷ others same (ks ++ k ∷ []) js) (others same (ks ++ k ∷ []) js)) (more ∙ ap (λ b. b || list_any (same j) ks) e))

  -- the keys so far with all that follow: those so far, then the first ones of those that follow
  keys_are : (ks rest : List K) → with_keys same ks rest ≡ ks ++ others same ks (first_keys same rest)
  keys_are ks [] = sym (append-nil ks)
  keys_are ks (k ∷ rest) = by (list_any (same k) ks) refl (keys_are ks rest) (keys_are (ks ++ k ∷ []) rest)
    where
      by : (b : Bool) → list_any (same k) ks ≡ b → with_keys same ks rest ≡ ks ++ others same ks (first_keys same rest) → with_keys same (ks ++ k ∷ []) rest ≡ (ks ++ k ∷ []) ++ others same (ks ++ k ∷ []) (first_keys same rest)
          → with_keys same (with_key same ks k) rest ≡ ks ++ cond (not (list_any (same k) ks)) (k ∷ others same ks (filter (λ j. not (same k j)) (first_keys same rest))) (others same ks (filter (λ j. not (same k j)) (first_keys same rest)))
      by true e old new =
          ap (λ (b : Bool). with_keys same (if b then ks else ks ++ k ∷ []) rest) e ∙ old
          ∙ ap (λ z. ks ++ z) (sym (others_old ks k (first_keys same rest) e))
          ∙ sym (ap (λ b. ks ++ cond (not b) (k ∷ others same ks (filter (λ j. not (same k j)) (first_keys same rest))) (others same ks (filter (λ j. not (same k j)) (first_keys same rest)))) e)
      by false e old new =
          ap (λ (b : Bool). with_keys same (if b then ks else ks ++ k ∷ []) rest) e ∙ new
          ∙ append_assoc ks (k ∷ []) (others same (ks ++ k ∷ []) (first_keys same rest))
          ∙ ap (λ z. ks ++ k ∷ z) (sym (others_new ks k (first_keys same rest)))
          ∙ sym (ap (λ b. ks ++ cond (not b) (k ∷ others same ks (filter (λ j. not (same k j)) (first_keys same rest))) (others same ks (filter (λ j. not (same k j)) (first_keys same rest)))) e)

  all_others : (js : List K) → others same [] js ≡ js
  all_others [] = refl
  all_others (j ∷ js) = ap (λ z. j ∷ z) (all_others js)

  pub keys_of_all : (keys : List K) → with_keys same [] keys ≡ first_keys same keys
  keys_of_all keys = keys_are [] keys ∙ all_others (first_keys same keys)

  -- a key keeps the place that it gets at first
  placed : (ks : List K) (k : K) (rest : List K) → position_or_len (same k) (with_keys same (with_key same ks k) rest) ≡ position_or_len (same k) ks
  placed ks k rest = by (list_any (same k) ks) refl
    where
      by : (b : Bool) → list_any (same k) ks ≡ b → position_or_len (same k) (with_keys same (with_key same ks k) rest) ≡ position_or_len (same k) ks
      by true e =
          ap (λ (b : Bool). position_or_len (same k) (with_keys same (if b then ks else ks ++ k ∷ []) rest)) e
          ∙ ap (position_or_len (same k)) (keys_are ks rest)
          ∙ found_before (same k) ks (others same ks (first_keys same rest)) e
      by false e =
          ap (λ (b : Bool). position_or_len (same k) (with_keys same (if b then ks else ks ++ k ∷ []) rest)) e
          ∙ ap (position_or_len (same k)) (keys_are (ks ++ k ∷ []) rest)
          ∙ found_next (same k) ks k (others same (ks ++ k ∷ []) (first_keys same rest)) e (equal.refl k)

  numbers_are : (ks rest : List K) → numbers_on same ks rest ≡ map (λ k. position_or_len (same k) (with_keys same ks rest)) rest
  numbers_are ks [] = refl
  numbers_are ks (k ∷ rest) = ap₂ (λ a b. a ∷ b) (sym (placed ks k rest)) (numbers_are (with_key same ks k) rest)

  pub numbers_of_all : (keys : List K) → numbers_on same [] keys ≡ map (group_number same keys) keys
  numbers_of_all keys = numbers_are [] keys ∙ ap (λ z. map (λ k. position_or_len (same k) z) keys) (keys_of_all keys)
