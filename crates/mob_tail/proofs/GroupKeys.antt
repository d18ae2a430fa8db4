-- The groups of tuples by their fields, tuple by tuple.
use Rattle.std.specs.Prelude.{◌≡◌, Bool, true, false, cond, not, ◌||◌, ℕ, zero, suc, ◌+◌, ◌<◌, refl, List, [], ◌∷◌, ◌++◌, map, filter, length, get_or, set}
use Rattle.std.{specs.List.{AllZip, list_any, position_or_len}, specs.Cmp.{IsEquivalence}, specs.Cmp.Lexicographic.{lists_equiv, nat_list_eq_equiv}}
use Rattle.std.{proofs.Common.{ap, ap₂, sym, ◌∙◌, subst, arith, append-nil, true≢false}, proofs.Math.Bool.{or-true}}
use Rattle.mob_typed.{specs.Selects.{TypedSelectParts}, specs.Trees.{TypedTree}}
use Rattle.mob_literal.specs.Fields.{field_text}
use Rattle.mob_meaning.specs.Scene.{scene}
use Rattle.mob_value.specs.declared.store.Store.{Store}
use Rattle.mob_groups.specs.Groups.{first_keys, members}
use Rattle.mob_tagg.specs.Rows.{earlier}
use Rattle.mob_tail.{specs.declared.group_memos.Group.{Group}, specs.Groups.{is_bare_column, column_on, group_fields, same_texts, same_group, under_fields, has_groups}}
use Rattle.mob_meaning.specs.declared.terms.Terms.{Terms}

-- any two keys differ
abbrev pub AreApart : {K : Type 0} → (K → K → Bool) → List K → Type 0
AreApart same [] = Unit {0}
AreApart same (k ∷ ks) = (list_any (same k) ks ≡ false) × AreApart same ks

or_false : (a b : Bool) → (a || b) ≡ false → (a ≡ false) × (b ≡ false)
or_false true b e = absurd (true≢false e)
or_false false b e = (refl, e)

none_left : {K : Type 0} (p q : K → Bool) (ks : List K) → list_any p ks ≡ false → list_any p (filter q ks) ≡ false
none_left p q [] h = refl
none_left {K} p q (k ∷ ks) h = by (q k) (or_false (p k) (list_any p ks) h) (none_left p q ks)
  where
    by : (b : Bool) → (p k ≡ false) × (list_any p ks ≡ false) → (list_any p ks ≡ false → list_any p (filter q ks) ≡ false) → list_any p (cond b (k ∷ filter q ks) (filter q ks)) ≡ false
    by true m f = ap₂ (λ a b. a || b) m.0 (f m.1)
    by false m f = f m.1

apart_left : {K : Type 0} (same : K → K → Bool) (q : K → Bool) (ks : List K) → AreApart same ks → AreApart same (filter q ks)
apart_left same q [] a = tt
apart_left same q (k ∷ ks) a = by (q k) (apart_left same q ks a.1)
  where
    by : (b : Bool) → AreApart same (filter q ks) → AreApart same (cond b (k ∷ filter q ks) (filter q ks))
    by true f = (none_left (same k) q ks a.0, f)
    by false f = f

none_same : {K : Type 0} (p : K → Bool) (ks : List K) → list_any p (filter (λ j. not (p j)) ks) ≡ false
none_same p [] = refl
none_same {K} p (k ∷ ks) = by (p k) refl (none_same p ks)
  where
    by : (b : Bool) → p k ≡ b → list_any p (filter (λ j. not (p j)) ks) ≡ false → list_any p (cond (not b) (k ∷ filter (λ j. not (p j)) ks) (filter (λ j. not (p j)) ks)) ≡ false
    by true e f = f
    by false e f = ap₂ (λ a b. a || b) e f

pub firsts_apart : {K : Type 0} (same : K → K → Bool) (ks : List K) → AreApart same (first_keys same ks)
firsts_apart same [] = tt
firsts_apart same (k ∷ ks) = (none_same (same k) (first_keys same ks), apart_left same (λ j. not (same k j)) (first_keys same ks) (firsts_apart same ks))

module _ {K : Type 0} (same : K → K → Bool) (equal : IsEquivalence same) where
  any_left : (j k : K) (ks : List K) → same j k ≡ false → list_any (same j) (filter (λ x. not (same k x)) ks) ≡ list_any (same j) ks
  any_left j k [] h = refl
  any_left j k (x ∷ ks) h = by (same k x) refl (any_left j k ks h)
    where
      by : (b : Bool) → same k x ≡ b → list_any (same j) (filter (λ x. not (same k x)) ks) ≡ list_any (same j) ks → list_any (same j) (cond (not b) (x ∷ filter (λ x. not (same k x)) ks) (filter (λ x. not (same k x)) ks)) ≡ (same j x || list_any (same j) ks)
      by true e f = f ∙ ap (λ b. b || list_any (same j) ks) (sym (equal.symm j x ∙ sym (equal.congr k x j e) ∙ equal.symm k j ∙ h))
      by false e f = ap (λ b. same j x || b) f

  pub any_first : (j : K) (ks : List K) → list_any (same j) (first_keys same ks) ≡ list_any (same j) ks
  any_first j [] = refl
  any_first j (k ∷ ks) = by (same j k) refl (any_first j ks)
    where
      by : (b : Bool) → same j k ≡ b → list_any (same j) (first_keys same ks) ≡ list_any (same j) ks → (b || list_any (same j) (filter (λ x. not (same k x)) (first_keys same ks))) ≡ (b || list_any (same j) ks)
      by true e f = refl
      by false e f = any_left j k (first_keys same ks) e ∙ f

  -- a key in a list is found in it
  pub any_at : {X : Type 0} (f : X → K) (xs : List X) (i : ℕ) (x : X) → i < length xs → x ≡ get_or xs i x → list_any (same (f x)) (map f xs) ≡ true
  any_at f [] i x lt is = absurd (omega (arith, lt))
  any_at f (y ∷ xs) zero x lt is = ap (λ b. b || list_any (same (f x)) (map f xs)) (ap (λ z. same (f x) (f z)) (sym is) ∙ equal.refl (f x))
  any_at f (y ∷ xs) (suc i) x lt is = ap (λ b. same (f x) (f y) || b) (any_at f xs i x (omega (arith, lt)) is) ∙ or-true (same (f x) (f y))

pub texts_equal : IsEquivalence same_texts
texts_equal = lists_equiv nat_list_eq_equiv

module _ (select : TypedSelectParts) (store : Store) (terms : Terms) where
  abbrev Fields : List ℕ → List (List ℕ)
  Fields t = group_fields select store terms t

  -- the tuples with these fields
  abbrev pub With : List (List ℕ) → List (List ℕ) → List (List ℕ)
  With k ts = members same_texts k (under_fields select store terms ts)

  abbrev second : List (List ℕ) × List ℕ → List ℕ
  second e = e.1

  with_more : (k : List (List ℕ)) (ts : List (List ℕ)) (t : List ℕ) → With k (ts ++ t ∷ []) ≡ With k ts ++ cond (same_texts k (Fields t)) (t ∷ []) []
  with_more k [] t = by (same_texts k (Fields t))
    where
      by : (b : Bool) → map second (cond b ((Fields t, t) ∷ []) []) ≡ cond b (t ∷ []) []
      by true = refl
      by false = refl
  with_more k (u ∷ ts) t = by (same_texts k (Fields u)) (with_more k ts t)
    where
      by : (b : Bool) → With k (ts ++ t ∷ []) ≡ With k ts ++ cond (same_texts k (Fields t)) (t ∷ []) []
          → map second (cond b ((Fields u, u) ∷ filter (λ e. same_texts k e.0) (under_fields select store terms (ts ++ t ∷ []))) (filter (λ e. same_texts k e.0) (under_fields select store terms (ts ++ t ∷ [])))) ≡ map second (cond b ((Fields u, u) ∷ filter (λ e. same_texts k e.0) (under_fields select store terms ts)) (filter (λ e. same_texts k e.0) (under_fields select store terms ts))) ++ cond (same_texts k (Fields t)) (t ∷ []) []
      by true e = ap (λ z. u ∷ z) e
      by false e = e

  with_yes : (k : List (List ℕ)) (ts : List (List ℕ)) (t : List ℕ) → same_texts (Fields t) k ≡ true → With k (ts ++ t ∷ []) ≡ With k ts ++ t ∷ []
  with_yes k ts t h = with_more k ts t ∙ ap (λ b. With k ts ++ cond b (t ∷ []) []) (texts_equal.symm k (Fields t) ∙ h)

  with_no : (k : List (List ℕ)) (ts : List (List ℕ)) (t : List ℕ) → same_texts (Fields t) k ≡ false → With k (ts ++ t ∷ []) ≡ With k ts
  with_no k ts t h = with_more k ts t ∙ ap (λ b. With k ts ++ cond b (t ∷ []) []) (texts_equal.symm k (Fields t) ∙ h) ∙ append-nil (With k ts)

  -- the tuples with the fields of t are those of its group
  pub with_earlier : (k : List (List ℕ)) (ts : List (List ℕ)) (t : List ℕ) → same_texts (Fields t) k ≡ true → With k ts ≡ earlier (same_group select store terms) ts t
  with_earlier k [] t h = refl
  with_earlier k (u ∷ ts) t h = by (same_texts k (Fields u)) (same_texts (Fields t) (Fields u)) (sym (texts_equal.congr (Fields t) k (Fields u) h)) (with_earlier k ts t h)
    where
      by : (a b : Bool) → a ≡ b → With k ts ≡ earlier (same_group select store terms) ts t
          → map second (cond a ((Fields u, u) ∷ filter (λ e. same_texts k e.0) (under_fields select store terms ts)) (filter (λ e. same_texts k e.0) (under_fields select store terms ts))) ≡ cond b (u ∷ earlier (same_group select store terms) ts t) (earlier (same_group select store terms) ts t)
      by true true e f = ap (λ z. u ∷ z) f
      by true false e f = absurd (true≢false e)
      by false true e f = absurd (true≢false (sym e))
      by false false e f = f

  module _ (P : List (List ℕ) → Group → Type 0) where
    abbrev Of : List (List (List ℕ)) → List (List ℕ) → List Group → Type 0
    Of keys ts groups = AllZip (λ k g. P (With k ts) g) keys groups

    -- groups of other fields stay
    rest_same : (keys : List (List (List ℕ))) (groups : List Group) (ts : List (List ℕ)) (t : List ℕ) → list_any (same_texts (Fields t)) keys ≡ false → Of keys ts groups → Of keys (ts ++ t ∷ []) groups
    rest_same [] [] ts t h k = tt
    rest_same [] (g ∷ groups) ts t h k = absurd k
    rest_same (j ∷ keys) [] ts t h k = absurd k
    rest_same (j ∷ keys) (g ∷ groups) ts t h k =
        let m = or_false (same_texts (Fields t) j) (list_any (same_texts (Fields t)) keys) h in
        (subst (λ z. P z g) (sym (with_no j ts t m.0)) k.0, rest_same keys groups ts t m.1 k.1)

    any_same : (j k : List (List ℕ)) (ks : List (List (List ℕ))) → same_texts j k ≡ true → list_any (same_texts j) ks ≡ list_any (same_texts k) ks
    any_same j k [] e = refl
    any_same j k (l ∷ ks) e = ap₂ (λ a b. a || b) (texts_equal.congr j k l e) (any_same j k ks e)

    -- the group of a tuple exists
    pub group_there : (keys : List (List (List ℕ))) (groups : List Group) (ts : List (List ℕ)) (t : List ℕ) (old : Group) → list_any (same_texts (Fields t)) keys ≡ true → Of keys ts groups → old ≡ get_or groups (position_or_len (same_texts (Fields t)) keys) old
        → (position_or_len (same_texts (Fields t)) keys < length groups) × ((k : List (List ℕ)) × (same_texts (Fields t) k ≡ true) × P (With k ts) old)
    group_there [] groups ts t old h k is = absurd (true≢false (sym h))
    group_there (j ∷ keys) [] ts t old h k is = absurd k
    group_there (j ∷ keys) (g ∷ groups) ts t old h k is = by (same_texts (Fields t) j) refl h is (λ m i. group_there keys groups ts t old m k.1 i)
      where
        by : (b : Bool) → same_texts (Fields t) j ≡ b → (b || list_any (same_texts (Fields t)) keys) ≡ true → old ≡ get_or (g ∷ groups) (cond (not b) (1 + position_or_len (same_texts (Fields t)) keys) 0) old
            → (list_any (same_texts (Fields t)) keys ≡ true → old ≡ get_or groups (position_or_len (same_texts (Fields t)) keys) old → (position_or_len (same_texts (Fields t)) keys < length groups) × ((k : List (List ℕ)) × (same_texts (Fields t) k ≡ true) × P (With k ts) old))
            → (cond (not b) (1 + position_or_len (same_texts (Fields t)) keys) 0 < length (g ∷ groups)) × ((k : List (List ℕ)) × (same_texts (Fields t) k ≡ true) × P (With k ts) old)
        by true e h is f = (omega arith, (j, e, subst (P (With j ts)) (sym is) k.0))
        by false e h is f =
            let next : 1 + position_or_len (same_texts (Fields t)) keys ≡ suc (position_or_len (same_texts (Fields t)) keys) = omega arith in
            let rest = f h (is ∙ ap (λ n. get_or (g ∷ groups) n old) next) in
            (omega (arith, rest.0), rest.1)

    -- one more tuple, in its group
    pub group_step : (keys : List (List (List ℕ))) (groups : List Group) (ts : List (List ℕ)) (t : List ℕ) (old new : Group) → AreApart same_texts keys → list_any (same_texts (Fields t)) keys ≡ true → Of keys ts groups → old ≡ get_or groups (position_or_len (same_texts (Fields t)) keys) old
        → ((k : List (List ℕ)) → P (With k ts) old → same_texts (Fields t) k ≡ true → P (With k ts ++ t ∷ []) new) → Of keys (ts ++ t ∷ []) (set groups (position_or_len (same_texts (Fields t)) keys) new)
    group_step [] groups ts t old new a h k is step = absurd (true≢false (sym h))
    group_step (j ∷ keys) [] ts t old new a h k is step = absurd k
    group_step (j ∷ keys) (g ∷ groups) ts t old new a h k is step = by (same_texts (Fields t) j) refl h is (λ m i. group_step keys groups ts t old new a.1 m k.1 i step)
      where
        by : (b : Bool) → same_texts (Fields t) j ≡ b → (b || list_any (same_texts (Fields t)) keys) ≡ true → old ≡ get_or (g ∷ groups) (cond (not b) (1 + position_or_len (same_texts (Fields t)) keys) 0) old
            → (list_any (same_texts (Fields t)) keys ≡ true → old ≡ get_or groups (position_or_len (same_texts (Fields t)) keys) old → Of keys (ts ++ t ∷ []) (set groups (position_or_len (same_texts (Fields t)) keys) new))
            → Of (j ∷ keys) (ts ++ t ∷ []) (set (g ∷ groups) (cond (not b) (1 + position_or_len (same_texts (Fields t)) keys) 0) new)
        by true e h is f = (subst (λ z. P z new) (sym (with_yes j ts t e)) (step j (subst (P (With j ts)) (sym is) k.0) e), rest_same keys groups ts t (any_same (Fields t) j keys e ∙ a.0) k.1)
        by false e h is f =
            let next : 1 + position_or_len (same_texts (Fields t)) keys ≡ suc (position_or_len (same_texts (Fields t)) keys) = omega arith in
            let rest = f h (is ∙ ap (λ n. get_or (g ∷ groups) n old) next) in
            subst (λ n. Of (j ∷ keys) (ts ++ t ∷ []) (set (g ∷ groups) n new)) (sym next) (subst (λ z. P z g) (sym (with_no j ts t e)) k.0, rest)

    -- the groups by the fields are the groups of the tuples
    pub by_keys : (keys : List (List (List ℕ))) (groups : List Group) (ts : List (List ℕ)) → Of keys ts groups → AllZip P (map (λ k. With k ts) keys) groups
    by_keys [] [] ts h = tt
    by_keys [] (g ∷ groups) ts h = absurd h
    by_keys (k ∷ keys) [] ts h = absurd h
    by_keys (k ∷ keys) (g ∷ groups) ts h = (h.0, by_keys keys groups ts h.1)

  -- without GROUP BY no tuple has a field
  pub no_fields : has_groups select ≡ false → (t : List ℕ) → Fields t ≡ []
  no_fields h t = by select.groups h
    where
      by : (gs : List TypedTree) → not (is_bare_column gs) ≡ false → map (λ g. field_text terms.epoch (column_on (scene store select.from t terms) g)) gs ≡ []
      by [] h = refl
      by (g ∷ gs) h = absurd (true≢false h)
