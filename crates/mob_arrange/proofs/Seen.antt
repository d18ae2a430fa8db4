-- The rows seen so far, as a set of their texts.
use Rattle.std.{specs.declared.string.String.{String}, specs.declared.vec.Vec.{Vec}, specs.Bool.{Decides}, specs.List.{Contains, list_any}, specs.Prelude.{if◌then◌else◌, string_bytes}}
use Rattle.std.{specs.Cmp.{IsEquivalence}, specs.Cmp.Lexicographic.{pointwise, pointwise_decides, bytes_decides, lists_equiv, nat_list_eq_equiv}, specs.Cmp.Derive.Mapped.{pointwise-map}}
use Rattle.std.proofs.Common.{◌≡◌, ◌⊎◌, inl, inr, ℕ, ◌+◌, ◌<◌, Bool, true, false, List, [], ◌∷◌, ◌++◌, length, get_or, drop, map, nat_eq, Bor, not, ◌||◌, refl, sym, ap, ap₂, ◌∙◌, subst, append_assoc}
use Rattle.std.{proofs.Common.{append-nil, true≢false, arith}, proofs.lemmas.Map.Views.{list_any-from_Contains, Contains-from_any}, proofs.lemmas.List.{drop_all, map-append}}
use Rattle.mob_list.proofs.Entries.{drop_read}
use Rattle.indexmap.specs.IndexSet.{insert_key}
use Rattle.mob_arrange.{specs.TextsSeen.{strings_of}, specs.Rows.{AreFirst}}

-- whether two lists of texts are one
same_texts : List (List ℕ) → List (List ℕ) → Bool
same_texts = pointwise (pointwise nat_eq)

same_is : (a b : List (List ℕ)) → Decides (same_texts a b) (a ≡ b)
unfolding same_texts
same_is a b = pointwise_decides bytes_decides a b

same_equiv : IsEquivalence same_texts
unfolding same_texts
same_equiv = lists_equiv nat_list_eq_equiv

-- whether two vectors refer to the same texts
abbrev pub same_row : {A : Type 0} → Vec (Bor (List ℕ)) A → Vec (Bor (List ℕ)) A → Bool
same_row v w = pointwise (λ a b. pointwise nat_eq a.now b.now) v.items w.items

-- the same of strings
abbrev pub same_strings : {A B : Type 0} → Vec (String A) B → Vec (String A) B → Bool
same_strings v w = pointwise (λ a b. pointwise nat_eq (string_bytes a) (string_bytes b)) v.items w.items

any_seen : {A B : Type 0} (k : Vec (String A) B) (keys : List (Vec (String A) B)) → list_any (same_strings k) keys ≡ list_any (same_texts (strings_of k)) (map strings_of keys)
unfolding same_texts
any_seen k [] = refl
any_seen k (v ∷ keys) = ap₂ (λ (x y : Bool). x || y) (sym (pointwise-map (λ b. string_bytes b) (pointwise nat_eq) k.items v.items)) (any_seen k keys)

-- x is among the earlier entries and these stay, or it is new and is appended
abbrev pub Taken : {X : Type 0} → List X → X → Bool → List X → Type 0
Taken before x is_new next = (Contains before x × (is_new ≡ false) × (next ≡ before)) ⊎ ((Contains before x → ⊥) × (is_new ≡ true) × (next ≡ before ++ x ∷ []))

-- one more row in a set of rows
pub seen_or_new : {A B : Type 0} (k : Vec (String A) B) (keys next : List (Vec (String A) B)) (is_new : Bool) → is_new ≡ not (list_any (same_strings k) keys) → next ≡ insert_key same_strings keys k
    → Taken (map strings_of keys) (strings_of k) is_new (map strings_of next)
seen_or_new k keys next is_new e s = by (list_any (same_strings k) keys) refl
  where
    by : (b : Bool) → list_any (same_strings k) keys ≡ b → Taken (map strings_of keys) (strings_of k) is_new (map strings_of next)
    by true h = inl (Contains-from_any (λ x y t. (same_is x y).0 t) (strings_of k) (map strings_of keys) (sym (any_seen k keys) ∙ h), e ∙ ap not h, ap (map strings_of) (s ∙ ap (λ (b : Bool). if b then keys else keys ++ k ∷ []) h))
    by false h = inr (
      λ c. true≢false (sym (list_any-from_Contains same_equiv (strings_of k) (map strings_of keys) c) ∙ (sym (any_seen k keys) ∙ h)),
      e ∙ ap not h,
      ap (map strings_of) (s ∙ ap (λ (b : Bool). if b then keys else keys ++ k ∷ []) h) ∙ map-append strings_of keys (k ∷ []),
    )

module _ {X : Type 0} (all : List X) (i : ℕ) (x : X) (before next : List X) (is_new : Bool) (lt : i < length all) (is : x ≡ get_or all i x) where
  -- the rows seen so far, continued by those to come
  pub seen_step : ((rest : List X) → AreFirst before (drop i all) rest → AreFirst [] all (before ++ rest))
      → Taken before x is_new next
      → (rest : List X) → AreFirst next (drop (i + 1) all) rest → AreFirst [] all (next ++ rest)
  seen_step h (inl p) rest k =
      let here : AreFirst before (drop i all) rest = subst (λ xs. AreFirst before xs rest) (sym (drop_read all i x lt is)) (inl (p.0, subst (λ z. AreFirst z (drop (i + 1) all) rest) p.2 k)) in
      subst (λ z. AreFirst [] all (z ++ rest)) (sym p.2) (h rest here)
  seen_step h (inr p) rest k =
      let here : AreFirst before (drop i all) (x ∷ rest) = subst (λ xs. AreFirst before xs (x ∷ rest)) (sym (drop_read all i x lt is)) (inr (p.0, (rest, refl, subst (λ z. AreFirst z (drop (i + 1) all) rest) p.2 k))) in
      subst (AreFirst [] all) (sym (ap (λ z. z ++ rest) p.2 ∙ append_assoc before (x ∷ []) rest)) (h (x ∷ rest) here)

pub seen_end : {X : Type 0} (all : List X) (i : ℕ) (before : List X) → length all ≡ i
    → ((rest : List X) → AreFirst before (drop i all) rest → AreFirst [] all (before ++ rest)) → AreFirst [] all before
seen_end {X} all i before e h =
    let none : drop i all ≡ [] = drop_all i all (omega arith) in
    subst (AreFirst [] all) (append-nil before) (h [] (subst (λ xs. AreFirst before xs []) (sym none) refl))
