-- There is one list of the nearest rows.
use Rattle.std.proofs.Common.{◌≡◌, ◌⊎◌, inl, inr, ℕ, zero, suc, ◌+◌, ◌<◌, ◌≤◌, true, false, List, [], ◌∷◌, take, length, arith, refl, sym, ap, ◌∙◌, subst, true≢false}
use Rattle.std.{specs.Prelude.{Contains}, specs.List.{AllByRecursion}, proofs.lemmas.Bool.{and_parts, or_cases}}
use Rattle.mob_ratio.{specs.Ratio.{Ratio}, specs.Order.{before}, proofs.Order.{before-self, before-trans, same_exact}}
use Rattle.mob_list.{proofs.Each.{each_take}, proofs.Entries.{first_in, later_in, none_in, which_in, each_of_all}}
use Rattle.mob_knn.{specs.Nearest.{nearer, IsRising, AreFirstRows, AreAllRows}, proofs.Searching.{nearer_before, nearer_level}}
use borrow.Author.Tests.{ltb-true}

nearer_cases : (a b : ℕ × Ratio) → nearer a b ≡ true → (before a.1 b.1 ≡ true) ⊎ ((a.1 ≡ b.1) × (a.0 < b.0))
nearer_cases a b h = elim (or_cases (before a.1 b.1) _ h) [
  | inl i ↦ inl i
  | inr i ↦ let k = and_parts _ _ i in inr ((same_exact a.1 b.1).0 k.0, ltb-true a.0 b.0 k.1)
]

not_itself : (a : ℕ × Ratio) → nearer a a ≡ true → ⊥
not_itself a h = elim (nearer_cases a a h) [
  | inl i ↦ true≢false (sym i ∙ before-self a.1)
  | inr i ↦ let lt = i.1 in absurd (omega (arith, lt))
]

nearer_trans : (a b c : ℕ × Ratio) → nearer a b ≡ true → nearer b c ≡ true → nearer a c ≡ true
nearer_trans a b c h k = elim (nearer_cases a b h) [
  | inl i ↦ (elim (nearer_cases b c k) [
    | inl j ↦ nearer_before a c (before-trans a.1 b.1 c.1 i j)
    | inr j ↦ nearer_before a c (subst (λ z. before a.1 z ≡ true) j.0 i)
  ])
  | inr i ↦ (elim (nearer_cases b c k) [
    | inl j ↦ nearer_before a c (subst (λ z. before z c.1 ≡ true) (sym i.0) j)
    | inr j ↦ let p = i.1 in let q = j.1 in nearer_level a c (i.0 ∙ j.0) (omega (arith, p, q))
  ])
]

not_back : (a b : ℕ × Ratio) → nearer a b ≡ true → nearer b a ≡ true → ⊥
not_back a b h k = not_itself a (nearer_trans a b a h k)

-- two sorted lists with the same entries are equal
same_list : (xs ys : List (ℕ × Ratio)) → IsRising xs → IsRising ys → ((x : ℕ × Ratio) → Contains xs x → Contains ys x) → ((y : ℕ × Ratio) → Contains ys y → Contains xs y) → xs ≡ ys
same_list [] [] h k f g = refl
same_list [] (y ∷ ys) h k f g = absurd (none_in y (g y (first_in y ys)))
same_list (x ∷ xs) [] h k f g = absurd (none_in x (f x (first_in x xs)))
same_list (x ∷ xs) (y ∷ ys) h k f g = by_head (heads (f x (first_in x xs)) (g y (first_in y ys))) (λ e. same_list xs ys h.1 k.1 (λ z c. tail x xs y ys h.0 e z c (f z (later_in x xs z c))) (λ z c. tail y ys x xs k.0 (sym e) z c (g z (later_in y ys z c))))
  where
    by_head : x ≡ y → (x ≡ y → xs ≡ ys) → ◌≡◌ {A = List (ℕ × Ratio)} (x ∷ xs) (y ∷ ys)
    by_head e t = ap (λ z. z ∷ xs) e ∙ ap (λ l. y ∷ l) (t e)

    heads : Contains (y ∷ ys) x → Contains (x ∷ xs) y → x ≡ y
    heads c d = elim (which_in y ys x c) [
      | inl e ↦ sym e
      | inr i ↦ (elim (which_in x xs y d) [
        | inl e ↦ e
        | inr j ↦ absurd (not_back y x (each_of_all (λ s. nearer y s ≡ true) ys k.0 x i) (each_of_all (λ s. nearer x s ≡ true) xs h.0 y j))
      ])
    ]

    tail : (a : ℕ × Ratio) (es : List (ℕ × Ratio)) (b : ℕ × Ratio) (bs : List (ℕ × Ratio)) → AllByRecursion (λ s. nearer a s ≡ true) es → a ≡ b → (z : ℕ × Ratio) → Contains es z → Contains (b ∷ bs) z → Contains bs z
    tail a es b bs all e z c d = elim (which_in b bs z d) [
      | inl f ↦ absurd (not_itself a (subst (λ (w : ℕ × Ratio). nearer a w ≡ true) (sym (e ∙ f)) (each_of_all (λ s. nearer a s ≡ true) es all z c)))
      | inr i ↦ i
    ]

-- ---- lengths: of two sorted lists of the same length, one of which contains the other, both are
-- equal

-- the rest of a list without one of its entries
record IsTaken (ys : List (ℕ × Ratio)) (a : ℕ × Ratio) : Type 0 where
  pub rest : List (ℕ × Ratio)
  pub count : length ys ≡ length rest + 1
  pub others : (z : ℕ × Ratio) → Contains ys z → (a ≡ z → ⊥) → Contains rest z

taken : (ys : List (ℕ × Ratio)) (a : ℕ × Ratio) → Contains ys a → IsTaken ys a
taken [] a c = absurd (none_in a c)
taken (y ∷ ys) a c = elim (which_in y ys a c) [
  | inl e ↦ record {
    rest = ys;
    count = omega arith;
    others = λ z d ne. elim (which_in y ys z d) [
      | inl f ↦ absurd (ne (sym e ∙ f))
      | inr i ↦ i
    ];
  }
  | inr i ↦ let t = taken ys a i in let n = t.count in record {
    rest = y ∷ t.rest;
    count = omega (arith, n);
    others = λ z d ne. elim (which_in y ys z d) [
      | inl f ↦ subst (λ w. Contains (y ∷ t.rest) w) f (first_in y t.rest)
      | inr j ↦ later_in y t.rest z (t.others z j ne)
    ];
  }
]

-- a sorted list is not longer than one that contains it
not_longer : (xs ys : List (ℕ × Ratio)) → IsRising xs → ((x : ℕ × Ratio) → Contains xs x → Contains ys x) → length xs ≤ length ys
not_longer [] ys h f = omega arith
not_longer (x ∷ xs) ys h f =
    let t = taken ys x (f x (first_in x xs)) in
    let n = t.count in
    let k = not_longer xs t.rest h.1 (λ z c. t.others z (f z (later_in x xs z c)) (λ e. not_itself x (subst (λ (w : ℕ × Ratio). nearer x w ≡ true) (sym e) (each_of_all (λ s. nearer x s ≡ true) xs h.0 z c)))) in
    omega (arith, n, k)

module _ (has : ℕ → Ratio → Type 0) (k : ℕ) (rs os : List (ℕ × Ratio)) (first : AreFirstRows has k rs) (other : AreFirstRows has k os) where
  -- an entry of only one of them would make that one longer than k
  among : (x : ℕ × Ratio) → Contains rs x → Contains os x
  among x c = elim (other.full x.0 x.1 (each_of_all (λ r. has r.0 r.1) rs first.each x c)) [
    | inl i ↦ i
    | inr i ↦ absurd (too_many i.0 i.1)
  ]
    where
      -- all of os are before x, so they are among rs, and x is one more
      each_in : AllByRecursion (λ o. nearer o x ≡ true) os → (o : ℕ × Ratio) → Contains os o → Contains rs o
      each_in all o d = elim (first.full o.0 o.1 (each_of_all (λ r. has r.0 r.1) os other.each o d)) [
        | inl i ↦ i
        | inr i ↦ absurd (not_back o x (each_of_all (λ o. nearer o x ≡ true) os all o d) (each_of_all (λ r. nearer r o ≡ true) rs i.1 x c))
      ]

      too_many : length os ≡ k → AllByRecursion (λ o. nearer o x ≡ true) os → ⊥
      too_many full all =
          let t = taken rs x c in
          let n = t.count in
          let f = first.few in
          let l = not_longer os t.rest other.rising (λ o d. t.others o (each_in all o d) (λ e. not_itself x (subst (λ (w : ℕ × Ratio). nearer w x ≡ true) (sym e) (each_of_all (λ o. nearer o x ≡ true) os all o d)))) in
          absurd (omega (arith, n, f, l, full))

pub one_first : (has : ℕ → Ratio → Type 0) (k : ℕ) (rs os : List (ℕ × Ratio)) → AreFirstRows has k rs → AreFirstRows has k os → rs ≡ os
one_first has k rs os h i = same_list rs os h.rising i.rising (among has k rs os h i) (among has k os rs i h)

-- ---- the first k of all

take_rising : (k : ℕ) (xs : List (ℕ × Ratio)) → IsRising xs → IsRising (take k xs)
take_rising zero xs h = tt
take_rising (suc k) [] h = tt
take_rising (suc k) (x ∷ xs) h = (each_take (λ s. nearer x s ≡ true) k xs h.0, take_rising k xs h.1)

take_few : (k : ℕ) (xs : List (ℕ × Ratio)) → length (take k xs) ≤ k
take_few zero xs = omega arith
take_few (suc k) [] = omega arith
take_few (suc k) (x ∷ xs) = let n = take_few k xs in omega (arith, n)

take_full : (k : ℕ) (xs : List (ℕ × Ratio)) (x : ℕ × Ratio) → IsRising xs → Contains xs x → Contains (take k xs) x ⊎ ((length (take k xs) ≡ k) × AllByRecursion (λ r. nearer r x ≡ true) (take k xs))
take_full zero xs x h c = inr (refl, tt)
take_full (suc k) [] x h c = absurd (none_in x c)
take_full (suc k) (y ∷ ys) x h c = elim (which_in y ys x c) [
  | inl e ↦ inl (subst (λ w. Contains (y ∷ take k ys) w) e (first_in y (take k ys)))
  | inr i ↦ (elim (take_full k ys x h.1 i) [
    | inl j ↦ inl (later_in y (take k ys) x j)
    | inr j ↦ inr ((let n = j.0 in omega (arith, n)), (each_of_all (λ s. nearer y s ≡ true) ys h.0 x i, j.1))
  ])
]

pub cut_first : (has : ℕ → Ratio → Type 0) (k : ℕ) (all : List (ℕ × Ratio)) → AreAllRows has all → AreFirstRows has k (take k all)
cut_first has k all h = record {
  each = each_take (λ r. has r.0 r.1) k all h.each;
  rising = take_rising k all h.rising;
  few = take_few k all;
  full = λ row m i. take_full k all (row, m) h.rising (h.every row m i);
}

pub first_cut : (has : ℕ → Ratio → Type 0) (k : ℕ) (all rs : List (ℕ × Ratio)) → AreAllRows has all → AreFirstRows has k rs → rs ≡ take k all
first_cut has k all rs h i = one_first has k rs (take k all) i (cut_first has k all h)
