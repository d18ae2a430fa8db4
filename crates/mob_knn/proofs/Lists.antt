-- Lists of entries in any order.
use Rattle.std.{specs.Prelude.{cond, Contains, sum_by, count_by, ◌==◌, ◌&&◌}, specs.List.{flat_map}, specs.List.Sorted.{IsPermutation}}
use Rattle.std.{proofs.Common.{◌≡◌, inl, inr, ℕ, zero, suc, ◌+◌, ◌<◌, ◌≤◌, Bool, true, false, List, [], ◌∷◌, ◌++◌, length, arith, refl, sym, ap, ◌∙◌, subst}, proofs.lemmas.Bool.{and_parts}}
use Rattle.std.{proofs.lemmas.List.Sorted.{Contains-permutation, IsPermutation-sym, sum_by-IsPermutation}, proofs.lemmas.List.Sums.{sum_by-append, sum_by-cons}}
use Rattle.mob_stbox.{specs.Boxes.{BoxOf, same_box}, specs.SameBoxes.{same_is}}
use Rattle.mob_list.proofs.Entries.{first_in, later_in, none_in, which_in, Contains-flat, flat-Contains}
use Rattle.mob_rtree_nodes.{specs.Removes.{hit}, specs.Tree.{AreSame, EntryOf}, proofs.Shrinks.{hit_self}}
use borrow.Author.Tests.{eqb-true, eq-eqb}

-- ---- lists mapped and joined

pub flat_sum : {A B : Type 0} (g : B → ℕ) (f : A → List B) (xs : List A) → sum_by g (flat_map f xs) ≡ sum_by (λ x. sum_by g (f x)) xs
flat_sum g f [] = refl
flat_sum g f (x ∷ xs) = sum_by-append g (f x) (flat_map f xs) ∙ ap (λ n. sum_by g (f x) + n) (flat_sum g f xs) ∙ sym (sum_by-cons (λ x. sum_by g (f x)) x xs)

-- mapped lists that are permutations of each other
pub flat_permuted : {A B : Type 0} (g : B → ℕ) (f : A → List B) (xs ys : List A) → IsPermutation xs ys → sum_by g (flat_map f ys) ≡ sum_by g (flat_map f xs)
flat_permuted g f xs ys h = flat_sum g f ys ∙ sum_by-IsPermutation (λ x. sum_by g (f x)) xs ys h ∙ sym (flat_sum g f xs)

pub flat_over : {A B : Type 0} (f : A → List B) (xs ys : List A) (b : B) → IsPermutation xs ys → Contains (flat_map f xs) b → Contains (flat_map f ys) b
flat_over f xs ys b h k = let w = Contains-flat f xs b k in flat-Contains f ys w.0 b (Contains-permutation xs ys w.0 h w.1) w.2

pub in_before : {A : Type 0} (xs ys : List A) (a : A) → IsPermutation xs ys → Contains ys a → Contains xs a
in_before xs ys a h k = Contains-permutation ys xs a (IsPermutation-sym xs ys h) k

-- ---- entries

hit_is : (e x : EntryOf) (t : Bool) → (same_box x.0 e.0 && (x.1 == e.1)) ≡ t → 0 < cond t 1 0 → x ≡ e
hit_is e x true h k =
    let p = and_parts _ _ h in
    let b = same_is x.0 e.0 p.0 in
    let n = eqb-true x.1 e.1 p.1 in
    λ i. (b i, n i)
hit_is e x false h k = absurd (omega (arith, k))

pub one_in : (xs : List EntryOf) (e : EntryOf) → Contains xs e → 0 < sum_by (hit e) xs
one_in [] e h = absurd (none_in e h)
one_in (x ∷ xs) e h = elim (which_in x xs e h) [
  | inl i ↦ let s : ◌≡◌ {A = ℕ} (hit e x) 1 = ap (hit e) i ∙ hit_self e in let c = sum_by-cons (hit e) x xs in omega (arith, s, c)
  | inr i ↦ let k = one_in xs e i in let c = sum_by-cons (hit e) x xs in omega (arith, k, c)
]

pub in_one : (xs : List EntryOf) (e : EntryOf) → 0 < sum_by (hit e) xs → Contains xs e
in_one [] e h = absurd (omega (arith, h))
in_one (x ∷ xs) e h = by_test (hit e x) refl (λ k. in_one xs e k)
  where
    by_test : (n : ℕ) → hit e x ≡ n → (0 < sum_by (hit e) xs → Contains xs e) → Contains (x ∷ xs) e
    by_test zero f more = later_in x xs e (more (let c = sum_by-cons (hit e) x xs in omega (arith, h, f, c)))
    by_test (suc n) f more = subst (λ z. Contains (x ∷ xs) z) (hit_is e x _ refl (subst (λ z. 0 < z) (sym f) (omega arith))) (first_in x xs)

pub in_same : (xs ys : List EntryOf) (e : EntryOf) → AreSame xs ys → Contains xs e → Contains ys e
in_same xs ys e h k = in_one ys e (let p = one_in xs e k in let q = h (hit e) in omega (arith, p, q))

pub same_back : (xs ys : List EntryOf) → AreSame xs ys → AreSame ys xs
same_back xs ys h g = sym (h g)

-- ---- counts

pub count_all : {A : Type 0} (p : A → Bool) (xs : List A) → ((x : A) → Contains xs x → p x ≡ true) → length xs ≤ sum_by (λ x. cond (p x) 1 0) xs
count_all p [] h = omega arith
count_all p (x ∷ xs) h =
    let e : ◌≡◌ {A = ℕ} (cond (p x) 1 0) 1 = ap (λ b. cond b 1 0) (h x (first_in x xs)) in
    let k = count_all p xs (λ y c. h y (later_in x xs y c)) in
    let c = sum_by-cons (λ x. cond (p x) 1 0) x xs in
    omega (arith, e, k, c)

-- all that pass are counted
pub count_some : (p : EntryOf → Bool) (gone tried left entries : List EntryOf) → AreSame ((gone ++ tried) ++ left) entries → ((e : EntryOf) → Contains tried e → p e ≡ true) → length tried ≤ count_by p entries
count_some p gone tried left entries same h =
    let f : EntryOf → ℕ = λ e. cond (p e) 1 0 in
    let a = count_all p tried h in
    let b = same f in
    let c = sum_by-append f (gone ++ tried) left in
    let d = sum_by-append f gone tried in
    omega (arith, a, b, c, d)

-- ---- the box of a row

pub sum_in : {A : Type 0} (p : A → ℕ) (xs : List A) (x : A) → Contains xs x → p x ≤ sum_by p xs
sum_in p [] x h = absurd (none_in x h)
sum_in p (y ∷ xs) x h = elim (which_in y xs x h) [
  | inl e ↦ let s = ap p e in let c = sum_by-cons p y xs in omega (arith, s, c)
  | inr i ↦ let k = sum_in p xs x i in let c = sum_by-cons p y xs in omega (arith, k, c)
]

-- the box of the entry of a row, or a given one if it has no entry
pub box_in : BoxOf → List EntryOf → ℕ → BoxOf
box_in other [] row = other
box_in other (e ∷ es) row = cond (e.1 == row) e.0 (box_in other es row)

box_here : (other : BoxOf) (x : EntryOf) (xs : List EntryOf) (row : ℕ) → (x.1 == row) ≡ true → box_in other (x ∷ xs) row ≡ x.0
unfolding box_in
box_here other x xs row h = ap (λ z. cond z x.0 (box_in other xs row)) h

box_later : (other : BoxOf) (x : EntryOf) (xs : List EntryOf) (row : ℕ) → (x.1 == row) ≡ false → box_in other (x ∷ xs) row ≡ box_in other xs row
unfolding box_in
box_later other x xs row h = ap (λ z. cond z x.0 (box_in other xs row)) h

-- if a row has at most one entry, it has this box
abbrev HasFew : List EntryOf → ℕ → Type 0
HasFew es row = sum_by (λ (e : EntryOf). cond (e.1 == row) 1 0) es ≤ 1

not_twice : (x : EntryOf) (xs : List EntryOf) (e : EntryOf) → Contains xs e → x.1 ≡ e.1 → HasFew (x ∷ xs) e.1 → ⊥
not_twice x xs e c is few =
    let p : EntryOf → ℕ = λ y. cond (y.1 == e.1) 1 0 in
    let a = sum_by-cons p x xs in
    let b : ◌≡◌ {A = ℕ} (p x) 1 = ap (λ z. cond z 1 0) (eq-eqb x.1 e.1 is) in
    let d : ◌≡◌ {A = ℕ} (p e) 1 = ap (λ z. cond z 1 0) (eq-eqb e.1 e.1 refl) in
    let f = sum_in p xs e c in
    absurd (omega (arith, a, b, d, f, few))

in_later : (other : BoxOf) (x : EntryOf) (xs : List EntryOf) (e : EntryOf) → Contains xs e → (t : Bool) → (x.1 == e.1) ≡ t → HasFew (x ∷ xs) e.1 → box_in other xs e.1 ≡ e.0 → box_in other (x ∷ xs) e.1 ≡ e.0
in_later other x xs e c true h few k = absurd (not_twice x xs e c (eqb-true x.1 e.1 h) few)
in_later other x xs e c false h few k = box_later other x xs e.1 h ∙ k

pub in_box : (other : BoxOf) (es : List EntryOf) → ((row : ℕ) → HasFew es row) → (e : EntryOf) → Contains es e → box_in other es e.1 ≡ e.0
in_box other [] few e c = absurd (none_in e c)
in_box other (x ∷ xs) few e c = elim (which_in x xs e c) [
  | inl i ↦ box_here other x xs e.1 (eq-eqb x.1 e.1 (ap (λ (z : EntryOf). z.1) i)) ∙ ap (λ (z : EntryOf). z.0) i
  | inr i ↦ in_later other x xs e i (x.1 == e.1) refl (few e.1) (in_box other xs (λ row. fewer x xs row (few row)) e i)
]
  where
    fewer : (x : EntryOf) (xs : List EntryOf) (row : ℕ) → HasFew (x ∷ xs) row → HasFew xs row
    fewer x xs row h = let a = sum_by-cons (λ (e : EntryOf). cond (e.1 == row) 1 0) x xs in omega (arith, a, h)
