-- Entries of a list.
use Rattle.std.{specs.Prelude.{Contains, Some, slice_get, slice_index_or, slice_range}, specs.List.{AllByRecursion, AllZip, flat_map}}
use Rattle.std.proofs.Common.{◌≡◌, ℕ, zero, suc, ◌+◌, ◌-◌, ◌<◌, ◌≤◌, List, [], ◌∷◌, ◌++◌, length, get_or, map, take, drop, refl, sym, ap, subst, arith, inl, inr, ◌⊎◌, add-one, drop-cons}
use Rattle.std.{proofs.lemmas.List.{take_all}, proofs.lemmas.List.Elements.{Contains-append_cases, Contains-append_left, Contains-append_right}}

pub first_in : {A : Type 0} (y : A) (ys : List A) → Contains (y ∷ ys) y
first_in y ys = (0, omega arith, refl)

pub later_in : {A : Type 0} (y : A) (ys : List A) (x : A) → Contains ys x → Contains (y ∷ ys) x
later_in y ys x h = (suc h.0, let k = h.1 in omega arith, h.2)

pub none_in : {A : Type 0} (x : A) → Contains [] x → ⊥
none_in x h = let k = h.1 in absurd (omega arith)

pub which_in : {A : Type 0} (y : A) (ys : List A) (x : A) → Contains (y ∷ ys) x → (y ≡ x) ⊎ Contains ys x
which_in {A} y ys x h = by_place h.0 h.1 h.2
  where
    by_place : (k : ℕ) → k < length (y ∷ ys) → slice_index_or (y ∷ ys) k x ≡ x → (y ≡ x) ⊎ Contains ys x
    by_place zero lt e = inl e
    by_place (suc k) lt e = inr (k, omega arith, e)

-- a property of each entry holds for all, and the converse
pub all_by_each : {A : Type 0} (P : A → Type 0) (xs : List A) → ((x : A) → Contains xs x → P x) → AllByRecursion P xs
all_by_each P [] h = tt
all_by_each P (x ∷ xs) h = (h x (first_in x xs), all_by_each P xs (λ y c. h y (later_in x xs y c)))

pub each_of_all : {A : Type 0} (P : A → Type 0) (xs : List A) → AllByRecursion P xs → (x : A) → Contains xs x → P x
each_of_all P [] h x c = absurd (none_in x c)
each_of_all P (y ∷ ys) h x c = elim (which_in y ys x c) [
  | inl e ↦ subst P e h.0
  | inr d ↦ each_of_all P ys h.1 x d
]

-- the list from an entry on begins with that entry
pub drop_read : {X : Type 0} (xs : List X) (i : ℕ) (x : X) → i < length xs → x ≡ get_or xs i x → drop i xs ≡ x ∷ drop (i + 1) xs
drop_read xs i x h e = rw add-one (rw (drop-cons xs i x) (ap (λ y. y ∷ drop (suc i) xs) (sym e)))

-- a list that is walked: one entry fewer is left
pub counted_down : {A : Type 0} (x : A) (xs ys : List A) (m n : ℕ) → ys ≡ x ∷ xs → m + 1 ≡ n → n ≡ length ys → m ≡ length xs
counted_down x xs ys m n e f h = let l = ap length e in omega (arith, f, h, l)

-- ---- where an entry is

-- a list that contains x is a part before x, x, and the rest
pub Contains-parts : {A : Type 0} (xs : List A) (x : A) → Contains xs x → (front : List A) × (rest : List A) × (xs ≡ front ++ x ∷ rest)
Contains-parts [] x h = absurd (none_in x h)
Contains-parts (y ∷ ys) x h = elim (which_in y ys x h) [
  | inl e ↦ ([], ys, ap (λ z. z ∷ ys) e)
  | inr k ↦ let r = Contains-parts ys x k in (y ∷ r.0, r.1, ap (λ l. y ∷ l) r.2)
]

pub parts-Contains : {A : Type 0} (front : List A) (x : A) (rest : List A) → Contains (front ++ x ∷ rest) x
parts-Contains [] x rest = first_in x rest
parts-Contains (y ∷ front) x rest = later_in y (front ++ x ∷ rest) x (parts-Contains front x rest)

-- the entries of a list made by a function of each entry
pub Contains-map : {A B : Type 0} (f : A → B) (xs : List A) (y : B) → Contains (map f xs) y → (x : A) × Contains xs x × (y ≡ f x)
Contains-map f [] y h = absurd (none_in y h)
Contains-map f (x ∷ xs) y h = elim (which_in (f x) (map f xs) y h) [
  | inl e ↦ (x, first_in x xs, sym e)
  | inr k ↦ let r = Contains-map f xs y k in (r.0, later_in x xs r.0 r.1, r.2)
]

pub map-Contains : {A B : Type 0} (f : A → B) (xs : List A) (x : A) → Contains xs x → Contains (map f xs) (f x)
map-Contains f [] x h = absurd (none_in x h)
map-Contains f (y ∷ xs) x h = elim (which_in y xs x h) [
  | inl e ↦ subst (λ w. Contains (f y ∷ map f xs) (f w)) e (first_in (f y) (map f xs))
  | inr k ↦ later_in (f y) (map f xs) (f x) (map-Contains f xs x k)
]

-- and by a list of each entry
pub Contains-flat : {A B : Type 0} (f : A → List B) (xs : List A) (y : B) → Contains (flat_map f xs) y → (x : A) × Contains xs x × Contains (f x) y
Contains-flat f [] y h = absurd (none_in y h)
Contains-flat f (x ∷ xs) y h = elim (Contains-append_cases (f x) (flat_map f xs) y h) [
  | inl k ↦ (x, first_in x xs, k)
  | inr k ↦ let r = Contains-flat f xs y k in (r.0, later_in x xs r.0 r.1, r.2)
]

pub flat-Contains : {A B : Type 0} (f : A → List B) (xs : List A) (x : A) (y : B) → Contains xs x → Contains (f x) y → Contains (flat_map f xs) y
flat-Contains f [] x y h k = absurd (none_in x h)
flat-Contains f (z ∷ xs) x y h k = elim (which_in z xs x h) [
  | inl e ↦ Contains-append_left (f z) (flat_map f xs) y (subst (λ w. Contains (f w) y) (sym e) k)
  | inr i ↦ Contains-append_right (f z) (flat_map f xs) y (flat-Contains f xs x y i k)
]

-- ---- parts of a list

pub take_short : {A : Type 0} (n : ℕ) (xs : List A) → length (take n xs) ≤ n
take_short zero xs = omega arith
take_short (suc n) [] = omega arith
take_short (suc n) (x ∷ xs) = let h = take_short n xs in omega (arith, h)

pub whole_range : {A : Type 0} (xs : List A) → slice_range xs 0 (length xs) ≡ xs
whole_range xs = let n : length xs ≤ length xs - 0 = omega arith in take_all (length xs - 0) xs n

-- the entry at the seam of two parts
pub get_seam : {A : Type 0} (xs : List A) (x : A) (ys : List A) → slice_get (xs ++ x ∷ ys) (length xs) ≡ Some x
get_seam [] x ys = refl
get_seam (y ∷ xs) x ys = get_seam xs x ys

-- entries that are related pair by pair, with one more pair
pub zip_more : {A B : Type 0} (R : A → B → Type 0) (xs : List A) (ys : List B) (x : A) (y : B) → AllZip R xs ys → R x y → AllZip R (xs ++ x ∷ []) (ys ++ y ∷ [])
zip_more R [] [] x y h k = (k, tt)
zip_more R [] (b ∷ ys) x y h k = absurd h
zip_more R (a ∷ xs) [] x y h k = absurd h
zip_more R (a ∷ xs) (b ∷ ys) x y h k = (h.0, zip_more R xs ys x y h.1 k)
