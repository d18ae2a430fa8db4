-- Lists whose every element has a property.
use Rattle.std.{specs.List.{AllByRecursion}, specs.Prelude.{Some, slice_get}, proofs.Common.{◌≡◌, ℕ, zero, suc, List, [], ◌∷◌, ◌++◌, drop, map, subst, take}}

-- a property of each element holds for any one of them
pub one_of : {A : Type 0} (P : A → Type 0) (before after : List A) (x : A) → AllByRecursion P (before ++ x ∷ after) → P x
one_of P [] after x h = h.0
one_of P (y ∷ before) after x h = one_of P before after x h.1

-- and for the one at an index
pub each_get : {A : Type 0} (P : A → Type 0) (xs : List A) (i : ℕ) (x : A) → AllByRecursion P xs → slice_get xs i ≡ Some x → P x
each_get P [] i x h e = absurd (cc e)
each_get P (y ∷ xs) zero x h e = let same : y ≡ x = cc e in subst P same h.0
each_get P (y ∷ xs) (suc i) x h e = each_get P xs i x h.1 e

-- if P implies Q, Q holds for each element if P does
pub each_on : {A : Type 0} (P Q : A → Type 0) → ((x : A) → P x → Q x) → (xs : List A) → AllByRecursion P xs → AllByRecursion Q xs
each_on P Q on [] h = tt
each_on P Q on (x ∷ xs) h = (on x h.0, each_on P Q on xs h.1)

-- the same for the image of each element under a function
pub each_map : {A B : Type 0} (P : A → Type 0) (Q : B → Type 0) (f : A → B) → ((x : A) → P x → Q (f x)) → (xs : List A) → AllByRecursion P xs → AllByRecursion Q (map f xs)
each_map P Q f on [] h = tt
each_map P Q f on (x ∷ xs) h = (on x h.0, each_map P Q f on xs h.1)

-- a property of each element of two lists holds for each of the joined list
pub each_both : {A : Type 0} (P : A → Type 0) (xs ys : List A) → AllByRecursion P xs → AllByRecursion P ys → AllByRecursion P (xs ++ ys)
each_both P [] ys h k = k
each_both P (x ∷ xs) ys h k = (h.0, each_both P xs ys h.1 k)

-- a property of each element of a joined list holds for each of both parts
pub each_parts : {A : Type 0} (P : A → Type 0) (xs ys : List A) → AllByRecursion P (xs ++ ys) → AllByRecursion P xs × AllByRecursion P ys
each_parts P [] ys h = (tt, h)
each_parts P (x ∷ xs) ys h = let others = each_parts P xs ys h.1 in ((h.0, others.0), others.1)

-- a property of each element, with one more element
pub each_more : {A : Type 0} (P : A → Type 0) (xs : List A) (x : A) → AllByRecursion P xs → P x → AllByRecursion P (xs ++ x ∷ [])
each_more P [] x h k = (k, tt)
each_more P (y ∷ xs) x h k = (h.0, each_more P xs x h.1 k)

-- a property of each element holds for each of the first n, and for each after them
pub each_take : {A : Type 0} (P : A → Type 0) (n : ℕ) (xs : List A) → AllByRecursion P xs → AllByRecursion P (take n xs)
each_take P zero xs h = tt
each_take P (suc n) [] h = tt
each_take P (suc n) (x ∷ xs) h = (h.0, each_take P n xs h.1)

pub each_drop : {A : Type 0} (P : A → Type 0) (n : ℕ) (xs : List A) → AllByRecursion P xs → AllByRecursion P (drop n xs)
each_drop P zero xs h = h
each_drop P (suc n) [] h = tt
each_drop P (suc n) (x ∷ xs) h = each_drop P n xs h.1
