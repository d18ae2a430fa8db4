-- If longer signs come first, the first sign at the front of a text is the longest.
use Rattle.std.{specs.Prelude.{nat_eq, ◌&&◌, IfSome}, specs.List.{starts_with}}
use Rattle.std.{proofs.Common.{◌≡◌, ◌≤◌, ◌<◌, ◌∙◌, inl, inr, ℕ, List, [], ◌∷◌, length, Bool, true, cond, Option, Some, None, refl, sym, ap, subst, arith}, proofs.Math.Dec.{leb}}
use Rattle.std.proofs.lemmas.Bool.{leb-true, cases_Bool, and_parts}
use Rattle.mob_chars.specs.Signs.{longer, longest_sign, first_sign}

-- no sign has more than n bytes
abbrev pub bounded : ℕ → List (List ℕ) → Bool
bounded n [] = true
bounded n (s ∷ ss) = leb (length s) n && bounded n ss

abbrev pub descending : List (List ℕ) → Bool
descending [] = true
descending (s ∷ ss) = bounded (length s) ss && descending ss

longer_twice : (n m : ℕ) (o : Option ℕ) → m ≤ n → longer n o ≡ Some n → longer n (longer m o) ≡ Some n
longer_twice n m None h e = ap Some (omega arith)
longer_twice n m (Some k) h e = let P : Option ℕ → ℕ = λ x. elim x [ Some y ↦ y | None ↦ n ] in ap Some (omega (arith, ap P e))

within : (n : ℕ) (ss : List (List ℕ)) (l : List ℕ) → bounded n ss ≡ true → longer n (longest_sign ss l) ≡ Some n
within n [] l h = refl
within n (s ∷ ss) l h =
    let p = and_parts (leb (length s) n) (bounded n ss) h in
    elim (cases_Bool (starts_with nat_eq l s)) [
      | inl yes_ ↦ ap (λ b. longer n (cond b (longer (length s) (longest_sign ss l)) (longest_sign ss l))) yes_ ∙ longer_twice n (length s) (longest_sign ss l) (leb-true (length s) n p.0) (within n ss l p.1)
      | inr no_ ↦ ap (λ b. longer n (cond b (longer (length s) (longest_sign ss l)) (longest_sign ss l))) no_ ∙ within n ss l p.1
    ]

pub first_is_longest : (ss : List (List ℕ)) (l : List ℕ) → descending ss ≡ true → first_sign ss l ≡ longest_sign ss l
first_is_longest [] l h = refl
first_is_longest (s ∷ ss) l h =
    let p = and_parts (bounded (length s) ss) (descending ss) h in
    ap (cond (starts_with nat_eq l s) (Some (length s))) (first_is_longest ss l p.1) ∙ ap (λ o. cond (starts_with nat_eq l s) o (longest_sign ss l)) (sym (within (length s) ss l p.0))

-- each sign has at least one byte
abbrev pub filled : List (List ℕ) → Bool
filled [] = true
filled (s ∷ ss) = leb 1 (length s) && filled ss

starts_fits : (l s : List ℕ) → starts_with nat_eq l s ≡ true → length s ≤ length l
starts_fits l [] h = omega arith
starts_fits [] (x ∷ s) h = absurd (cc h)
starts_fits (y ∷ l) (x ∷ s) h = omega (arith, starts_fits l s (and_parts (nat_eq x y) (starts_with nat_eq l s) h).1)

pub first_fits : (ss : List (List ℕ)) (l : List ℕ) → filled ss ≡ true → IfSome (first_sign ss l) (λ n. (0 < n) × (n ≤ length l))
first_fits [] l h = tt
first_fits (s ∷ ss) l h =
    let p = and_parts (leb 1 (length s)) (filled ss) h in
    let P : Bool → Type 0 = λ b. IfSome (cond b (Some (length s)) (first_sign ss l)) (λ n. (0 < n) × (n ≤ length l)) in
    elim (cases_Bool (starts_with nat_eq l s)) [
      | inl yes_ ↦ subst P (sym yes_) (leb-true 1 (length s) p.0, starts_fits l s yes_)
      | inr no_ ↦ subst P (sym no_) (first_fits ss l p.1)
    ]
