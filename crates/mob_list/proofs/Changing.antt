-- Invariants of a loop that changes each entry of a list in place.
use Rattle.std.{specs.List.{AllZip}, proofs.Common.{◌≡◌, ◌∙◌, refl, ap, subst, ℕ, zero, suc, arith, ◌<◌, ◌≤◌, length, List, [], ◌∷◌, get_or, set}}

-- the first n entries are changed by R, and the others not at all
abbrev pub AreChanged : {A : Type 0} → (A → A → Type 0) → ℕ → List A → List A → Type 0
AreChanged R n [] [] = Unit {0}
AreChanged R n [] (y ∷ ys) = ⊥
AreChanged R n (x ∷ xs) [] = ⊥
AreChanged R zero (x ∷ xs) (y ∷ ys) = (y ≡ x) × AreChanged R zero xs ys
AreChanged R (suc n) (x ∷ xs) (y ∷ ys) = R x y × AreChanged R n xs ys

module _ {A : Type 0} (R : A → A → Type 0) where
  pub none_changed : (xs : List A) → AreChanged R 0 xs xs
  none_changed [] = tt
  none_changed (x ∷ xs) = (refl, none_changed xs)

  pub next_changed : (n : ℕ) (xs ys : List A) (y z : A) → n < length ys → y ≡ get_or ys n y → R y z → AreChanged R n xs ys → AreChanged R (suc n) xs (set ys n z)
  next_changed n [] [] y z lt is new h = absurd (omega (arith, lt))
  next_changed n [] (b ∷ ys) y z lt is new h = absurd h
  next_changed n (x ∷ xs) [] y z lt is new h = absurd h
  next_changed zero (x ∷ xs) (b ∷ ys) y z lt is new h = (subst (λ a. R a z) (is ∙ h.0) new, h.1)
  next_changed (suc n) (x ∷ xs) (b ∷ ys) y z lt is new h = (h.0, next_changed n xs ys y z (omega (arith, lt)) is new h.1)

  pub all_changed : (n : ℕ) (xs ys : List A) → length ys ≤ n → AreChanged R n xs ys → AllZip R xs ys
  all_changed n [] [] le h = tt
  all_changed n [] (y ∷ ys) le h = absurd h
  all_changed n (x ∷ xs) [] le h = absurd h
  all_changed zero (x ∷ xs) (y ∷ ys) le h = absurd (omega (arith, le))
  all_changed (suc n) (x ∷ xs) (y ∷ ys) le h = (h.0, all_changed n xs ys (omega (arith, le)) h.1)

  pub changed_length : (n : ℕ) (xs ys : List A) → AreChanged R n xs ys → length ys ≡ length xs
  changed_length n [] [] h = refl
  changed_length n [] (y ∷ ys) h = absurd h
  changed_length n (x ∷ xs) [] h = absurd h
  changed_length zero (x ∷ xs) (y ∷ ys) h = ap suc (changed_length zero xs ys h.1)
  changed_length (suc n) (x ∷ xs) (y ∷ ys) h = ap suc (changed_length n xs ys h.1)

  -- an entry not yet changed has its old value
  pub still : (n : ℕ) (xs ys : List A) (y : A) → n < length ys → y ≡ get_or ys n y → AreChanged R n xs ys → (n < length xs) × (y ≡ get_or xs n y)
  still n [] [] y lt is h = absurd (omega (arith, lt))
  still n [] (b ∷ ys) y lt is h = absurd h
  still n (x ∷ xs) [] y lt is h = absurd h
  still zero (x ∷ xs) (b ∷ ys) y lt is h = (omega arith, is ∙ h.0)
  still (suc n) (x ∷ xs) (b ∷ ys) y lt is h = let k = still n xs ys y (omega (arith, lt)) is h.1 in (omega (arith, k.0), k.1)
