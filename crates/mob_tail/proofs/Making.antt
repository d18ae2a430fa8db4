-- The invariant of a loop that makes something of each entry of a list.
use Rattle.std.proofs.Common.{◌≡◌, inl, inr, ℕ, ◌+◌, ◌<◌, List, [], ◌∷◌, ◌++◌, Result, Ok, Err, length, map, take, drop, get_or, ◌≤◌, refl, sym, ap, subst, ◌∙◌, arith}
use Rattle.std.proofs.lemmas.List.{take_more, take_all, take-append-drop}
use Rattle.mob_tail.specs.IsMadeOfEach.{IsMadeOfEach}
use Rattle.mob_list.proofs.Entries.{drop_read}

module _ {X Y F : Type 0} (R : X → Result Y F → Type 0) where
  each_one_more : (xs : List X) (x : X) (ys : List Y) (y : Y) → IsMadeOfEach R xs (Ok ys) → R x (Ok y) → IsMadeOfEach R (xs ++ x ∷ []) (Ok (ys ++ y ∷ []))
  each_one_more [] x ys y h k = (y, k, ([], ap (λ z. z ++ y ∷ []) h, refl))
  each_one_more (w ∷ xs) x ys y h k = (h.0, h.1, (h.2.0 ++ y ∷ [], ap (λ z. z ++ y ∷ []) h.2.1, each_one_more xs x h.2.0 y h.2.2 k))

  each_fault_at : (xs : List X) (x : X) (rest : List X) (ys : List Y) (f : F) → IsMadeOfEach R xs (Ok ys) → R x (Err f) → IsMadeOfEach R (xs ++ x ∷ rest) (Err f)
  each_fault_at [] x rest ys f h k = inl k
  each_fault_at (w ∷ xs) x rest ys f h k = inr (h.0, h.1, each_fault_at xs x rest h.2.0 f h.2.2 k)

  -- at the place i of the list, with what was made of the entries before it
  module _ (xs : List X) (i : ℕ) (x : X) (lt : i < length xs) (is : x ≡ get_or xs i x) (ys : List Y) (h : IsMadeOfEach R (take i xs) (Ok ys)) where
    pub each_next : (y : Y) (next : List Y) → R x (Ok y) → next ≡ ys ++ y ∷ [] → IsMadeOfEach R (take (i + 1) xs) (Ok next)
    each_next y next k e =
        let more : take (i + 1) xs ≡ take i xs ++ x ∷ [] = take_more xs i x lt ∙ ap (λ z. take i xs ++ z ∷ []) (sym is) in
        subst (λ z. IsMadeOfEach R z (Ok next)) (sym more) (subst (λ z. IsMadeOfEach R (take i xs ++ x ∷ []) (Ok z)) (sym e) (each_one_more (take i xs) x ys y h k))

    pub each_fault : (f : F) → R x (Err f) → IsMadeOfEach R xs (Err f)
    each_fault f k =
        let all : xs ≡ take i xs ++ x ∷ drop (i + 1) xs = sym (take-append-drop i xs) ∙ ap (λ z. take i xs ++ z) (drop_read xs i x lt is) in
        subst (λ z. IsMadeOfEach R z (Err f)) (sym all) (each_fault_at (take i xs) x (drop (i + 1) xs) ys f h k)

  pub each_all : (xs : List X) (i : ℕ) (ys : List Y) → length xs ≡ i → IsMadeOfEach R (take i xs) (Ok ys) → IsMadeOfEach R xs (Ok ys)
  each_all xs i ys e h = let most : length xs ≤ i = omega arith in subst (λ z. IsMadeOfEach R z (Ok ys)) (take_all i xs most) h

  pub made_length : (xs : List X) (ys : List Y) → IsMadeOfEach R xs (Ok ys) → length ys ≡ length xs
  made_length [] ys h = ap length h
  made_length (x ∷ xs) ys h = let e = made_length xs h.2.0 h.2.2 in let all = ap length h.2.1 in omega (arith, e, all)

-- making something of an entry through what it is seen as
module _ {W X Y F : Type 0} (R : X → Result Y F → Type 0) (see : W → X) where
  pub made_seen : (ws : List W) (ys : List Y) → IsMadeOfEach (λ w. R (see w)) ws (Ok ys) → IsMadeOfEach R (map see ws) (Ok ys)
  made_seen [] ys h = h
  made_seen (w ∷ ws) ys h = (h.0, h.1, (h.2.0, h.2.1, made_seen ws h.2.0 h.2.2))

  pub fault_seen : (ws : List W) (f : F) → IsMadeOfEach (λ w. R (see w)) ws (Err f) → IsMadeOfEach R (map see ws) (Err f)
  fault_seen [] f h = h
  fault_seen (w ∷ ws) f (inl h) = inl h
  fault_seen (w ∷ ws) f (inr h) = inr (h.0, h.1, fault_seen ws f h.2)
