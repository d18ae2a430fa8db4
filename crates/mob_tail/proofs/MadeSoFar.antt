-- The invariant of a loop that takes a list apart and makes something of each entry.
use Rattle.std.{specs.Prelude.{◌≡◌, refl, List, [], ◌∷◌, ◌++◌}, specs.List.{AllZip}, proofs.Common.{ap, sym, ◌∙◌, subst, append_assoc, append-nil}}
use Rattle.mob_list.proofs.Entries.{zip_more}

module _ {A B C : Type 0} (R : A → B → Type 0) (Q : A → C → Type 0) where
  -- The first entries of the list are made, and the rest is left.
  pub record IsMadeSoFar (all : List A) (made : List C) (left : List B) : Type 0 where
    pub front : List A
    pub back : List A
    pub both : all ≡ front ++ back
    pub done : AllZip Q front made
    pub rest : AllZip R back left

  pub made_none : (all : List A) (made : List C) (left : List B) → made ≡ [] → AllZip R all left → IsMadeSoFar all made left
  made_none all made left e h = record { front = []; back = all; both = refl; done = subst (λ u. AllZip Q [] u) (sym e) tt; rest = h }

  made_by : (all front back : List A) (made next : List C) (left rest : List B) (y : B) (z : C) → all ≡ front ++ back → AllZip Q front made → AllZip R back left → left ≡ y ∷ rest → next ≡ made ++ z ∷ [] → ((x : A) → R x y → Q x z) → IsMadeSoFar all next rest
  made_by all front [] made next left rest y z e h k l n step = absurd (subst (λ u. AllZip R [] u) l k)
  made_by all front (x ∷ back) made next left rest y z e h k l n step =
      let here = subst (λ u. AllZip R (x ∷ back) u) l k in
      record { front = front ++ x ∷ []; back = back; both = e ∙ sym (append_assoc front (x ∷ []) back); done = subst (AllZip Q (front ++ x ∷ [])) (sym n) (zip_more Q front made x z h (step x here.0)); rest = here.1 }

  pub made_more : (all : List A) (made next : List C) (left rest : List B) (y : B) (z : C) → left ≡ y ∷ rest → next ≡ made ++ z ∷ [] → ((x : A) → R x y → Q x z) → IsMadeSoFar all made left → IsMadeSoFar all next rest
  made_more all made next left rest y z l n step h = made_by all h.front h.back made next left rest y z h.both h.done h.rest l n step

  end_by : (all front back : List A) (made : List C) → all ≡ front ++ back → AllZip Q front made → AllZip R back [] → AllZip Q all made
  end_by all front [] made e h k = subst (λ u. AllZip Q u made) (sym (e ∙ append-nil front)) h
  end_by all front (x ∷ back) made e h k = absurd k

  pub made_all : (all : List A) (made : List C) (left : List B) → left ≡ [] → IsMadeSoFar all made left → AllZip Q all made
  made_all all made left e h = end_by all h.front h.back made h.both h.done (subst (λ u. AllZip R h.back u) e h.rest)

-- two lists with equal entries are equal
pub same_lists : {A : Type 0} (xs ys : List A) → AllZip (λ x y. y ≡ x) xs ys → ys ≡ xs
same_lists [] [] h = refl
same_lists [] (y ∷ ys) h = absurd h
same_lists (x ∷ xs) [] h = absurd h
same_lists (x ∷ xs) (y ∷ ys) h = ap (λ z. z ∷ ys) h.0 ∙ ap (λ z. x ∷ z) (same_lists xs ys h.1)
