-- A list has one stable order.
use Rattle.std.{specs.List.{filter}, specs.List.Sorted.{IsSortedBy, ties}, specs.Cmp.{IsStrictWeakOrder}}
use Rattle.std.proofs.Common.{◌≡◌, Bool, true, false, List, [], ◌∷◌, refl, sym, ap, subst, ◌∙◌}
use Rattle.mob_list.proofs.Rising.{Leads, Rises, rises_sorted}

module _ {X : Type 0} (lt : X → X → Bool) (order : IsStrictWeakOrder lt) where
  self : (x : X) → lt x x ≡ false
  self x = by (lt x x) refl
    where
      by : (b : Bool) → lt x x ≡ b → lt x x ≡ false
      by true h = order.one_way x x h
      by false h = h

  tie : (x y : X) → lt x y ≡ false → lt y x ≡ false → ties lt x y ≡ true
  tie x y h k = rw (h, k) refl

  passes : (p : X → Bool) (x : X) (xs : List X) → p x ≡ true → filter p (x ∷ xs) ≡ x ∷ filter p xs
  passes p x xs h = rw h refl

  fails : (p : X → Bool) (x : X) (xs : List X) → p x ≡ false → filter p (x ∷ xs) ≡ filter p xs
  fails p x xs h = rw h refl

  -- the first entry that passes a test is not less than one that leads the list
  led : (x y : X) (p : X → Bool) (zs rest : List X) → Leads lt x zs → filter p zs ≡ y ∷ rest → lt y x ≡ false
  led x y p [] rest h e = absurd (cc e)
  led x y p (z ∷ zs) rest h e = by (p z) refl (λ k. led x y p zs rest h.1 k)
    where
      by : (b : Bool) → p z ≡ b → (filter p zs ≡ y ∷ rest → lt y x ≡ false) → lt y x ≡ false
      by true k later = let same : z ≡ y = let q = sym (passes p z zs k) ∙ e in cc q in subst (λ w. lt w x ≡ false) same h.0
      by false k later = later (sym (fails p z zs k) ∙ e)

  tails : (y : X) (ys zs : List X) → ((x : X) → filter (ties lt x) (y ∷ ys) ≡ filter (ties lt x) (y ∷ zs)) → (x : X) → filter (ties lt x) ys ≡ filter (ties lt x) zs
  tails y ys zs s x = by (ties lt x y) refl
    where
      by : (b : Bool) → ties lt x y ≡ b → filter (ties lt x) ys ≡ filter (ties lt x) zs
      by true k = let q = sym (passes (ties lt x) y ys k) ∙ s x ∙ passes (ties lt x) y zs k in cc q
      by false k = sym (fails (ties lt x) y ys k) ∙ s x ∙ fails (ties lt x) y zs k

  one_rise : (ys zs : List X) → Rises lt ys → Rises lt zs → ((x : X) → filter (ties lt x) ys ≡ filter (ties lt x) zs) → ys ≡ zs
  one_rise [] [] a b s = refl
  one_rise [] (z ∷ zs) a b s = let q = s z ∙ passes (ties lt z) z zs (tie z z (self z) (self z)) in absurd (cc q)
  one_rise (y ∷ ys) [] a b s = let q = sym (s y) ∙ passes (ties lt y) y ys (tie y y (self y) (self y)) in absurd (cc q)
  one_rise (y ∷ ys) (z ∷ zs) a b s =
      let own_y = passes (ties lt y) y ys (tie y y (self y) (self y)) in
      let own_z = passes (ties lt z) z zs (tie z z (self z) (self z)) in
      let up : lt y z ≡ false = led z y (ties lt y) (z ∷ zs) (filter (ties lt y) ys) (self z, b.0) (sym (s y) ∙ own_y) in
      let down : lt z y ≡ false = led y z (ties lt z) (y ∷ ys) (filter (ties lt z) zs) (self y, a.0) (s z ∙ own_z) in
      let both = sym own_y ∙ s y ∙ passes (ties lt y) z zs (tie y z up down) in
      let same : y ≡ z = cc both in
      let here : (x : X) → filter (ties lt x) (y ∷ ys) ≡ filter (ties lt x) (y ∷ zs) = λ x. s x ∙ ap (λ w. filter (ties lt x) (w ∷ zs)) (sym same) in
      let rest : ys ≡ zs = one_rise ys zs a.1 b.1 (tails y ys zs here) in
      λ i. same i ∷ rest i

  pub one_order : (ys zs : List X) → IsSortedBy lt ys → IsSortedBy lt zs → ((x : X) → filter (ties lt x) ys ≡ filter (ties lt x) zs) → ys ≡ zs
  one_order ys zs a b s = one_rise ys zs (rises_sorted lt order ys a) (rises_sorted lt order zs b) s
