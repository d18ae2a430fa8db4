-- The result of the comparison, from the answer for a wanted one.
use Rattle.std.{specs.Prelude.{◌≡◌, Bool, true, false, not, Option, Some, None, option_map, refl}, proofs.Common.{ap, sym, ◌∙◌, true≢false}}
use Rattle.mob_ratio.specs.Ratio.{Ratio}
use Rattle.mob_span.specs.Flags.{same_bool}
use Rattle.mob_lift.specs.Sometime.{IsSometime, IsEver, IsAlways}

same_true : (b : Bool) → same_bool b true ≡ b
same_true true = refl
same_true false = refl

same_false : (b : Bool) → same_bool b false ≡ not b
same_false true = refl
same_false false = refl

module _ {X Y : Type 0} (op : X → Y → Bool) (left : Ratio → Option X) (right : Ratio → Option Y) where
  wanted_true : IsSometime (λ x y. same_bool (op x y) true ≡ true) left right → IsSometime (λ x y. op x y ≡ true) left right
  wanted_true h = (h.0, h.1, h.2, h.3, h.4, sym (same_true (op h.1 h.2)) ∙ h.5)

  true_wanted : IsSometime (λ x y. op x y ≡ true) left right → IsSometime (λ x y. same_bool (op x y) true ≡ true) left right
  true_wanted h = (h.0, h.1, h.2, h.3, h.4, same_true (op h.1 h.2) ∙ h.5)

  pub ever_is : (r : Option Bool) → IsEver (λ x y. same_bool (op x y) true) left right r → IsEver op left right r
  ever_is None h = h
  ever_is (Some b) h = (h.0, (λ e. wanted_true (h.1.0 e), λ e. h.1.1 (true_wanted e)))

  no_one : (b : Bool) → not b ≡ true → b ≡ true → {R : Type 0} → R
  no_one true h k = absurd (true≢false (sym h))
  no_one false h k = absurd (true≢false (sym k))

  else_true : (b : Bool) → (not b ≡ true → b ≡ true) → b ≡ true
  else_true true f = refl
  else_true false f = f refl

  not_by : (b : Bool) → (b ≡ true → ⊥) → not b ≡ true
  not_by true f = absurd (f refl)
  not_by false f = refl

  -- it holds at every common instant if it fails at none
  pub always_is : (r : Option Bool) → IsEver (λ x y. same_bool (op x y) false) left right r → IsAlways op left right (option_map not r)
  always_is None h = h
  always_is (Some b) h = (
    h.0,
    (
      λ e t x y p q. else_true (op x y) (λ n. no_one b e (h.1.1 (t, x, y, p, q, same_false (op x y) ∙ n))),
      λ f. not_by b (λ e. let m = h.1.0 e in true≢false (sym (sym (same_false (op m.1 m.2)) ∙ m.5) ∙ ap not (f m.0 m.1 m.2 m.3 m.4))),
    ),
  )
