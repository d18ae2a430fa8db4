-- Where the nearest point of a leg lies, by as few steps as decide it.
use Rattle.std.{specs.Prelude.{◌≡◌, Bool, true, false, ◌&&◌}, proofs.Common.{ap, sym, ◌∙◌}}
use Rattle.mob_ratio.{specs.Ratio.{Ratio, ◌+ℚ◌, ◌-ℚ◌, ◌*ℚ◌}, specs.Order.{before}, specs.Sign.{nil}}
use Rattle.mob_legs.specs.Legs.{foot_of, is_on_the_way}
use Rattle.mob_legs.specs.declared.legs.Leg.{Leg}

module _ (g : Leg) (ex ey along : Ratio) where
  same_along : ex ≡ g.x1 -ℚ g.x0 → ey ≡ g.y1 -ℚ g.y0 → along ≡ g.x0 *ℚ ex +ℚ g.y0 *ℚ ey → along ≡ (foot_of g).along
  same_along e f a = a ∙ ap (λ z. g.x0 *ℚ z +ℚ g.y0 *ℚ ey) e ∙ ap (λ z. g.x0 *ℚ (g.x1 -ℚ g.x0) +ℚ g.y0 *ℚ z) f

  -- not between the ends if it does not approach at its start
  pub recedes : ex ≡ g.x1 -ℚ g.x0 → ey ≡ g.y1 -ℚ g.y0 → along ≡ g.x0 *ℚ ex +ℚ g.y0 *ℚ ey → before along nil ≡ false → false ≡ is_on_the_way (foot_of g)
  recedes e f a h = sym (ap (λ b. b && before nil (foot_of g).beyond) (sym (ap (λ z. before z nil) (same_along e f a)) ∙ h))

  -- if it does, between them exactly if it recedes at its end
  pub turns : (length beyond : Ratio) (r : Bool) → ex ≡ g.x1 -ℚ g.x0 → ey ≡ g.y1 -ℚ g.y0 → along ≡ g.x0 *ℚ ex +ℚ g.y0 *ℚ ey → before along nil ≡ true → length ≡ ex *ℚ ex +ℚ ey *ℚ ey → beyond ≡ length +ℚ along → r ≡ before nil beyond → r ≡ is_on_the_way (foot_of g)
  turns length beyond r e f a h l b k =
      let long : length ≡ (foot_of g).length = l ∙ ap (λ z. z *ℚ z +ℚ ey *ℚ ey) e ∙ ap (λ z. (g.x1 -ℚ g.x0) *ℚ (g.x1 -ℚ g.x0) +ℚ z *ℚ z) f in
      let past : beyond ≡ (foot_of g).beyond = b ∙ ap (λ z. z +ℚ along) long ∙ ap (λ z. (foot_of g).length +ℚ z) (same_along e f a) in
      k ∙ ap (before nil) past ∙ sym (ap (λ d. d && before nil (foot_of g).beyond) (sym (ap (λ z. before z nil) (same_along e f a)) ∙ h))
