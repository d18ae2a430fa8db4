-- Whether two quotients are equal.
use Rattle.std.specs.Prelude.{◌≡◌, Bool, true, false, not, ◌&&◌, refl}
use Rattle.std.proofs.Common.{arith, sym, subst, true≢false, ◌∙◌}
use Rattle.mob_ratio.{specs.Ratio.{Ratio, ◌<ℚ◌}, specs.Order.{before, same}, specs.Sign.{nil, opposite}, proofs.Order.{before-self, lt-before, same_exact}}

pub apart_below : (x y a b : Ratio) → a ≡ x → b ≡ y → a <ℚ b → false ≡ same x y
unfolding same
apart_below x y a b ea eb h = rw (sym ea, sym eb, lt-before a b h) refl

pub apart_above : (x y a b : Ratio) → a ≡ x → b ≡ y → b <ℚ a → false ≡ same x y
unfolding same
apart_above x y a b ea eb h = rw (sym ea, sym eb, lt-before b a h) (sym (nothing (not (before a b))))
  where
    nothing : (c : Bool) → (c && false) ≡ false
    nothing true = refl
    nothing false = refl

pub together : (x y a b : Ratio) → a ≡ x → b ≡ y → a ≡ b → true ≡ same x y
together x y a b ea eb h = sym ((same_exact x y).1 (sym ea ∙ h ∙ eb))

opposite_nil : (d : Ratio) → opposite d nil ≡ false
unfolding opposite
opposite_nil d = grind (arith, before-self nil)

-- an end with a sign is not 0
pub opposite_last : (f g : Ratio) → opposite f g ≡ true → g ≡ nil → ⊥
opposite_last f g h e = true≢false (sym (subst (λ z. opposite f z ≡ true) e h) ∙ opposite_nil f)
