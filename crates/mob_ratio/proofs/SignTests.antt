-- The tests for a sign, in the form that the search uses.
use Rattle.std.{specs.Prelude.{◌≡◌, Bool, true, false, pos, refl}, specs.declared.cmp.Ordering.TheVariants.{Less, Equal, Greater}, proofs.Common.{ap, sym, ◌∙◌, inl, inr}}
use Rattle.std.proofs.lemmas.Bool.{false_from_ne_true}
use Rattle.mob_ratio.{specs.Ratio.{Ratio, whole, ◌-ℚ◌, ◌<ℚ◌}, specs.Order.{before}, specs.Sign.{nil, opposite, sign_of}}
use Rattle.mob_ratio.{proofs.Order.{before-trans, before-neither, before-lt, lt-before}, proofs.Signs.{opposite_cases, sign_below, sign_above, sign_nil, ne_by, ne_by'}}

pub opposite_differ : (f0 f1 : Ratio) → opposite f0 f1 ≡ true → f0 -ℚ f1 ≡ nil → ⊥
opposite_differ f0 f1 h e = elim (opposite_cases f0 f1 h) [ inl k ↦ ne_by f0 f1 (before-trans f0 nil f1 k.0 k.1) e | inr k ↦ ne_by' f0 f1 (before-trans f1 nil f0 k.1 k.0) e ]

-- the tests for a sign, in the form that the search uses
pub below_by : (x : Ratio) → x <ℚ nil → true ≡ before x nil
below_by x h = sym (lt-before x nil h)

pub not_below_by : (x : Ratio) → (x <ℚ nil → ⊥) → false ≡ before x nil
not_below_by x h = sym (false_from_ne_true (before x nil) (λ e. h (before-lt x nil e)))

pub above_by : (x : Ratio) → nil <ℚ x → true ≡ before nil x
above_by x h = sym (lt-before nil x h)

pub not_above_by : (x : Ratio) → (nil <ℚ x → ⊥) → false ≡ before nil x
not_above_by x h = sym (false_from_ne_true (before nil x) (λ e. h (before-lt nil x e)))

-- the sign, in that form
pub less_by : (x : Ratio) → x <ℚ whole (pos 0) → Less ≡ sign_of x
less_by x h = sym (sign_below x (lt-before x nil h))

pub equal_by : (x : Ratio) → x ≡ whole (pos 0) → Equal ≡ sign_of x
equal_by x h = sym (ap sign_of h ∙ sign_nil)

pub greater_by : (x : Ratio) → (x <ℚ whole (pos 0) → ⊥) → (x ≡ whole (pos 0) → ⊥) → Greater ≡ sign_of x
greater_by x h k = sym (sign_above x (above (before nil x) refl))
  where
    above : (b : Bool) → before nil x ≡ b → before nil x ≡ true
    above true e = e
    above false e = absurd (k (before-neither x nil (false_from_ne_true (before x nil) (λ m. h (before-lt x nil m))) e))
