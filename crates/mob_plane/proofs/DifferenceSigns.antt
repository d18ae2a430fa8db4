-- The signs of differences.
use Rattle.std.{specs.Prelude.{◌≡◌, true, false, cond}, specs.declared.cmp.Ordering.{Ordering}, specs.declared.cmp.Ordering.TheVariants.{Less, Equal, Greater}, specs.Ordering.{MatchOrdering}}
use Rattle.std.proofs.Common.{sym, ap, ◌∙◌, subst}
use Rattle.mob_ratio.{specs.Ratio.{Ratio, ◌<ℚ◌, ◌-ℚ◌}, specs.Order.{before}, specs.Sign.{sign_of, nil}, proofs.Order.{lt-before}, proofs.Signs.{sign-diff, sign_below, sign_above, sign_nil}}

pub side_below : (x y : Ratio) → before x y ≡ true → Less ≡ sign_of (x -ℚ y)
side_below x y h = subst (λ b. cond b Less (cond (before y x) Greater Equal) ≡ sign_of (x -ℚ y)) h (sign-diff x y)

side_rest : (x y : Ratio) → before x y ≡ false → cond (before y x) Greater Equal ≡ sign_of (x -ℚ y)
side_rest x y h = subst (λ b. cond b Less (cond (before y x) Greater Equal) ≡ sign_of (x -ℚ y)) h (sign-diff x y)

pub side_above : (x y : Ratio) → before x y ≡ false → before y x ≡ true → Greater ≡ sign_of (x -ℚ y)
side_above x y h k = subst (λ b. cond b Greater Equal ≡ sign_of (x -ℚ y)) k (side_rest x y h)

pub side_same : (x y : Ratio) → before x y ≡ false → before y x ≡ false → Equal ≡ sign_of (x -ℚ y)
side_same x y h k = subst (λ b. cond b Greater Equal ≡ sign_of (x -ℚ y)) k (side_rest x y h)

-- comparing x with 0 gives its sign
pub sign_is : (x z : Ratio) (r : Ordering) → z ≡ nil → MatchOrdering r (x <ℚ z) (x ≡ z) (z <ℚ x) → r ≡ sign_of x
sign_is x z Less e h = sym (sign_below x (lt-before x nil (subst (λ z. x <ℚ z) e h)))
sign_is x z Equal e h = sym (ap sign_of (h ∙ e) ∙ sign_nil)
sign_is x z Greater e h = sym (sign_above x (lt-before nil x (subst (λ z. z <ℚ x) e h)))
