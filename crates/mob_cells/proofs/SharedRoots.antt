-- Linear functions strictly between the ends of a span: their signs, and the roots that two share.
use Rattle.std.{specs.Prelude.{◌≡◌, Bool, true, false, cond, refl}, specs.declared.cmp.Ordering.TheVariants.{Equal}, specs.Ordering.{is_eq}}
use Rattle.std.proofs.Common.{arith, ap, sym, ◌∙◌, true≢false}
use Rattle.mob_ratio.{specs.Ratio.{Ratio, ◌-ℚ◌, ◌*ℚ◌}, specs.Order.{before, same}, specs.Line.{line_at}, specs.Sign.{nil, opposite, sign_of, sign_on}}
use Rattle.mob_ratio.{proofs.Order.{before-back, before-differ, before-differ-back, before-self, before-trans, same_exact, up_to-self}, proofs.Signs.{eq_sign, line_at-diff, sign_nil, sign_open, sub_zero}}
use Rattle.mob_ratio.{proofs.Clear.{clear1, cleared}, proofs.Divide.{mul_cancel}, proofs.Field.{mul_comm, sub_self}, proofs.IntRing.{linear}, proofs.LineAt.{line_at-scale}}

-- without a root, the sign is that of the end that is not 0
pub level_sign : (f g l u t : Ratio) → before l t ≡ true → before t u ≡ true → opposite f g ≡ false → sign_of (line_at f g l u t) ≡ cond (same f nil) (sign_of g) (sign_of f)
unfolding sign_on
level_sign f g l u t h k o =
    let w = before-trans l t u h k in
    sign_open f g l u l u t w (record { after = up_to-self l; until = up_to-self u; no_root = λ e. absurd (true≢false (sym e ∙ o)) }) h k false o
    ∙ rw (o, before-differ-back l u w, before-differ l u w) refl

pub no_opposite : (f g : Ratio) → opposite f g ≡ true → (same f nil ≡ false) × (same g nil ≡ false)
unfolding opposite same
no_opposite f g h = (grind (arith, h, before-back f nil, before-back g nil), grind (arith, h, before-back f nil, before-back g nil))

-- a number is 0 if its sign is Equal
pub equal_nil : (q : Ratio) → sign_of q ≡ Equal → q ≡ nil
equal_nil q e = (same_exact q nil).0 (sym (eq_sign q) ∙ ap is_eq e)

nil_mul : (a : Ratio) → nil *ℚ a ≡ nil
nil_mul = clear1 _ (λ D a p. simp cleared (omega (arith, linear)))

-- each function times the last end of the other
scaled : (f0 f1 e0 e1 l u t : Ratio) → f0 *ℚ e1 ≡ e0 *ℚ f1 → line_at f0 f1 l u t *ℚ e1 ≡ line_at e0 e1 l u t *ℚ f1
scaled f0 f1 e0 e1 l u t c = sym (line_at-scale f0 f1 e1 l u t) ∙ ap (λ z. line_at z (f1 *ℚ e1) l u t) c ∙ ap (λ z. line_at (e0 *ℚ f1) z l u t) (mul_comm f1 e1) ∙ line_at-scale e0 e1 f1 l u t

-- if the ends have equal ratios, a root of one is a root of the other
pub same_root : (f0 f1 e0 e1 l u t : Ratio) → (f1 ≡ nil → ⊥) → f0 *ℚ e1 ≡ e0 *ℚ f1 → line_at f0 f1 l u t ≡ nil → line_at e0 e1 l u t ≡ nil
same_root f0 f1 e0 e1 l u t n c z = mul_cancel (line_at e0 e1 l u t) nil f1 n (sym (scaled f0 f1 e0 e1 l u t c) ∙ ap (λ q. q *ℚ e1) z ∙ nil_mul e1 ∙ sym (nil_mul f1))

opposite_nil : (d : Ratio) → opposite d nil ≡ false
unfolding opposite
opposite_nil d = grind (arith, before-self nil)

-- a line that ends with 0 and is 0 before that begins with 0
starts_nil : (d l u t : Ratio) → before l t ≡ true → before t u ≡ true → line_at d nil l u t ≡ nil → (b : Bool) → same d nil ≡ b → d ≡ nil
starts_nil d l u t h k z true e = (same_exact d nil).0 e
starts_nil d l u t h k z false e = equal_nil d (sym (level_sign d nil l u t h k (opposite_nil d) ∙ rw e refl) ∙ ap sign_of z ∙ sign_nil)

-- if both have the same root, their ends have equal ratios
pub one_ratio : (f0 f1 e0 e1 l u t : Ratio) → before l t ≡ true → before t u ≡ true → line_at f0 f1 l u t ≡ nil → line_at e0 e1 l u t ≡ nil → f0 *ℚ e1 ≡ e0 *ℚ f1
one_ratio f0 f1 e0 e1 l u t h k y z =
    let a : line_at (f0 *ℚ e1) (f1 *ℚ e1) l u t ≡ nil = line_at-scale f0 f1 e1 l u t ∙ ap (λ q. q *ℚ e1) y ∙ nil_mul e1 in
    let b : line_at (e0 *ℚ f1) (e1 *ℚ f1) l u t ≡ nil = line_at-scale e0 e1 f1 l u t ∙ ap (λ q. q *ℚ f1) z ∙ nil_mul f1 in
    let d = (f0 *ℚ e1) -ℚ (e0 *ℚ f1) in
    let c : line_at d nil l u t ≡ nil =
    ap (λ q. line_at d q l u t) (sym (ap (λ q. q -ℚ (e1 *ℚ f1)) (mul_comm f1 e1) ∙ sub_self (e1 *ℚ f1)))
    ∙ sym (line_at-diff (f0 *ℚ e1) (f1 *ℚ e1) (e0 *ℚ f1) (e1 *ℚ f1) l u t)
    ∙ ap (λ q. q -ℚ line_at (e0 *ℚ f1) (e1 *ℚ f1) l u t) a ∙ ap (λ q. nil -ℚ q) b ∙ sub_self nil in
    sub_zero (f0 *ℚ e1) (e0 *ℚ f1) (starts_nil d l u t h k c (same d nil) refl)
