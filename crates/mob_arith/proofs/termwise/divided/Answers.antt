use Rattle.std.proofs.Common.{rules, arith, ◌≡◌, ◌∙◌, ap, sym, subst, pos, refl}
use Rattle.mob_frac.specs.Fits.{Fits}
use Rattle.mob_ratio.{specs.Gcd.{gcd, gcd_steps}, specs.Ratio.{Ratio, Ratio-same, whole, over, turned, inverse, ◌*ℚ◌, ◌/ℚ◌}, specs.Sign.{nil}, proofs.Clear.{clear1, cleared}, proofs.IntRing.{linear}}
use Rattle.mob_arith.proofs.termwise.divided.Goals as goal

nil_num : nil.num ≡ pos 0
unfolding whole over gcd gcd_steps
nil_num = refl

nil_den : nil.den ≡ 1
unfolding whole over gcd gcd_steps
nil_den = refl

nil_fits : Fits nil
nil_fits = record { num_fits = rw nil_num (omega arith); den_fits = rw nil_den (omega arith) }

inverse_num : (inverse nil).num ≡ nil.num
unfolding whole over gcd gcd_steps inverse turned
inverse_num = refl

inverse_den : (inverse nil).den ≡ nil.den
unfolding whole over gcd gcd_steps inverse turned
inverse_den = refl

nil_inverse : inverse nil ≡ nil
nil_inverse = Ratio-same (inverse nil) nil inverse_num inverse_den

mul_nil : (a : Ratio) → a *ℚ nil ≡ nil
mul_nil = clear1 _ (λ D a p. simp cleared (omega (arith, linear)))

by_nil : (a b : Ratio) → b ≡ nil → a /ℚ b ≡ nil
by_nil a b e = ap (λ z. a *ℚ inverse z) e ∙ ap (λ z. a *ℚ z) nil_inverse ∙ mul_nil a

pub returns-then-is_zero : goal.returns-then-is_zero
returns-then-is_zero c =
    let e = by_nil c.args.a.now c.args.b.now (search rules) in
    record { result = (c.zero.ensures.value ∙ sym e, (subst Fits (sym e) nil_fits, tt)) }
