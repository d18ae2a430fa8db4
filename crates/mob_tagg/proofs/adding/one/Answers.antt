use Rattle.std.proofs.Common.{◌≡◌, refl, pos, arith, sym, subst, ◌∙◌}
use Rattle.mob_ratio.{specs.Gcd.{gcd, gcd_steps}, specs.Ratio.{whole, over}, proofs.Divide.{over-pos}}
use Rattle.mob_frac.specs.Fits.{Fits, ratio}
use Rattle.mob_tagg.proofs.adding.one.Goals as goal

one_num : (whole (pos 1)).num ≡ pos 1
unfolding whole over gcd gcd_steps
one_num = refl

one_den : (whole (pos 1)).den ≡ 1
unfolding whole over gcd gcd_steps
one_den = refl

one_fits : Fits (whole (pos 1))
one_fits = record { num_fits = rw one_num (omega arith); den_fits = rw one_den (omega arith) }

one_is : ratio (pos 1) (pos 1) ≡ whole (pos 1)
unfolding whole
one_is = sym (over-pos (pos 1) 1 (omega arith))

pub unreachable-requires : goal.unreachable-requires
unreachable-requires c = c.in-Err.ensures.exact (subst Fits (sym one_is) one_fits)

pub returns : goal.returns
returns c = record { value = c.in-Ok.ensures.exact.0 ∙ one_is }
