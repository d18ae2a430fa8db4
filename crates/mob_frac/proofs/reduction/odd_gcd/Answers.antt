use Rattle.std.proofs.Common.{◌∙◌}
use Rattle.mob_frac.proofs.Twos.{odd_step, odd_least, gcd_same}
use Rattle.mob_frac.proofs.reduction.odd_gcd.Goals as goal

pub loop-x-preserved : goal.loop-x-preserved
loop-x-preserved c =
    let i = c.loop-x.invariant in (
      rw c.min-x.ensures (odd_least c.loop-x.x c.loop-x.y i.0 i.1),
      c.odd_part-y.ensures.odd,
      λ g h. i.2 g (odd_step _ c.loop-x.x c.loop-x.y c.odd_part-y.result g i.0 i.1 (c.odd_part-y.ensures.twos ∙ c.abs_diff-apart.ensures) (rw c.min-x.ensures at h)),
    )

pub returns : goal.returns
returns c = record { value = gcd_same c.args.a c.args.b c.loop-x.x c.loop-x.y c.loop-x-test.false c.loop-x.invariant.2 }
