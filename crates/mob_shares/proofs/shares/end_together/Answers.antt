use Rattle.std.proofs.Common.{◌∙◌, sym}
use Rattle.mob_ratio.proofs.Order.{same_exact}
use Rattle.mob_shares.proofs.shares.end_together.Goals as goal

pub returns : goal.returns
returns c = record {
  together = λ h. record {
    upper = (same_exact c.args.a.now.upper c.args.b.now.upper).0 (rw (← c.upper.ensures.value, ← c.upper-2.ensures.value) (sym c.is_same.ensures.value ∙ c.if-not-is_same.false));
    with = sym c.upper_inc.ensures.value ∙ c.is_like.ensures.like h ∙ c.upper_inc-2.ensures.value;
  };
}
