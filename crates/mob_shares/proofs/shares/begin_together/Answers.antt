use Rattle.std.proofs.Common.{◌∙◌, sym}
use Rattle.mob_ratio.proofs.Order.{same_exact}
use Rattle.mob_shares.proofs.shares.begin_together.Goals as goal

pub returns : goal.returns
returns c = record {
  together = λ h. record {
    lower = (same_exact c.args.a.now.lower c.args.b.now.lower).0 (rw (← c.lower.ensures.value, ← c.lower-2.ensures.value) (sym c.is_same.ensures.value ∙ c.if-not-is_same.false));
    with = sym c.lower_inc.ensures.value ∙ c.is_like.ensures.like h ∙ c.lower_inc-2.ensures.value;
  };
}
