use Rattle.mob_simplify.proofs.Sifting.{until_within}
use Rattle.mob_simplify.proofs.holding.tested.Goals as goal

pub passes_wide-requires-clause-between : goal.passes_wide-requires-clause-between
passes_wide-requires-clause-between c = rw c.as_slice-2.ensures.value (until_within c.args.p.now.instant c.args.here.now.instant c.args.n.now.instant c.in_ok-left.left.items c.requires.until c.in_ok-left.ensures.between)
