use Rattle.std.proofs.Common.{drop, ◌+◌, arith, sym, ◌∙◌}
use Rattle.mob_list.proofs.Entries.{drop_read}
use Rattle.mob_simplify.proofs.Sifting.{testing_next}
use Rattle.mob_simplify.proofs.holding.passes_wide.Goals as goal

pub loop-b-preserved : goal.loop-b-preserved
loop-b-preserved c =
    let at = c.loop-b in
    let xs = c.args.held.now in
    testing_next c.args.limit.now.distance c.args.p.now xs (drop at.b-index xs) c.args.n.now (drop (at.b-index + 1) xs) c.b-item.result (drop_read xs at.b-index c.b-item.result (omega arith) c.b-item.is) (sym c.if-not-near.false ∙ c.in_ok-near.ensures.value) at.invariant
