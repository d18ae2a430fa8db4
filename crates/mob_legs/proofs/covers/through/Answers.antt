use Rattle.std.proofs.Common.{sym, ◌∙◌, true≢false}
use Rattle.mob_span.proofs.Hulls.{through_some}
use Rattle.mob_legs.proofs.covers.through.Goals as goal

pub unreachable-requires : goal.unreachable-requires
unreachable-requires c =
    let some = through_some c.args.first.now c.args.last.now c.requires.clear c.requires.first c.requires.last in
    true≢false (sym some ∙ rw (c.lower.ensures.value, c.upper.ensures.value, c.lower_inc.ensures.value, c.upper_inc.ensures.value) at c.in-None.ensures.test)
