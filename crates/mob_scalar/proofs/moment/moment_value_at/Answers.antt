use Rattle.std.proofs.Common.{sym}
use Rattle.mob_scalar.{proofs.MomentExact.{moment_exact}, proofs.MomentBounds.{moment_small}}
use Rattle.mob_scalar.proofs.moment.moment_value_at.Goals as goal

pub instant_of-requires-clause-part : goal.instant_of-requires-clause-part
instant_of-requires-clause-part c =
    let read = moment_exact.sound c.args.bytes.now c.in-Some.rest.now c.in-Some.stamp (sym c.in-Some.ensures.value) in
    moment_small read.front c.in-Some.stamp read.said
