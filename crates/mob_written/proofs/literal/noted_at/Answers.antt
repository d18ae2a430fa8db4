use Rattle.std.proofs.Common.{sym}
use Rattle.mob_scalar.{proofs.MomentExact.{moment_exact}, proofs.MomentBounds.{moment_small}}
use Rattle.mob_written.proofs.literal.noted_at.Goals as goal

pub instant_of-requires-clause-part : goal.instant_of-requires-clause-part
instant_of-requires-clause-part g c =
    let read = moment_exact.sound c.in-Some-spaced_at.rest.now c.in-Some-moment_at.rest.now c.in-Some-moment_at.stamp (sym c.in-Some-moment_at.ensures.value) in
    moment_small read.front c.in-Some-moment_at.stamp read.said
