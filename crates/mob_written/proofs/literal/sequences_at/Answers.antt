use Rattle.std.proofs.Common.{rules}
use Rattle.mob_written.specs.Literal.{noted_at, sequence_at, sequences_at}
use Rattle.mob_written.proofs.literal.sequences_at.Goals as goal

pub returns : goal.returns
unfolding sequences_at
returns g c = record { read = c.separated_at.ensures.read (sequence_at (noted_at c.args.epoch.now g.T.WrittenValue.reader)) (λ text found p. search rules) }
