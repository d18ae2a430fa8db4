use Rattle.std.proofs.Common.{rules}
use Rattle.mob_written.specs.Literal.{noted_at, instants_at}
use Rattle.mob_written.proofs.literal.instants_at.Goals as goal

pub returns : goal.returns
unfolding instants_at
returns g c = record { read = c.separated_at.ensures.read (noted_at c.args.epoch.now g.T.WrittenValue.reader) (λ text found p. search rules) }
