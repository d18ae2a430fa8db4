use Rattle.mob_written.specs.Literal.{noted}
use Rattle.mob_literal.proofs.BehindPrefixes.{bare}
use Rattle.mob_literal.proofs.laws.nothing_before_steps.Goals as goal

pub returns : goal.returns
returns g c = record {
  alone = λ day text v p. (bare (noted day g.T.WrittenValue.shape) text v p).alone;
  unsaid = λ day text v p. (bare (noted day g.T.WrittenValue.shape) text v p).unsaid;
}
