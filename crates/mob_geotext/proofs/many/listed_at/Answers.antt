use Rattle.std.proofs.Common.{rules}
use Rattle.mob_geotext.specs.Spans.{noted_span_at}
use Rattle.mob_geotext.proofs.many.listed_at.Goals as goal

pub returns : goal.returns
returns c = record { read = c.separated_at.ensures.read (noted_span_at c.args.epoch.now) (λ text found p. search rules) }
