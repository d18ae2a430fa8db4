use Rattle.mob_geotext.proofs.OneReadings.{one_span, one_span_set}
use Rattle.mob_geotext.proofs.laws.one_reading.Goals as goal

pub returns : goal.returns
returns c = record { spans = one_span; span_sets = one_span_set }
