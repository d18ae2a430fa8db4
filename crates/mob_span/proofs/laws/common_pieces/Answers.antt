use Rattle.mob_span.proofs.MeetLaws.{shared_common}
use Rattle.mob_span.proofs.laws.common_pieces.Goals as goal

pub returns : goal.returns
returns g c = record { common = shared_common g.X.Spanned.span_of g.Y.Spanned.span_of }
