use Rattle.std.{specs.Prelude.{map, string_bytes}, proofs.Common.{refl}}
use Rattle.mob_trips.proofs.Whole.{ends_untaken}
use Rattle.mob_near_run.specs.NearProgram.{near_program}
use Rattle.mob_near_run.proofs.decide.decide.Goals as goal

pub returns-in-Ok-None : goal.returns-in-Ok-None
returns-in-Ok-None g c =
    let refused = rw c.in-Ok-None.field-0-is at c.in-Ok-None.ensures.refused in
    record { ends = ends_untaken near_program (map string_bytes c.args.words.now) g.S.Source.left g.S.Source.faults c.args.table.now g.K.Sink.held g.K.Sink.faults c.args.out.now (λ settings says. refused refl settings says) }
