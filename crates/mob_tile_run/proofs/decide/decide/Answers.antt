use Rattle.std.{specs.Prelude.{map, string_bytes}, proofs.Common.{rules, refl}}
use Rattle.mob_trips.proofs.Whole.{ends_untaken}
use Rattle.mob_tile_run.{specs.TileProgram.{tile_program}, proofs.Usable.{usable}}
use Rattle.mob_tile_run.proofs.decide.decide.Goals as goal

pub returns-in-Ok-None : goal.returns-in-Ok-None
returns-in-Ok-None g c =
    let refused = rw c.in-Ok-None.field-0-is at c.in-Ok-None.ensures.refused in
    record { ends = ends_untaken tile_program (map string_bytes c.args.words.now) g.S.Source.left g.S.Source.faults c.args.table.now g.K.Sink.held g.K.Sink.faults c.args.out.now (λ settings says. refused refl settings says) }

pub answer_table-requires : goal.answer_table-requires
answer_table-requires g c =
    let fact = usable (map string_bytes c.args.words.now) c.in-Ok-Some.settings (rw c.in-Ok-Some.field-0-is at c.in-Ok-Some.ensures.said) in
    search (rules, fact)
