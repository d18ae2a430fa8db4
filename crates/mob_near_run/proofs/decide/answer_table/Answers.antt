use Rattle.std.{specs.Prelude.{ℕ, List}, proofs.Common.{arith}, proofs.KnownBytes.{Keeps-refl}}
use Rattle.mob_outside.specs.EndsSeen.{stream_seen}
use Rattle.mob_trips.{specs.Seen.{TripsSeen, trips_seen}, proofs.Whole.{ends_unread, ends_on, ends_put}}
use Rattle.mob_near_run.{specs.NearProgram.{near_program}, proofs.NearLaws.{fault_ends}}
use Rattle.mob_near_run.proofs.decide.answer_table.Goals as goal

pub near_text-requires : goal.near_text-requires
near_text-requires g c = record { few = c.in-Ok.ensures.rows.table.within }

pub returns-in-Err : goal.returns-in-Err
returns-in-Err g c =
    let s : List (List ℕ) → TripsSeen = λ words. trips_seen words (stream_seen g.S.Source.left g.S.Source.faults c.args.table.now c.read_trips.new.table) (stream_seen g.K.Sink.held g.K.Sink.faults c.args.out.now c.args.out.now) in
    record { ends = λ words says. ends_unread near_program (s words) c.args.settings.now says c.read_trips.ensures.part c.read_trips.ensures.later (omega arith) c.in-Err.ending c.in-Err.ensures.ending (Keeps-refl _) }

pub returns-in-Err-near_text : goal.returns-in-Err-near_text
returns-in-Err-near_text g c =
    let s : List (List ℕ) → TripsSeen = λ words. trips_seen words (stream_seen g.S.Source.left g.S.Source.faults c.args.table.now c.read_trips.new.table) (stream_seen g.K.Sink.held g.K.Sink.faults c.args.out.now c.args.out.now) in
    let fault = fault_ends c.args.settings.now c.in-Ok.rows c.in-Err-near_text.fault c.ending_of.result c.ending_of.ensures.ending c.in-Err-near_text.ensures.passed in
    record { ends = λ words says. ends_on near_program (s words) c.args.settings.now says c.read_trips.ensures.part c.read_trips.ensures.later (omega arith) c.in-Ok.rows c.in-Ok.ensures.rows c.ending_of.result fault (Keeps-refl _) }

pub returns : goal.returns
returns g c =
    let s : List (List ℕ) → TripsSeen = λ words. trips_seen words (stream_seen g.S.Source.left g.S.Source.faults c.args.table.now c.read_trips.new.table) (stream_seen g.K.Sink.held g.K.Sink.faults c.args.out.now c.put_text.new.out) in
    record { ends = λ words says. ends_put near_program (s words) c.args.settings.now says c.read_trips.ensures.part c.read_trips.ensures.later c.put_text.ensures.later c.in-Ok.rows c.in-Ok.ensures.rows c.in-Ok-near_text.text.items c.put_text.result c.in-Ok-near_text.ensures.writes (rw c.deref.ensures.value at c.put_text.ensures.puts) }
