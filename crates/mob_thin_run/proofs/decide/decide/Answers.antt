use Rattle.std.{specs.Prelude.{map, string_bytes}, proofs.Common.{rules}, proofs.KnownBytes.{Keeps-refl}}
use Rattle.mob_trips.{specs.Seen.{TripsSeen, trips_seen}, proofs.Whole.{ends_unread, ends_on, ends_put}}
use Rattle.mob_outside.specs.EndsSeen.{stream_seen}
use Rattle.mob_thin_run.{specs.ThinProgram.{thin_program}, proofs.FaultEnds.{fault_ends}}
use Rattle.mob_thin_run.proofs.decide.decide.Goals as goal

pub returns-in-Err-read_trips : goal.returns-in-Err-read_trips
returns-in-Err-read_trips g c =
    let s : TripsSeen = trips_seen (map string_bytes c.args.words.now) (stream_seen g.S.Source.left g.S.Source.faults c.args.table.now c.read_trips.new.table) (stream_seen g.K.Sink.held g.K.Sink.faults c.args.out.now c.args.out.now) in
    let says = rw c.in-Ok-Some.field-0-is at c.in-Ok-Some.ensures.said in
    record { ends = ends_unread thin_program s c.in-Ok-Some.settings says c.read_trips.ensures.part c.read_trips.ensures.later (search rules) c.in-Err-read_trips.ending c.in-Err-read_trips.ensures.ending (Keeps-refl _) }

pub returns-in-Err-thin_text : goal.returns-in-Err-thin_text
returns-in-Err-thin_text g c =
    let s : TripsSeen = trips_seen (map string_bytes c.args.words.now) (stream_seen g.S.Source.left g.S.Source.faults c.args.table.now c.read_trips.new.table) (stream_seen g.K.Sink.held g.K.Sink.faults c.args.out.now c.args.out.now) in
    let says = rw c.in-Ok-Some.field-0-is at c.in-Ok-Some.ensures.said in
    record { ends = ends_on thin_program s c.in-Ok-Some.settings says c.read_trips.ensures.part c.read_trips.ensures.later (search rules) c.in-Ok.rows c.in-Ok.ensures.rows c.ending_of.result (fault_ends c.in-Ok-Some.settings c.in-Ok.rows c.in-Err-thin_text.fault c.ending_of.result c.ending_of.ensures.ending (rw c.mode_of.ensures.mode at c.in-Err-thin_text.ensures.first)) (Keeps-refl _) }

pub returns : goal.returns
returns g c =
    let s : TripsSeen = trips_seen (map string_bytes c.args.words.now) (stream_seen g.S.Source.left g.S.Source.faults c.args.table.now c.read_trips.new.table) (stream_seen g.K.Sink.held g.K.Sink.faults c.args.out.now c.put_text.new.out) in
    let says = rw c.in-Ok-Some.field-0-is at c.in-Ok-Some.ensures.said in
    record { ends = ends_put thin_program s c.in-Ok-Some.settings says c.read_trips.ensures.part c.read_trips.ensures.later c.put_text.ensures.later c.in-Ok.rows c.in-Ok.ensures.rows c.in-Ok-thin_text.text.items c.put_text.result (rw c.mode_of.ensures.mode at c.in-Ok-thin_text.ensures.fit, c.in-Ok-thin_text.ensures.text) (rw c.deref.ensures.value at c.put_text.ensures.puts) }
