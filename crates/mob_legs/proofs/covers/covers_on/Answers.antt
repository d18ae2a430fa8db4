use Rattle.std.proofs.Common.{refl}
use Rattle.std.proofs.lemmas.List.{nil_from_length}
use Rattle.mob_legs.proofs.Covering.{making_room, making_next, making_end}
use Rattle.mob_legs.proofs.covers.covers_on.Goals as goal

pub runs-preserved : goal.runs-preserved
runs-preserved c = record {
  room = making_room c.args.slices.now c.runs.rest.now c.in-Some.more.now _ c.in-Some.first.now c.runs.start c.cover_on-cover.result.count c.runs.all.items c.add.new.all.items c.cover_on-cover.result c.in-Some.ensures.cases.0 c.cover_on-cover.ensures.cover c.in_ok-add.ensures.added refl refl c.runs.invariant.making;
  making = making_next c.args.slices.now c.runs.rest.now c.in-Some.more.now _ c.in-Some.first.now c.runs.start c.cover_on-cover.result.count c.runs.all.items c.add.new.all.items c.cover_on-cover.result c.in-Some.ensures.cases.0 c.cover_on-cover.ensures.cover c.in_ok-add.ensures.added refl refl c.runs.invariant.making;
}

pub returns : goal.returns
returns c = record { covers = making_end c.args.slices.now c.runs.rest.now c.runs.start c.runs.all.items (nil_from_length c.runs.rest.now c.in_default.ensures.cases) c.requires.order c.runs.invariant.making }
