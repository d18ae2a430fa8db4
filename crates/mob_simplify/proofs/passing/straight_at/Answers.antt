use Rattle.std.{specs.Prelude.{refl}, proofs.Common.{sym, ◌∙◌}}
use Rattle.mob_ratio.proofs.Order.{before-trans}
use Rattle.mob_simplify.proofs.Reaching.{level, time_unfit, place_unfit, place}
use Rattle.mob_simplify.proofs.passing.straight_at.Goals as goal

pub returns-then-is_same : goal.returns-then-is_same
returns-then-is_same c = record { value = level c.args.p.now c.args.n.now c.args.b.now c.requires.after c.requires.until (sym c.is_same.ensures.test ∙ c.if-is_same.true) }

pub part_gone-requires : goal.part_gone-requires
part_gone-requires c = record { time = c.requires.reach.time; long = before-trans c.args.p.now.instant c.args.b.now.instant c.args.n.now.instant c.requires.after c.requires.until }

pub returns-in-Err : goal.returns-in-Err
returns-in-Err c = record { value = (refl, time_unfit c.args.p.now c.args.n.now c.args.b.now c.requires.after c.requires.until (sym c.is_same.ensures.test ∙ c.if-is_same.false) c.in-Err.ensures.value) }

pub moved_place-requires : goal.moved_place-requires
moved_place-requires c = record { reach = c.requires.reach }

pub returns-in-Ok-moved_place : goal.returns-in-Ok-moved_place
returns-in-Ok-moved_place c = record { value = place c.args.p.now c.args.n.now c.args.b.now c.requires.after c.requires.until c.in-Ok.part c.in-Ok.ensures.value.0 c.in-Ok-moved_place.place c.in-Ok.ensures.value.1 c.in-Ok-moved_place.ensures.value }

pub returns-in-Err-moved_place : goal.returns-in-Err-moved_place
returns-in-Err-moved_place c = record { value = (refl, place_unfit c.args.p.now c.args.n.now c.args.b.now c.requires.after c.requires.until c.in-Ok.part c.in-Ok.ensures.value.0 c.in-Err-moved_place.ensures.value) }
