use Rattle.mob_clip.proofs.Placing.{placed_all}
use Rattle.mob_clip.proofs.roots.place_edge.Goals as goal

pub returns : goal.returns
returns c = record { value = placed_all c.args.span.now c.args.edge.now c.in_ok-turn.turn c.in_ok-x_a.x_a c.in_ok-x_b.x_b c.in_ok-y_a.y_a c.in_ok-y_b.y_b c.in_ok-turn.ensures.value c.in_ok-x_a.ensures.value c.in_ok-x_b.ensures.value c.in_ok-y_a.ensures.value c.in_ok-y_b.ensures.value }

pub place-requires : goal.place-requires
place-requires c = record { level = c.requires.level.0 }

pub place-requires-2 : goal.place-requires-2
place-requires-2 c = record { level = c.requires.level.1.0 }

pub place-requires-3 : goal.place-requires-3
place-requires-3 c = record { level = c.requires.level.1.1.0 }

pub place-requires-4 : goal.place-requires-4
place-requires-4 c = record { level = c.requires.level.1.1.1.0 }

pub place-requires-5 : goal.place-requires-5
place-requires-5 c = record { level = c.requires.level.1.1.1.1.0 }
