use Rattle.std.proofs.Common.{map, sym, ◌∙◌}
use Rattle.mob_eval.{specs.Remembered.{root_seen}, proofs.Choosing.{of_place}}
use Rattle.mob_eval.proofs.memory.chosen.remember_one.Goals as goal

pub remember-requires : goal.remember-requires
remember-requires g c = record { fits = of_place g.K.Remembering.recollection (map root_seen c.args.roots.now) c.args.chosen.now.at c.args.chosen.now.place c.in-Only.e.now c.requires.roots c.in-Only.ensures.nodes (sym c.names_only.ensures.only ∙ c.if-not-names_only.false) }

pub remember-requires-in-Box : goal.remember-requires-in-Box
remember-requires-in-Box g c = record { fits = of_place g.K.Remembering.recollection (map root_seen c.args.roots.now) c.args.chosen.now.at c.args.chosen.now.place c.in-Only.e.now c.requires.roots c.in-Only.ensures.nodes (sym c.names_only.ensures.only ∙ c.if-not-names_only.false) }

pub remember-requires-in-Covers : goal.remember-requires-in-Covers
remember-requires-in-Covers g c = record { fits = of_place g.K.Remembering.recollection (map root_seen c.args.roots.now) c.args.chosen.now.at c.args.chosen.now.place c.in-Only.e.now c.requires.roots c.in-Only.ensures.nodes (sym c.names_only.ensures.only ∙ c.if-not-names_only.false) }
