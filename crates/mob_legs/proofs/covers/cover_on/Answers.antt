use Rattle.std.proofs.Common.{◌∷◌}
use Rattle.mob_legs.proofs.Covering.{extending_start, extending_step}
use Rattle.mob_legs.proofs.covers.cover_on.Goals as goal

pub slices-init : goal.slices-init
slices-init c = extending_start c.args.start c.args.first.now c.args.slices.now c.first_cover-cover.result c.first_cover-cover.ensures.cover c.requires.clear

pub slices-preserved : goal.slices-preserved
slices-preserved c = extending_step c.args.start (c.args.first.now ∷ c.args.slices.now) c.slices.rest.now c.in-Some.more.now c.slices.cover c.with_slice-cover.result c.in-Some.slice.now c.in-Some.ensures.cases.0 c.with_slice-cover.ensures.cover c.slices.invariant
