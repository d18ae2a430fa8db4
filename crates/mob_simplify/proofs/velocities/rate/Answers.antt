use Rattle.mob_ratio.{specs.Sign.{nil}, proofs.Convex.{above_ne}, proofs.Order.{before-lt}}
use Rattle.mob_simplify.proofs.velocities.rate.Goals as goal

pub div-requires : goal.div-requires
div-requires c = record { nonzero = above_ne c.args.time.now (before-lt nil c.args.time.now c.requires.later) }
