use Rattle.std.proofs.Common.{◌≡◌, true, sym, subst}
use Rattle.mob_ratio.{specs.Order.{before}, specs.Ratio.{◌-ℚ◌}, specs.Sign.{nil}, proofs.Convex.{sub_lt}, proofs.Order.{before-lt, lt-before}}
use Rattle.mob_simplify.proofs.velocities.time_to.Goals as goal

pub returns-clause-later : goal.returns-clause-later
returns-clause-later c = subst (λ z. before nil z ≡ true) (sym c.in_ok-time.ensures.exact.0) (lt-before nil (c.args.n.now.instant -ℚ c.args.p.now.instant) (sub_lt c.args.p.now.instant c.args.n.now.instant (before-lt c.args.p.now.instant c.args.n.now.instant c.requires.after)))
