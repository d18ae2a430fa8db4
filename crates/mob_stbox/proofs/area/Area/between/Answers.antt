use Rattle.std.proofs.Common.{rules, ◌≡◌, true, subst}
use Rattle.mob_stbox.{specs.Areas.{is_area, IsAreaOver}, proofs.Sides.{between_is_area, between_is_over}}
use Rattle.mob_stbox.proofs.area.Area.between.Goals as goal

pub returns-clause-area : goal.returns-clause-area
returns-clause-area c = subst (λ a. is_area a ≡ true) (search rules) (between_is_area c.args.a.now c.args.b.now)

pub returns-clause-least : goal.returns-clause-least
returns-clause-least c = subst (λ a. IsAreaOver c.args.a.now c.args.b.now a) (search rules) (between_is_over c.args.a.now c.args.b.now)
