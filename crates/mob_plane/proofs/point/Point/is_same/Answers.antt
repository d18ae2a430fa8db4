use Rattle.std.proofs.Common.{rules, ◌≡◌, true, false}
use Rattle.mob_ratio.specs.Order.{same}
use Rattle.mob_plane.proofs.Sameness.{where_x_is, where_x_differs}
use Rattle.mob_plane.proofs.point.Point.is_same.Goals as goal

pub returns-then-is_same-clause-exact : goal.returns-then-is_same-clause-exact
returns-then-is_same-clause-exact c =
    let k : same c.args.self.now.x c.args.other.now.x ≡ true = search rules in
    where_x_is c.args.self.now c.args.other.now _ k c.is_same-then-is_same.ensures.value

pub returns-else-is_same-clause-exact : goal.returns-else-is_same-clause-exact
returns-else-is_same-clause-exact c =
    let k : same c.args.self.now.x c.args.other.now.x ≡ false = search rules in
    where_x_differs c.args.self.now c.args.other.now _ k c.is_same.ensures.value
