use Rattle.std.proofs.Common.{rules, ◌≡◌, [], ◌∷◌}
use Rattle.mob_value.proofs.OneSpan.{set_of_one}
use Rattle.mob_value.proofs.sets.one_span.Goals as goal

pub returns-in-Ok : goal.returns-in-Ok
returns-in-Ok c =
    let one : c.push.new.self.items ≡ c.args.span.now ∷ [] = search rules in
    record { same = set_of_one c.args.span.now c.push.new.self.items c.in-Ok.set c.lower.ensures.some one c.in-Ok.ensures.same c.in-Ok.ensures.normal }
