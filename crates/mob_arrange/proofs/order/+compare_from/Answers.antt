use Rattle.std.proofs.Common.{rules, ◌≡◌, ◌∙◌, ◌∷◌, sym}
use Rattle.mob_arrange.proofs.Places.{next_keys}
use Rattle.mob_arrange.proofs.order.+compare_from.Goals as goal

pub returns-in-Equal : goal.returns-in-Equal
returns-in-Equal n c =
    let split : c.args.falls.now ≡ c.in-Some.falls.now ∷ c.in-Some.rest.now = search rules in
    record { order = next_keys c.in-Some.falls.now c.in-Some.rest.now c.args.falls.now c.args.place c.args.a.now c.args.b.now c.compare_from.result split (sym c.compare_at.ensures.order ∙ c.in-Equal.is) c.compare_from.ensures.order }
