use Rattle.std.proofs.Common.{rules, ◌≡◌, subst, sym}
use Rattle.mob_clip.proofs.Knowing.{if_ok, AllChangesFit}
use Rattle.mob_clip.proofs.membership.membership.Goals as goal

pub returns-clause-fit : goal.returns-clause-fit
returns-clause-fit c =
    let e : c.as_slice.result.now ≡ c.in_ok-each.each.items = search rules in
    if_ok c.together.result (λ s k parts a b w. k parts (subst (AllChangesFit parts) (sym e) (c.in_ok-each.ensures.fit parts a b w))) c.together.ensures.fit
