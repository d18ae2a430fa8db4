use Rattle.std.proofs.Common.{rules, ◌≡◌, true, subst, sym}
use Rattle.mob_stbox.{specs.Boxes.{cover, is_box}, proofs.BoxLaws.{cover_is_as, cover_is_box}}
use Rattle.mob_stbox.proofs.stbox.StBox.cover.Goals as goal

pub invariant_of-result : goal.invariant_of-result
unfolding cover
invariant_of-result c =
    let made : record { space = c.space_cover.result; time = c.time_cover.result } ≡ cover c.args.self.now c.args.other.now = search rules in
    subst (λ b. is_box b ≡ true) (sym made) (cover_is_box c.args.self.now c.args.other.now c.requires.first c.requires.second (subst (λ b. is_box b ≡ true) c.self.view_is c.self.invariant))

pub returns-clause-least : goal.returns-clause-least
unfolding cover
returns-clause-least c = cover_is_as _ _ _ (subst (λ b. is_box b ≡ true) c.self.view_is c.self.invariant) (subst (λ b. is_box b ≡ true) c.other.view_is c.other.invariant) (search rules)
