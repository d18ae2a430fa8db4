use Rattle.std.proofs.Common.{rules, ◌≡◌, true, subst}
use Rattle.mob_stbox.{specs.Boxes.{overlaps, is_box}, proofs.BoxLaws.{overlaps_exact_as}}
use Rattle.mob_stbox.proofs.stbox.StBox.overlaps.Goals as goal

pub returns-then-spaces_meet-clause-exact : goal.returns-then-spaces_meet-clause-exact
unfolding overlaps
returns-then-spaces_meet-clause-exact c = overlaps_exact_as _ _ _ (subst (λ b. is_box b ≡ true) c.self.view_is c.self.invariant) (subst (λ b. is_box b ≡ true) c.other.view_is c.other.invariant) (search rules)

pub returns-else-spaces_meet-clause-exact : goal.returns-else-spaces_meet-clause-exact
unfolding overlaps
returns-else-spaces_meet-clause-exact c = overlaps_exact_as _ _ _ (subst (λ b. is_box b ≡ true) c.self.view_is c.self.invariant) (subst (λ b. is_box b ≡ true) c.other.view_is c.other.invariant) (search rules)
