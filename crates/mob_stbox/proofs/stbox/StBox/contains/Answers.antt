use Rattle.std.proofs.Common.{rules, ◌≡◌, true, subst}
use Rattle.mob_stbox.{specs.Boxes.{contains, is_box}, proofs.BoxLaws.{contains_exact_as}}
use Rattle.mob_stbox.proofs.stbox.StBox.contains.Goals as goal

pub returns-then-is_space_over-clause-exact : goal.returns-then-is_space_over-clause-exact
unfolding contains
returns-then-is_space_over-clause-exact c = contains_exact_as _ _ _ (subst (λ b. is_box b ≡ true) c.other.view_is c.other.invariant) (search rules)

pub returns-else-is_space_over-clause-exact : goal.returns-else-is_space_over-clause-exact
unfolding contains
returns-else-is_space_over-clause-exact c = contains_exact_as _ _ _ (subst (λ b. is_box b ≡ true) c.other.view_is c.other.invariant) (search rules)
