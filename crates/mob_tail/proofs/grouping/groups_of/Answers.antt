use Rattle.std.proofs.Common.{ap, ◌∙◌, map}
use Rattle.mob_typed.specs.Selects.{select_seen}
use Rattle.mob_groups.specs.Groups.{group_number}
use Rattle.mob_tail.{specs.Groups.{same_texts}, proofs.GroupLoop.{numbers_on_kept}}
use Rattle.mob_tail.proofs.grouping.groups_of.Goals as goal

pub returns-clause-numbers : goal.returns-clause-numbers
returns-clause-numbers c =
    c.in_ok-found.ensures.numbers
    ∙ ap (λ z. map (group_number same_texts z) z) (c.as_slice.ensures.value ∙ c.in_ok-keys.ensures.keys)
    ∙ numbers_on_kept (select_seen c.args.select.now) c.args.store.now c.args.terms.now c.args.kept.now
