use Rattle.std.proofs.Common.{◌∙◌}
use Rattle.mob_typed.specs.Selects.{select_seen}
use Rattle.mob_tail.{specs.GroupSteps.{keys_on}, proofs.GroupLoop.{start_groups}}
use Rattle.mob_tail.proofs.grouping.begun.Goals as goal

pub returns-clause-groups : goal.returns-clause-groups
returns-clause-groups c =
    let select = select_seen c.args.select.now in
    start_groups select c.args.store.now c.args.terms.now (keys_on select c.args.store.now c.args.terms.now c.args.kept.now) c.in_ok-groups.groups.items c.in_ok-columns.columns.items
    (rw (c.as_slice.ensures.same, c.as_slice-2.ensures.same) at c.in_ok-columns.ensures.columns)
    (rw c.as_slice-3.ensures.value at c.in_ok-groups.ensures.start)
    (c.in_ok-groups.ensures.count ∙ c.in_ok-found.ensures.groups)
