use Rattle.mob_typed.specs.Selects.{select_seen}
use Rattle.mob_tail.{specs.Groups.{groups_on}, proofs.GroupLoop.{grouped_all}}
use Rattle.mob_tail.proofs.grouping.grouped_rows.Goals as goal

pub returns-clause-rows : goal.returns-clause-rows
returns-clause-rows c =
    let select = select_seen c.args.select.now in
    c.in_ok-rows_of.ensures.rows (groups_on select c.args.store.now c.args.terms.now c.args.kept.now)
    (grouped_all select c.args.store.now c.args.terms.now c.args.kept.now c.grouped_tuples.new.groups.items c.in_ok-grouped_tuples.ensures.groups)
