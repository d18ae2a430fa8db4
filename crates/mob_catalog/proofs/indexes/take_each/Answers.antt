use Rattle.std.{proofs.Common.{arith, ◌+◌, ◌<◌, drop, length, get_or, subst}, proofs.lemmas.List.{drop_more}}
use Rattle.mob_catalog.{specs.Indexes.{table_value}, specs.Kept.{AreEntered}, proofs.Deleting.{has_found, more_taken, still_held}}
use Rattle.mob_catalog.proofs.indexes.take_each.Goals as goal

pub take_row-requires : goal.take_row-requires
take_row-requires c =
    let at = c.loop-row in
    let rows = c.args.rows.now in
    let value = table_value c.args.tables.now c.args.on.0 c.args.on.1 in
    let row = get_or rows at.row-index 0 in
    let lt : at.row-index < length rows = omega arith in
    let held = subst (λ rs. AreEntered value rs at.tree.entries) (drop_more rows at.row-index 0 lt) at.invariant.held in
    record { there = has_found value row (drop (at.row-index + 1) rows) held.0 held.1 at.tree.entries c.way_at-found.result held.2 held.3 c.way_at-found.ensures.own }

pub loop-row-preserved : goal.loop-row-preserved
loop-row-preserved c =
    let at = c.loop-row in
    let rows = c.args.rows.now in
    let value = table_value c.args.tables.now c.args.on.0 c.args.on.1 in
    let row = get_or rows at.row-index 0 in
    let lt : at.row-index < length rows = omega arith in
    let held = subst (λ rs. AreEntered value rs at.tree.entries) (drop_more rows at.row-index 0 lt) at.invariant.held in
    record {
      taken = more_taken value rows at.row-index c.args.tree.now.entries at.tree.entries c.take_row.new.tree.entries c.way_at-found.result lt at.invariant.taken c.way_at-found.ensures.own c.take_row.ensures.taken;
      held = still_held value row (drop (at.row-index + 1) rows) at.tree.entries c.take_row.new.tree.entries c.way_at-found.result held c.way_at-found.ensures.own c.take_row.ensures.taken;
    }
