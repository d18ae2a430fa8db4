use Rattle.std.{proofs.Common.{rules, drop, ◌+◌, arith, refl}, proofs.lemmas.Result.{err_from_is_err_and}}
use Rattle.mob_list.proofs.Entries.{drop_read}
use Rattle.mob_tile_run.proofs.Tiling.{tiling_step, tiling_fails}
use Rattle.mob_tile_run.proofs.parts.part_records.Goals as goal

pub returns-in_err-parts-clause-fault : goal.returns-in_err-parts-clause-fault
returns-in_err-parts-clause-fault c =
    let at = c.loop-trip in
    let xs = c.args.trips.now in
    let p = err_from_is_err_and c.from_residual.result c.from_residual.ensures.1 in
    rw (p.1, p.2) (tiling_fails c.args.grid.now c.args.epoch.now c.args.ids.now xs (drop at.trip-index xs) (drop (at.trip-index + 1) xs) c.trip-item.result at.records at.row c.in_err-parts.field-0.0 (drop_read xs at.trip-index c.trip-item.result (omega arith) c.trip-item.is) c.in_err-parts.ensures.split at.invariant)

pub loop-trip-preserved : goal.loop-trip-preserved
loop-trip-preserved c =
    let at = c.loop-trip in
    let xs = c.args.trips.now in
    tiling_step c.args.grid.now c.args.epoch.now c.args.ids.now xs (drop at.trip-index xs) (drop (at.trip-index + 1) xs) c.trip-item.result c.in_ok-parts.parts.items at.records c.push_parts.new.records at.row (at.row + 1) (drop_read xs at.trip-index c.trip-item.result (omega arith) c.trip-item.is) (search rules) refl c.in_ok-parts.ensures.split at.invariant
