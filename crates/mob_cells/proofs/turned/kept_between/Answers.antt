use Rattle.std.{proofs.Common.{arith, refl, drop, ◌+◌}, proofs.Math.ListN.{drop_of_length-le}}
use Rattle.mob_list.{proofs.Each.{each_get}, proofs.Entries.{drop_read}}
use Rattle.mob_cells.{specs.Turnings.{IsCellBetween, kept_turned}, proofs.Making.{read_of}, proofs.Restricting.{made_step, made_end}}
use Rattle.mob_cells.proofs.turned.kept_between.Goals as goal

pub kept_on_cell-requires-clause-cell : goal.kept_on_cell-requires-clause-cell
kept_on_cell-requires-clause-cell g c =
    let xs = c.args.cells.now in
    let i = c.loop-cell.cell-index in
    each_get (IsCellBetween c.args.slice.now.span c.args.cuts.now) xs i c.cell-item.result c.requires.between (read_of xs xs i c.cell-item.result refl (omega arith) c.cell-item.is)

pub loop-cell-preserved : goal.loop-cell-preserved
loop-cell-preserved g c =
    let at = c.loop-cell in
    let xs = c.args.cells.now in
    made_step g.C.Course.value_of g.C.Course.start_of g.C.Course.end_of (kept_turned g.C.Course.value_of c.args.want c.args.turning.now c.args.slice.now) xs (drop at.cell-index xs) (drop (at.cell-index + 1) xs) at.out.items c.append.new.out.items c.in_ok-more.more.items c.cell-item.result
    (drop_read xs at.cell-index c.cell-item.result (omega arith) c.cell-item.is) c.in_ok-append.ensures.appended c.in_ok-more.ensures.kept at.invariant

pub returns : goal.returns
returns g c =
    let at = c.loop-cell in
    let xs = c.args.cells.now in
    record { kept = made_end g.C.Course.value_of g.C.Course.start_of g.C.Course.end_of (kept_turned g.C.Course.value_of c.args.want c.args.turning.now c.args.slice.now) c.args.slice.now.span xs (drop at.cell-index xs) at.out.items (drop_of_length-le xs c.loop-cell-test.false) c.requires.whole at.invariant }
