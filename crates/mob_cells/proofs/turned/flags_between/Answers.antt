use Rattle.std.{proofs.Common.{arith, refl, drop, ◌+◌, [], ◌∷◌, Some}, proofs.Math.ListN.{drop_of_length-le}}
use Rattle.mob_list.{proofs.Each.{each_get}, proofs.Entries.{drop_read}}
use Rattle.mob_slice.specs.Operands.{steady_value, steady_limit}
use Rattle.mob_cells.{specs.Turnings.{IsCellBetween, turning_at}, proofs.Making.{read_of}, proofs.Restricting.{made_step, made_end}}
use Rattle.mob_cells.proofs.turned.flags_between.Goals as goal

pub flag_between-requires-clause-cell : goal.flag_between-requires-clause-cell
flag_between-requires-clause-cell c =
    let xs = c.args.cells.now in
    let i = c.loop-cell.cell-index in
    each_get (IsCellBetween c.args.span.now c.args.cuts.now) xs i c.cell-item.result c.requires.between (read_of xs xs i c.cell-item.result refl (omega arith) c.cell-item.is)

pub loop-cell-preserved : goal.loop-cell-preserved
loop-cell-preserved c =
    let at = c.loop-cell in
    let xs = c.args.cells.now in
    made_step steady_value steady_limit steady_limit (λ t. Some (turning_at c.args.span.now c.args.turning.now t)) xs (drop at.cell-index xs) (drop (at.cell-index + 1) xs) at.out.items c.push.new.self.items (c.flag_between.result ∷ []) c.cell-item.result
    (drop_read xs at.cell-index c.cell-item.result (omega arith) c.cell-item.is) c.in_ok-push.ensures.items c.flag_between.ensures.flag at.invariant

pub returns : goal.returns
returns c =
    let at = c.loop-cell in
    let xs = c.args.cells.now in
    record { flags = made_end steady_value steady_limit steady_limit (λ t. Some (turning_at c.args.span.now c.args.turning.now t)) c.args.span.now xs (drop at.cell-index xs) at.out.items (drop_of_length-le xs c.loop-cell-test.false) c.requires.whole at.invariant }
