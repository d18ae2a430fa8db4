use Rattle.std.{proofs.Common.{drop, ◌+◌, arith, refl}, proofs.Math.ListN.{drop_of_length-le}}
use Rattle.mob_list.{proofs.Each.{each_get}, proofs.Entries.{drop_read}}
use Rattle.mob_cells.{specs.Cells.{IsPlaced, placed_sign}, proofs.Making.{read_of, mapped_step, mapped_end}}
use Rattle.mob_cells.proofs.signs.signs_at.Goals as goal

pub sign_at-requires : goal.sign_at-requires
sign_at-requires c =
    let xs = c.args.functions.now in
    let i = c.loop-placed.placed-index in
    let p = c.placed-item.result in
    record { root = (each_get (IsPlaced c.args.span.now) xs i p c.requires.placed (read_of xs xs i p refl (omega arith) c.placed-item.is)).root }

pub loop-placed-preserved : goal.loop-placed-preserved
loop-placed-preserved c =
    let at = c.loop-placed in
    let xs = c.args.functions.now in
    mapped_step (placed_sign c.args.span.now c.args.cell.now) (drop at.placed-index xs) (drop (at.placed-index + 1) xs) c.placed-item.result c.sign_at.result at.out.items c.push.new.self.items _ (drop_read xs at.placed-index c.placed-item.result (omega arith) c.placed-item.is) c.sign_at.ensures.sign c.in_ok-push.ensures.items at.invariant

pub returns : goal.returns
returns c =
    let at = c.loop-placed in
    let xs = c.args.functions.now in
    record { signs = mapped_end (placed_sign c.args.span.now c.args.cell.now) (drop at.placed-index xs) at.out.items _ (drop_of_length-le xs c.loop-placed-test.false) at.invariant }
