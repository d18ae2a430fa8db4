use Rattle.std.{proofs.Common.{drop, ◌+◌, arith, inl, inr, ap, Some, refl}, proofs.Math.ListN.{drop_of_length-le}}
use Rattle.mob_list.proofs.Entries.{drop_read}
use Rattle.mob_cells.proofs.Placing.{placing_start, placing_step, placing_fails, placing_all, placing_fits, placing_level}
use Rattle.mob_cells.proofs.signed.placed_on.Goals as goal

pub loop-ends-init : goal.loop-ends-init
loop-ends-init c = rw c.new-placed.ensures.items (placing_start c.args.span.now c.args.functions.now c.requires.level)

pub root-requires : goal.root-requires
root-requires c =
    let at = c.loop-ends in
    let fs = c.args.functions.now in
    record { level = placing_level c.args.span.now fs (drop at.ends-index fs) (drop (at.ends-index + 1) fs) c.ends-item.result at.placed.items (drop_read fs at.ends-index c.ends-item.result (omega arith) c.ends-item.is) at.invariant }

pub loop-ends-preserved : goal.loop-ends-preserved
loop-ends-preserved c =
    let at = c.loop-ends in
    let fs = c.args.functions.now in
    placing_step c.args.span.now fs (drop at.ends-index fs) (drop (at.ends-index + 1) fs) c.ends-item.result c.in-Ok.root at.placed.items c.push.new.self.items
    (drop_read fs at.ends-index c.ends-item.result (omega arith) c.ends-item.is) c.in-Ok.ensures.value.0 c.in-Ok.ensures.value.1 c.in_ok-push.ensures.items at.invariant

pub returns-in-Err-clause-fits : goal.returns-in-Err-clause-fits
returns-in-Err-clause-fits c =
    let at = c.loop-ends in
    let fs = c.args.functions.now in
    let h = c.in-Err.ensures.value in
    inr (placing_fails c.args.span.now fs (drop at.ends-index fs) (drop (at.ends-index + 1) fs) c.ends-item.result at.placed.items (drop_read fs at.ends-index c.ends-item.result (omega arith) c.ends-item.is) h.1 at.invariant, ap Some h.0)

pub returns-clause-placed : goal.returns-clause-placed
returns-clause-placed c =
    let at = c.loop-ends in
    let fs = c.args.functions.now in
    (at.invariant.good, placing_all c.args.span.now fs (drop at.ends-index fs) at.placed.items (drop_of_length-le fs c.loop-ends-test.false) at.invariant)

pub returns-clause-fits : goal.returns-clause-fits
returns-clause-fits c =
    let at = c.loop-ends in
    let fs = c.args.functions.now in
    inl (placing_fits c.args.span.now fs (drop at.ends-index fs) at.placed.items (drop_of_length-le fs c.loop-ends-test.false) at.invariant, refl)
