use Rattle.std.{specs.List.Sorted.{IsPermutation}, proofs.Common.{drop, ◌+◌, arith, subst}, proofs.Math.ListN.{drop_of_length-le}}
use Rattle.mob_list.proofs.Entries.{drop_read}
use Rattle.mob_cells.{specs.Roots.{as_list}, specs.declared.signs.Placed.{Placed}, proofs.Making.{flat_step, flat_end}}
use Rattle.mob_cells.proofs.signed.sorted_roots.Goals as goal

pub loop-p-preserved : goal.loop-p-preserved
loop-p-preserved c =
    let at = c.loop-p in
    let xs = c.args.placed.now in
    flat_step (λ (p : Placed). as_list p.root) (drop at.p-index xs) (drop (at.p-index + 1) xs) c.p-item.result at.out.items c.push_root.new.out.items _ (drop_read xs at.p-index c.p-item.result (omega arith) c.p-item.is) c.in_ok-push_root.ensures.pushed at.invariant

pub returns : goal.returns
returns c =
    let at = c.loop-p in
    let xs = c.args.placed.now in
    let sorted = c.in_ok-sort_instants.ensures.sorted in
    record { sorted = (subst (λ l. IsPermutation l c.sort_instants.new.instants.items) (flat_end (λ (p : Placed). as_list p.root) (drop at.p-index xs) at.out.items _ (drop_of_length-le xs c.loop-p-test.false) at.invariant) sorted.0, sorted.1) }
