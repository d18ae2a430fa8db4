use Rattle.std.{proofs.Common.{◌≡◌, true, drop, length, ◌≤◌, ◌+◌, arith, ap, not, sym, ◌∙◌}, proofs.lemmas.List.{drop_all}}
use Rattle.mob_list.proofs.Entries.{drop_read}
use Rattle.mob_ratio.specs.Order.{up_to}
use Rattle.mob_knn.proofs.Scanning.{each_taken, place_here, place_last}
use Rattle.mob_knn.proofs.scan.place_of.Goals as goal

pub returns-then-below-clause-place : goal.returns-then-below-clause-place
returns-then-below-clause-place c =
    let at = c.loop-row in
    let xs = c.args.rows.now in
    let count = at.invariant.count in
    place_here c.args.m.now xs at.place c.row-item.result (drop (at.row-index + 1) xs) (rw count (drop_read xs at.row-index c.row-item.result (omega arith) c.row-item.is)) at.invariant.behind (sym c.in_ok-below.ensures.value ∙ c.if-below.true)

pub loop-row-preserved : goal.loop-row-preserved
loop-row-preserved c =
    let at = c.loop-row in
    let xs = c.args.rows.now in
    let count = at.invariant.count in
    record {
      count = ap (λ n. n + 1) count;
      behind = rw count (each_taken (λ r. up_to r.1 c.args.m.now ≡ true) xs at.row-index c.row-item.result (omega arith) c.row-item.is (rw count at at.invariant.behind) (ap not (sym c.in_ok-below.ensures.value ∙ c.if-below.false)));
    }

pub returns-clause-place : goal.returns-clause-place
returns-clause-place c =
    let at = c.loop-row in
    let xs = c.args.rows.now in
    let count = at.invariant.count in
    let past : length xs ≤ at.place = omega (arith, count) in
    place_last c.args.m.now xs at.place (drop_all at.place xs past) at.invariant.behind
