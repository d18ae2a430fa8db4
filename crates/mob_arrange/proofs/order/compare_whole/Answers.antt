use Rattle.std.{proofs.Common.{◌≡◌, ◌∙◌, int_cmp}, proofs.lemmas.Int.{to_z-of_z}}
use Rattle.mob_arrange.proofs.WholeNumbers.{whole_order}
use Rattle.mob_arrange.proofs.order.compare_whole.Goals as goal

pub returns-then-falls : goal.returns-then-falls
returns-then-falls c =
    let f = c.ranges.a in
    let g = c.ranges.b in
    let order : c.compare_ints.result ≡ int_cmp c.args.b c.args.a = simp to_z-of_z at c.compare_ints.ensures.order in
    record { order = rw c.if-falls.true (order ∙ whole_order c.args.b c.args.a) }

pub returns-else-falls : goal.returns-else-falls
returns-else-falls c =
    let f = c.ranges.a in
    let g = c.ranges.b in
    let order : c.compare_ints-else-falls.result ≡ int_cmp c.args.a c.args.b = simp to_z-of_z at c.compare_ints-else-falls.ensures.order in
    record { order = rw c.if-falls.false (order ∙ whole_order c.args.a c.args.b) }
