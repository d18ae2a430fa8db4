use Rattle.std.proofs.Common.{rules, drop, ◌+◌, arith}
use Rattle.mob_list.proofs.Entries.{drop_read}
use Rattle.mob_simplify.proofs.Sifting.{sifting_start, sifting_drop, sifting_keep}
use Rattle.mob_simplify.proofs.holding.sifted.Goals as goal

pub loop-b-init : goal.loop-b-init
loop-b-init c = sifting_start c.args.d.now c.args.p.now c.args.q.now c.args.held.now c.push.new.self.items c.requires.long c.requires.between (search rules)

pub loop-b-preserved-then-decided : goal.loop-b-preserved-then-decided
loop-b-preserved-then-decided c =
    let at = c.loop-b in
    let xs = c.args.held.now in
    let b = c.b-item.result in
    sifting_drop c.args.d.now c.args.p.now c.args.q.now xs at.left.items (drop at.b-index xs) b (drop (at.b-index + 1) xs) (drop_read xs at.b-index b (omega arith) c.b-item.is) at.invariant (c.in_ok-decided.ensures.decides c.if-decided.true)

pub loop-b-preserved : goal.loop-b-preserved
loop-b-preserved c =
    let at = c.loop-b in
    let xs = c.args.held.now in
    let b = c.b-item.result in
    sifting_keep c.args.d.now c.args.p.now c.args.q.now xs at.left.items (drop at.b-index xs) b (drop (at.b-index + 1) xs) (drop_read xs at.b-index b (omega arith) c.b-item.is) at.invariant c.push-in-loop-b.new.self.items (search rules)
