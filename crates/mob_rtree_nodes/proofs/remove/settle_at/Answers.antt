use Rattle.std.proofs.Common.{arith, ap, List, length, ◌<◌}
use Rattle.mob_rtree_nodes.{specs.Tree.{Kid}, proofs.Sums.{kids_of}, proofs.Frees.{free_few, free_drop, free_set}}
use Rattle.mob_rtree_nodes.proofs.remove.settle_at.Goals as goal

pub settle-left-requires-clause-slot : goal.settle-left-requires-clause-slot
settle-left-requires-clause-slot c = let s = c.requires.slot in omega (arith, s, ap (λ (l : List Kid). length l) (kids_of c.args.nodes.now.items c.args.node c.index_mut-part.result.now c.requires.there c.index_mut-part.ensures.value))

pub push_reserved-requires : goal.push_reserved-requires
push_reserved-requires c =
    let old = c.args.nodes.now.items in
    let p = c.index_mut-part.result.now in
    let n = c.args.node in
    let is = c.index_mut-part.ensures.value in
    let s = c.requires.slot in
    let live : 0 < length p.kids.items = omega (arith, s, ap (λ (l : List Kid). length l) (kids_of old n p c.requires.there is)) in
    let few = free_few c.args.free.now.items old n p c.requires.there is live c.requires.free in
    let o = c.args.free.now.ok.0 in
    let r = c.requires.room in
    omega (arith, few, o, r)

pub returns-in-Emptied-clause-free : goal.returns-in-Emptied-clause-free
returns-in-Emptied-clause-free c =
    let old = c.args.nodes.now.items in
    let p = c.index_mut-part.result.now in
    let n = c.args.node in
    let is = c.index_mut-part.ensures.value in
    let s = c.requires.slot in
    let live : 0 < length p.kids.items = omega (arith, s, ap (λ (l : List Kid). length l) (kids_of old n p c.requires.there is)) in
    free_drop c.args.free.now.items c.push_reserved.new.self.items old n p c.settle-left.new.part c.requires.there is live c.in-Emptied.ensures.settled.told c.push_reserved.ensures.items c.requires.free

pub returns-in-Narrowed-clause-free : goal.returns-in-Narrowed-clause-free
returns-in-Narrowed-clause-free c =
    let old = c.args.nodes.now.items in
    let p = c.index_mut-part.result.now in
    let n = c.args.node in
    let is = c.index_mut-part.ensures.value in
    let s = c.requires.slot in
    let live : 0 < length p.kids.items = omega (arith, s, ap (λ (l : List Kid). length l) (kids_of old n p c.requires.there is)) in
    free_set c.args.free.now.items old n p c.settle-left.new.part c.requires.there is live c.in-Narrowed.ensures.settled.told.1 c.requires.free

pub returns-in-Missing-clause-free : goal.returns-in-Missing-clause-free
returns-in-Missing-clause-free c = absurd c.in-Missing.ensures.settled.told
