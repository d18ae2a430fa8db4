use Rattle.std.proofs.Common.{rules, drop, ◌+◌, arith, sym}
use Rattle.mob_list.proofs.Entries.{drop_read}
use Rattle.mob_simplify.proofs.Stepping.{skipping_start, skipping_stays, skipping_breaks}
use Rattle.mob_simplify.proofs.skipping.walked_wide.Goals as goal

pub loop-next-init : goal.loop-next-init
loop-next-init c = skipping_start c.with_square-limit.result.distance c.in-Some.start.now c.in-Some.rest.now c.args.slices.now c.new-legs.result.items c.new-held.result.items (search rules) c.start_of-start.ensures.some c.new-held.ensures.items c.new-legs.ensures.items

pub next_stays-requires : goal.next_stays-requires
next_stays-requires c = record {
  square = c.with_square-limit.ensures.square;
  inside = rw c.with_square-limit.ensures.distance c.half_side-half.ensures.inside;
  order = c.loop-next.invariant.making.order;
  between = c.loop-next.invariant.reached;
}

pub loop-next-preserved-then-stay : goal.loop-next-preserved-then-stay
loop-next-preserved-then-stay c =
    let at = c.loop-next in
    let xs = c.in-Some.rest.now in
    let r = c.next-item.result in
    skipping_stays c.with_square-limit.result.distance c.args.slices.now at.first.now at.held.items at.sure at.last.now (drop at.next-index xs) at.legs.items at.invariant r (drop (at.next-index + 1) xs) c.next_stays.new.held.items c.next_stays.new.sure c.in_ok-stay.stay (drop_read xs at.next-index r (omega arith) c.next-item.is)
    (sym c.if-stay.true) c.in_ok-stay.ensures.value c.in_ok-stay.ensures.known c.in_ok-stay.ensures.between

pub loop-next-preserved : goal.loop-next-preserved
loop-next-preserved c =
    let at = c.loop-next in
    let xs = c.in-Some.rest.now in
    let r = c.next-item.result in
    skipping_breaks c.with_square-limit.result.distance c.args.slices.now at.first.now at.held.items at.sure at.last.now (drop at.next-index xs) at.legs.items at.invariant r (drop (at.next-index + 1) xs) c.push.new.self.items c.clear.new.self.items c.in_ok-stay.stay (drop_read xs at.next-index r (omega arith) c.next-item.is)
    (sym c.if-stay.false) (search rules) c.clear.ensures.items c.in_ok-stay.ensures.value c.next_stays.ensures.some
