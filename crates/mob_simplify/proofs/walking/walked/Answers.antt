use Rattle.std.{proofs.Common.{rules, drop, ◌+◌, arith, sym, ◌∙◌, subst}, proofs.lemmas.Result.{err_from_is_err_and}}
use Rattle.mob_list.proofs.Entries.{drop_read}
use Rattle.mob_simplify.proofs.Along.{IsWalking, walking_start, within_end, walking_refused, walking_stays, walking_breaks}
use Rattle.mob_simplify.proofs.walking.walked.Goals as goal

pub loop-next-init : goal.loop-next-init
loop-next-init c = rw (c.new-between.ensures.items, c.new-legs.ensures.items) (walking_start c.args.limit.now.distance c.in-Some.start.now c.in-Some.rest.now c.args.slices.now (search rules) c.start_of-start.ensures.some)

pub next_stays-requires : goal.next_stays-requires
next_stays-requires c =
    let at = c.loop-next in
    let xs = c.in-Some.rest.now in
    let r = c.next-item.result in
    record {
      square = c.requires.square;
      between = λ g. within_end c.args.limit.now.distance c.args.slices.now at.first.now at.between.items at.last.now (drop at.next-index xs) at.legs.items at.invariant.making r (drop (at.next-index + 1) xs) (drop_read xs at.next-index r (omega arith) c.next-item.is) g;
    }

pub returns-in_err-stay-clause-first : goal.returns-in_err-stay-clause-first
returns-in_err-stay-clause-first c =
    let at = c.loop-next in
    let xs = c.in-Some.rest.now in
    let r = c.next-item.result in
    let p = err_from_is_err_and c.from_residual.result c.from_residual.ensures.1 in
    rw (p.1, p.2)
    (walking_refused c.args.limit.now.distance c.args.slices.now at.first.now at.between.items at.last.now (drop at.next-index xs) at.legs.items at.invariant r (drop (at.next-index + 1) xs) (drop_read xs at.next-index r (omega arith) c.next-item.is) c.in_err-stay.field-0.0 c.in_err-stay.ensures.first)

pub loop-next-preserved-then-stay : goal.loop-next-preserved-then-stay
loop-next-preserved-then-stay c =
    let at = c.loop-next in
    let xs = c.in-Some.rest.now in
    let r = c.next-item.result in
    subst (λ z. IsWalking c.args.limit.now.distance c.args.slices.now at.first.now z r (drop (at.next-index + 1) xs) at.legs.items) (sym c.in_ok-stay.ensures.put)
    (walking_stays c.args.limit.now.distance c.args.slices.now at.first.now at.between.items at.last.now (drop at.next-index xs) at.legs.items at.invariant r (drop (at.next-index + 1) xs) (drop_read xs at.next-index r (omega arith) c.next-item.is)
    (sym c.if-stay.true ∙ c.in_ok-stay.ensures.value) c.in_ok-stay.ensures.first)

pub loop-next-preserved : goal.loop-next-preserved
loop-next-preserved c =
    let at = c.loop-next in
    let xs = c.in-Some.rest.now in
    let r = c.next-item.result in
    rw c.clear.ensures.items
    (walking_breaks c.args.limit.now.distance c.args.slices.now at.first.now at.between.items at.last.now (drop at.next-index xs) at.legs.items at.invariant r (drop (at.next-index + 1) xs) (drop_read xs at.next-index r (omega arith) c.next-item.is)
    c.push.new.self.items (search rules) (sym c.if-stay.false ∙ c.in_ok-stay.ensures.value) c.in_ok-stay.ensures.first c.in_ok-stay.ensures.some)
