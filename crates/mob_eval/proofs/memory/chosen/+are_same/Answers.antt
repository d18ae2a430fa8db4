use Rattle.std.proofs.Common.{rules, ◌≡◌, map, sym, ap, ◌∙◌, arith}
use Rattle.mob_typed.{specs.declared.typed.TExpr.TheViews.{out-TExpr}, specs.Trees.{typed_of}}
use Rattle.mob_list.proofs.Entries.{drop_read}
use Rattle.mob_eval.proofs.Choosing.{same_node, same_front}
use Rattle.mob_eval.proofs.memory.chosen.+are_same.Goals as goal

pub loop-arg-init : goal.loop-arg-init
loop-arg-init t c args =
    let one = c.args.one.now in
    let other = c.args.other.now in
    let op : (out-TExpr one).op ≡ (out-TExpr other).op = c.same_op.ensures.same c.if-not-same_op.false in
    let ty : (out-TExpr one).ty ≡ (out-TExpr other).ty = c.same_type.ensures.same c.if-not-same_type.false in
    let place : (out-TExpr one).place ≡ (out-TExpr other).place = search rules in
    same_node one other op ty place (ap (map typed_of) (sym c.deref-arg-items.ensures.value) ∙ args ∙ ap (map typed_of) c.as_slice-rest.ensures.value)

pub loop-arg-preserved : goal.loop-arg-preserved
loop-arg-preserved t c args =
    let items = c.deref-arg-items.result.now in
    let read = drop_read items c.loop-arg.arg-index c.arg-item.result (omega arith) c.arg-item.is in
    c.loop-arg.invariant (same_front _ _ _ _ c.arg-item.result c.in-Some.first.now read c.in-Some.ensures.cases.0 (c.are_same.ensures.same c.if-not-are_same.false) args)
