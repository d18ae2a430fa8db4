use Rattle.std.{specs.Vec.Iter.{into_iter_items}, proofs.Common.{[], ◌∷◌, ◌∙◌, sym, append-nil}, proofs.lemmas.List.{nil_from_length}}
use Rattle.mob_list.proofs.Entries.{counted_down}
use Rattle.mob_lift.proofs.Runs.{step_normal, step_ordered, step_keeps}
use Rattle.mob_lift.proofs.normal.normaliser.normal.Goals as goal

pub loop-next-preserved-in-One : goal.loop-next-preserved-in-One
loop-next-preserved-in-One g c =
    let j = rw c.in-One.is at c.in_ok-slice.ensures.joined in
    let o = c.loop-next.done.items in
    let rest = into_iter_items c.next-in-loop-next.new.self in
    let s = c.loop-next.last in
    let r = c.in-Some-next.next in
    let left = c.in-Some-next.ensures.steps.0 in
    record {
      goes = tt;
      ends = tt;
      counted = counted_down _ _ _ _ _ left c.in-Some-next.ensures.steps.1 c.loop-next.invariant.counted;
      normal = step_normal o [] o s r c.in-One.slice (sym (append-nil o)) c.loop-next.invariant.normal j;
      ordered = step_ordered [] rest s r c.in-One.slice (rw left at c.loop-next.invariant.ordered) j;
      same = λ t. step_keeps o [] o rest s r c.in-One.slice (sym (append-nil o)) j t ∙ (rw left at (c.loop-next.invariant.same t));
    }

pub loop-next-preserved-then-stay : goal.loop-next-preserved-then-stay
loop-next-preserved-then-stay g c =
    let j = c.stay.ensures.stay c.if-stay.true in
    let o = c.loop-next.done.items in
    let rest = into_iter_items c.next-in-loop-next.new.self in
    let s = c.loop-next.last in
    let r = c.in-Some-next.next in
    let d = s ∷ [] in
    let left = c.in-Some-next.ensures.steps.0 in
    record {
      goes = tt;
      ends = tt;
      counted = counted_down _ _ _ _ _ left c.in-Some-next.ensures.steps.1 c.loop-next.invariant.counted;
      normal = step_normal o d c.push.new.self.items s r r c.in_ok-push.ensures.items c.loop-next.invariant.normal j;
      ordered = step_ordered d rest s r r (rw left at c.loop-next.invariant.ordered) j;
      same = λ t. step_keeps o d c.push.new.self.items rest s r r c.in_ok-push.ensures.items j t ∙ (rw left at (c.loop-next.invariant.same t));
    }

pub loop-next-preserved : goal.loop-next-preserved
loop-next-preserved g c =
    let j = rw c.in-Two.is at c.in_ok-slice.ensures.joined in
    let o = c.loop-next.done.items in
    let d = c.in-Two.slice ∷ [] in
    let rest = into_iter_items c.next-in-loop-next.new.self in
    let s = c.loop-next.last in
    let r = c.in-Some-next.next in
    let left = c.in-Some-next.ensures.steps.0 in
    record {
      goes = tt;
      ends = tt;
      counted = counted_down _ _ _ _ _ left c.in-Some-next.ensures.steps.1 c.loop-next.invariant.counted;
      normal = step_normal o d c.push-in-Two.new.self.items s r c.in-Two.other c.in_ok-push-in-Two.ensures.items c.loop-next.invariant.normal j;
      ordered = step_ordered d rest s r c.in-Two.other (rw left at c.loop-next.invariant.ordered) j;
      same = λ t. step_keeps o d c.push-in-Two.new.self.items rest s r c.in-Two.other c.in_ok-push-in-Two.ensures.items j t ∙ (rw left at (c.loop-next.invariant.same t));
    }

pub returns-clause-same : goal.returns-clause-same
returns-clause-same g c t =
    let none = nil_from_length _ (sym c.loop-next.invariant.counted ∙ c.in-None.ensures.steps.0) in
    rw (c.from_normal.ensures.same, c.in_ok-push-2.ensures.items) (rw none at (c.loop-next.invariant.same t))
