use Rattle.std.{specs.Vec.Iter.{into_iter_items}, proofs.Common.{refl, sym, ◌∙◌, rules}, proofs.lemmas.List.{nil_from_length}, proofs.lemmas.Result.{IfOk-weaker}}
use Rattle.mob_list.proofs.Entries.{counted_down}
use Rattle.mob_slice.specs.CourseOf.{course_of}
use Rattle.mob_literal.{specs.Slices.{made}, proofs.Made.{made_begins, made_more, opens_before}}
use Rattle.mob_literal.proofs.slicing.slices_of.Goals as goal

pub loop-next-init : goal.loop-next-init
loop-next-init g c = record {
  goes = tt;
  ends = tt;
  counted = search rules;
  together = made_begins (course_of g.C.Course g.C.Base.BaseValue.is_same) c.args.step c.new-slices.result.items c.args.lower_inc c.args.upper_inc c.in-Some.last (into_iter_items c.into_iter-next-iterator.result) c.args.instants.items c.new-slices.ensures.items (rw c.into_iter-next-iterator.ensures.into_iter_gives (sym c.into_iter-rest.ensures.rest ∙ c.in-Some.ensures.items));
}

pub loop-next-preserved : goal.loop-next-preserved
loop-next-preserved g c =
    let left = c.in-Some-next.ensures.steps.0 in
    let first = opens_before c.loop-next.included c.loop-next.last.instant c.in-Some-next.next.instant (rw c.in-Some-new.ensures.ends at c.in-Some-new.ensures.test) in
    record {
      goes = tt;
      ends = tt;
      counted = counted_down _ _ _ _ _ left c.in-Some-next.ensures.steps.1 c.loop-next.invariant.counted;
      together = made_more (course_of g.C.Course g.C.Base.BaseValue.is_same) c.args.step c.loop-next.slices.items c.push.new.self.items c.loop-next.level c.arrives-level.result c.loop-next.included c.args.upper_inc c.loop-next.last c.in-Some-next.next (into_iter_items c.next-in-loop-next.new.self) first c.arrives-level.ensures.exact (rw (c.in_ok-push.ensures.items, c.in_ok-course.ensures.made, c.in-Some-new.ensures.ends) refl) ∙ (rw left at c.loop-next.invariant.together);
    }

pub returns : goal.returns
returns g c =
    let none = nil_from_length (into_iter_items c.loop-next.next-iterator) (sym c.loop-next.invariant.counted ∙ c.in-None.ensures.steps.0) in
    record { made = IfOk-weaker c.closed.result _ _ (λ o h. h c.args.step ∙ (rw none at c.loop-next.invariant.together)) c.closed.ensures.made }
