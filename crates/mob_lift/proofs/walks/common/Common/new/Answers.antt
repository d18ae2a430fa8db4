use Rattle.mob_span.proofs.MeetLaws.{meets_clear, meets_hold, shared_common}
use Rattle.mob_slice.{specs.Slices.{IsSound}, proofs.Orders.{ordered, ordered-clear, all_sound}}
use Rattle.mob_lift.proofs.walks.common.Common.new.Goals as goal

pub new-requires-clause-left_order : goal.new-requires-clause-left_order
new-requires-clause-left_order g c = rw c.slices.ensures.same (ordered-clear g.A.Course.start_of g.A.Course.end_of c.args.a.now (ordered _ _ _ _ c.slices.ensures.normal.chained))

pub new-requires-clause-right_order : goal.new-requires-clause-right_order
new-requires-clause-right_order g c = rw c.slices-2.ensures.same (ordered-clear g.B.Course.start_of g.B.Course.end_of c.args.b.now (ordered _ _ _ _ c.slices-2.ensures.normal.chained))

pub returns-clause-clear : goal.returns-clause-clear
returns-clause-clear g c =
    rw (c.new.ensures.left, c.new.ensures.right, c.slices.ensures.same, c.slices-2.ensures.same)
    (meets_clear (λ s. s.span) (λ s. s.span) c.args.a.now c.args.b.now
    (ordered-clear g.A.Course.start_of g.A.Course.end_of c.args.a.now (ordered _ _ _ _ c.slices.ensures.normal.chained))
    (ordered-clear g.B.Course.start_of g.B.Course.end_of c.args.b.now (ordered _ _ _ _ c.slices-2.ensures.normal.chained)))

pub returns-clause-hold : goal.returns-clause-hold
returns-clause-hold g c =
    rw (c.new.ensures.left, c.new.ensures.right, c.slices.ensures.same, c.slices-2.ensures.same)
    (meets_hold (λ s. s.span) (λ s. s.span) (IsSound g.A.Course.start_of g.A.Course.end_of) (IsSound g.B.Course.start_of g.B.Course.end_of) c.args.a.now c.args.b.now
    (all_sound g.A.Course.start_of g.A.Course.end_of c.args.a.now (ordered _ _ _ _ c.slices.ensures.normal.chained))
    (all_sound g.B.Course.start_of g.B.Course.end_of c.args.b.now (ordered _ _ _ _ c.slices-2.ensures.normal.chained)))

pub returns-clause-common : goal.returns-clause-common
returns-clause-common g c =
    rw (c.new.ensures.left, c.new.ensures.right, c.slices.ensures.same, c.slices-2.ensures.same)
    (shared_common (λ s. s.span) (λ s. s.span) c.args.a.now c.args.b.now
    (ordered-clear g.A.Course.start_of g.A.Course.end_of c.args.a.now (ordered _ _ _ _ c.slices.ensures.normal.chained))
    (ordered-clear g.B.Course.start_of g.B.Course.end_of c.args.b.now (ordered _ _ _ _ c.slices-2.ensures.normal.chained)))
