use Rattle.std.proofs.Common.{refl, ◌≡◌}
use Rattle.mob_span.{specs.Meets.{shared_pieces}, specs.Walk.{met_of, meets_left}, proofs.MeetLaws.{meets_clear}}
use Rattle.mob_slice.{specs.Parts.{HoldsMet}, proofs.Orders.{ordered, ordered-clear}, proofs.Yielded.{clear_along, all_along}}
use Rattle.mob_restrict.proofs.Cutting.{met_hold, whole_within}
use Rattle.mob_restrict.proofs.by_time.within.Goals as goal

pub new-requires-clause-left_order : goal.new-requires-clause-left_order
new-requires-clause-left_order g c = rw c.slices.ensures.same (ordered-clear g.C.Course.start_of g.C.Course.end_of c.args.a.now (ordered g.C.Course.start_of g.C.Course.end_of _ c.args.a.now c.slices.ensures.normal.chained))

pub lift-requires-clause-clear : goal.lift-requires-clause-clear
lift-requires-clause-clear g c =
    let at : meets_left (λ s. s.span) (λ r. r) c.new.result ≡ shared_pieces (λ s. s.span) (λ r. r) c.args.a.now c.args.spans.now = rw (c.new.ensures.left, c.new.ensures.right, c.slices.ensures.same) refl in
    clear_along met_of (meets_left (λ s. s.span) (λ r. r)) (λ p. p.span) c.new.result (rw at (meets_clear (λ s. s.span) (λ r. r) c.args.a.now c.args.spans.now (ordered-clear g.C.Course.start_of g.C.Course.end_of c.args.a.now (ordered g.C.Course.start_of g.C.Course.end_of _ c.args.a.now c.slices.ensures.normal.chained)) c.requires.order))

pub lift-requires-clause-fit : goal.lift-requires-clause-fit
lift-requires-clause-fit g c =
    let at : meets_left (λ s. s.span) (λ r. r) c.new.result ≡ shared_pieces (λ s. s.span) (λ r. r) c.args.a.now c.args.spans.now = rw (c.new.ensures.left, c.new.ensures.right, c.slices.ensures.same) refl in
    all_along met_of (meets_left (λ s. s.span) (λ r. r)) (HoldsMet g.C.Course.start_of g.C.Course.end_of) c.new.result (rw at (met_hold g.C.Course.start_of g.C.Course.end_of c.args.a.now c.args.spans.now (ordered g.C.Course.start_of g.C.Course.end_of _ c.args.a.now c.slices.ensures.normal.chained)))

pub lift-requires-clause-sound : goal.lift-requires-clause-sound
lift-requires-clause-sound g c = λ p v s h k.
    let on = (rw k.shows at k.says.met).0 in
    (on.ordered, on.inside)

pub returns : goal.returns
returns g c =
    let at : meets_left (λ s. s.span) (λ r. r) c.new.result ≡ shared_pieces (λ s. s.span) (λ r. r) c.args.a.now c.args.spans.now = rw (c.new.ensures.left, c.new.ensures.right, c.slices.ensures.same) refl in
    let all = whole_within g.C.Course.value_of g.C.Course.start_of g.C.Course.end_of g.C.Course.parts_of (λ v. v.items) met_of (meets_left (λ s. s.span) (λ r. r)) (λ v. v.items) c.new.result c.args.a.now c.args.spans.now at
    _ _ (λ p v k. rw k.1.shows at k.1.says.met) (λ f p k. rw k.1.shows at k.1.says.met) c.lift.result c.lift.ensures.lifted c.lift.ensures.passed in
    record { slices = all.0; first = all.1 }
