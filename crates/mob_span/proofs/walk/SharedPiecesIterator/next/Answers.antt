use Rattle.std.{proofs.Common.{◌≡◌, [], sym, ◌∙◌, subst, true, false}, proofs.lemmas.List.{nil_from_length}}
use Rattle.mob_span.{specs.Walk.{meets_left, CanWalk}, specs.Meet.{meet_of}, specs.Span.{has_instant}, proofs.Shared.{none_left, progress, given_left, given_right, passed_left, passed_right}}
use Rattle.mob_span.proofs.walk.SharedPiecesIterator.next.Goals.{then-ends_before, else-ends_before}
use Rattle.mob_span.proofs.walk.SharedPiecesIterator.next.Goals as goal

pub returns-in_default-split_first-clause-steps : goal.returns-in_default-split_first-clause-steps
returns-in_default-split_first-clause-steps g c =
    let none = nil_from_length c.walk.self.rights.now c.in_default-split_first.ensures.cases in
    let all : meets_left g.X.Spanned.span_of g.Y.Spanned.span_of c.walk.self ≡ [] = rw none (none_left g.X.Spanned.span_of g.Y.Spanned.span_of c.walk.self.lefts.now) in
    (c.walk.invariant.same ∙ all, all)

pub returns-in-Some-met-clause-steps : goal.returns-in-Some-met-clause-steps
returns-in-Some-met-clause-steps g c =
    let i = c.walk.invariant in
    let e = c.in-Some.ensures.cases.0 in
    let f = c.in-Some-split_first.ensures.cases.0 in
    let span = g.X.Spanned.span_of in
    let span' = g.Y.Spanned.span_of in
    let x = c.in-Some.left.now in
    let y = c.in-Some-split_first.right.now in
    let ends = rw (c.time-in-walk-2.ensures.value, c.time-in-walk-3.ensures.value) at c.ends_before.ensures.value in
    let at : c.in-Some-met.span ≡ meet_of (span x) (span' y) = rw (c.time.ensures.value, c.time-in-walk.ensures.value) at c.in-Some-met.ensures.ends in
    let some : has_instant (meet_of (span x) (span' y)) ≡ true = subst (λ r. has_instant r ≡ true) at c.in-Some-met.ensures.test in
    elim c.if-ends_before.branch [
      | then-ends_before z ↦ rw z.self-is (i.same ∙ given_right span span' _ _ _ _ _ _ e f (sym ends ∙ z.if-ends_before.true) i.left_order some c.in-Some-met.span at)
      | else-ends_before z ↦ rw z.self-is (i.same ∙ given_left span span' _ _ _ _ _ _ e f (sym ends ∙ z.if-ends_before.false) i.right_order some c.in-Some-met.span at)
    ]

pub returns-in-Some-met-clause-goes : goal.returns-in-Some-met-clause-goes
returns-in-Some-met-clause-goes g c =
    let i = c.walk.invariant in
    let e = c.in-Some.ensures.cases.0 in
    let f = c.in-Some-split_first.ensures.cases.0 in
    let span = g.X.Spanned.span_of in
    let span' = g.Y.Spanned.span_of in
    let x = c.in-Some.left.now in
    let y = c.in-Some-split_first.right.now in
    let ends = rw (c.time-in-walk-2.ensures.value, c.time-in-walk-3.ensures.value) at c.ends_before.ensures.value in
    let at : c.in-Some-met.span ≡ meet_of (span x) (span' y) = rw (c.time.ensures.value, c.time-in-walk.ensures.value) at c.in-Some-met.ensures.ends in
    let some : has_instant (meet_of (span x) (span' y)) ≡ true = subst (λ r. has_instant r ≡ true) at c.in-Some-met.ensures.test in
    elim c.if-ends_before.branch [
      | then-ends_before z ↦ rw z.self-is (progress (CanWalk span span') (meets_left span span') _ _ _ _ (i.left_order, (rw f at i.right_order).2) (i.same ∙ given_right span span' _ _ _ _ _ _ e f (sym ends ∙ z.if-ends_before.true) i.left_order some c.in-Some-met.span at))
      | else-ends_before z ↦ rw z.self-is (progress (CanWalk span span') (meets_left span span') _ _ _ _ ((rw e at i.left_order).2, i.right_order) (i.same ∙ given_left span span' _ _ _ _ _ _ e f (sym ends ∙ z.if-ends_before.false) i.right_order some c.in-Some-met.span at))
    ]

pub walk-preserved : goal.walk-preserved
walk-preserved g c =
    let i = c.walk.invariant in
    let e = c.in-Some.ensures.cases.0 in
    let f = c.in-Some-split_first.ensures.cases.0 in
    let span = g.X.Spanned.span_of in
    let span' = g.Y.Spanned.span_of in
    let x = c.in-Some.left.now in
    let y = c.in-Some-split_first.right.now in
    let ends = rw (c.time-in-walk-2.ensures.value, c.time-in-walk-3.ensures.value) at c.ends_before.ensures.value in
    let none : has_instant (meet_of (span x) (span' y)) ≡ false = rw (c.time.ensures.value, c.time-in-walk.ensures.value) at c.in_default-met.ensures.test in
    elim c.if-ends_before.branch [
      | then-ends_before z ↦ rw z.self-is (record {
        left_order = i.left_order;
        right_order = (rw f at i.right_order).2;
        same = i.same ∙ passed_right span span' _ _ _ _ _ _ e f (sym ends ∙ z.if-ends_before.true) i.left_order none;
      })
      | else-ends_before z ↦ rw z.self-is (record {
        left_order = (rw e at i.left_order).2;
        right_order = i.right_order;
        same = i.same ∙ passed_left span span' _ _ _ _ _ _ e f (sym ends ∙ z.if-ends_before.false) i.right_order none;
      })
    ]
