use Rattle.std.proofs.Common.{sym, ◌∙◌}
use Rattle.mob_simplify.proofs.Stepping.{after_start, before_end, held_before, next_known, next_value, not_going}
use Rattle.mob_simplify.proofs.skipping.next_stays.Goals as goal

pub returns-then-not-continues_run-clause-value : goal.returns-then-not-continues_run-clause-value
returns-then-not-continues_run-clause-value c between known = not_going c.args.limit.now.distance c.args.first.now c.args.last.now c.args.next.now _ (sym c.continues_run.ensures.value ∙ c.if-not-continues_run.true)

pub narrowed-requires : goal.narrowed-requires
narrowed-requires c = record { after = rw (c.start_of-p.ensures.value, c.start_of-here.ensures.value) (after_start c.args.limit.now.distance c.args.first.now c.args.last.now c.args.next.now (sym c.continues_run.ensures.value ∙ c.if-not-continues_run.false) c.requires.order) }

pub passes_knowing-requires : goal.passes_knowing-requires
passes_knowing-requires c =
    let goes = sym c.continues_run.ensures.value ∙ c.if-not-continues_run.false in
    record {
      square = c.requires.square;
      long = rw (c.start_of-p.ensures.value, c.start_of-here.ensures.value) (after_start c.args.limit.now.distance c.args.first.now c.args.last.now c.args.next.now goes c.requires.order);
      until = rw (c.start_of-here.ensures.value, c.end_of.ensures.value) (before_end c.args.limit.now.distance c.args.first.now c.args.last.now c.args.next.now goes c.requires.order);
      between = rw (c.start_of-p.ensures.value, c.start_of-here.ensures.value) (held_before c.args.limit.now.distance c.args.first.now c.args.last.now c.args.next.now goes c.requires.order c.args.held.now.items c.requires.between);
    }

pub returns-clause-value : goal.returns-clause-value
returns-clause-value c between known =
    next_value c.args.limit.now.distance c.args.first.now c.args.last.now c.args.next.now (sym c.continues_run.ensures.value ∙ c.if-not-continues_run.false) c.requires.order c.args.half.now c.args.sure.now c.narrowed.result c.requires.inside
    c.narrowed.ensures.sure (rw (c.start_of-p.ensures.value, c.start_of-here.ensures.value) at c.narrowed.ensures.near) c.args.held.now.items between known c.in_ok-stay.stay (rw (c.start_of-p.ensures.value, c.start_of-here.ensures.value, c.end_of.ensures.value) at c.in_ok-stay.ensures.value)

pub returns-clause-known : goal.returns-clause-known
returns-clause-known c stays between known =
    next_known c.args.limit.now.distance c.args.first.now c.args.last.now c.args.next.now (sym c.continues_run.ensures.value ∙ c.if-not-continues_run.false) c.requires.order c.args.half.now c.args.sure.now c.narrowed.result c.requires.inside
    c.narrowed.ensures.sure (rw (c.start_of-p.ensures.value, c.start_of-here.ensures.value) at c.narrowed.ensures.near) c.args.held.now.items between known c.passes_knowing.new.held.items (rw (c.start_of-p.ensures.value, c.start_of-here.ensures.value) at c.in_ok-stay.ensures.alike)

pub returns-clause-between : goal.returns-clause-between
returns-clause-between c stays = rw (c.start_of-p.ensures.value, c.start_of-here.ensures.value) at c.in_ok-stay.ensures.between
