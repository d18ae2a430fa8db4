use Rattle.std.proofs.Common.{sym, ◌∙◌}
use Rattle.mob_cells.proofs.Meetings.{always_nil, never_first, never_second, once_second, root_on}
use Rattle.mob_cells.proofs.turning.meeting_on.Goals as goal

pub returns-then-not-are_zero : goal.returns-then-not-are_zero
returns-then-not-are_zero c = record { meeting = never_first c.args.span.now c.args.f.now c.args.g.now c.args.e.now c.args.h.now (sym c.are_opposite.ensures.value ∙ c.if-are_opposite.false) (sym c.are_zero.ensures.value ∙ c.if-not-are_zero.true) }

pub returns-then-are_zero : goal.returns-then-are_zero
returns-then-are_zero c = record { meeting = always_nil c.args.span.now c.args.f.now c.args.g.now c.args.e.now c.args.h.now (sym c.are_zero.ensures.value ∙ c.if-not-are_zero.false) (sym c.are_zero-2.ensures.value ∙ c.if-are_zero.true) }

pub returns-then-not-are_opposite : goal.returns-then-not-are_opposite
returns-then-not-are_opposite c = record { meeting = never_second c.args.span.now c.args.f.now c.args.g.now c.args.e.now c.args.h.now (sym c.are_opposite-2.ensures.value ∙ c.if-not-are_opposite.true) (sym c.are_zero-2.ensures.value ∙ c.if-are_zero.false) }

pub returns : goal.returns
returns c =
    let o = sym c.are_opposite-2.ensures.value ∙ c.if-not-are_opposite.false in
    let e = rw (c.lower.ensures.value, c.upper.ensures.value) at c.in_ok-at.ensures.value in
    record {
      meeting = once_second c.args.span.now c.args.f.now c.args.g.now c.args.e.now c.args.h.now c.in_ok-at.at (sym c.are_zero.ensures.value ∙ c.if-not-are_zero.false) o (root_on c.args.span.now c.args.e.now c.args.h.now c.in_ok-at.at c.requires.second o e);
    }
