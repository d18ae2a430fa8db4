use Rattle.std.proofs.Common.{sym, ◌∙◌}
use Rattle.mob_cells.proofs.Meetings.{never_shared, once_first, root_on}
use Rattle.mob_cells.proofs.turning.meeting_of.Goals as goal

pub returns-then-not-shared : goal.returns-then-not-shared
returns-then-not-shared c = record { meeting = never_shared c.args.span.now c.args.f.now c.args.g.now c.args.e.now c.args.h.now c.requires.crosses (sym c.in_ok-shared.ensures.value ∙ c.if-not-shared.true) }

pub returns : goal.returns
returns c =
    let e = rw (c.lower.ensures.value, c.upper.ensures.value) at c.in_ok-at.ensures.value in
    record {
      meeting = once_first c.args.span.now c.args.f.now c.args.g.now c.args.e.now c.args.h.now c.in_ok-at.at c.requires.crosses (root_on c.args.span.now c.args.f.now c.args.g.now c.in_ok-at.at c.requires.level c.requires.crosses e)
          (sym c.in_ok-shared.ensures.value ∙ c.if-not-shared.false);
    }
