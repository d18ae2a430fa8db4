use Rattle.std.proofs.Common.{sym, ◌∙◌}
use Rattle.mob_cells.{proofs.Meetings.{root_on}, proofs.GapTurns.{one_crossing, one_level}}
use Rattle.mob_cells.proofs.turning.one_turning.Goals as goal

pub returns-then-not-are_opposite : goal.returns-then-not-are_opposite
returns-then-not-are_opposite c =
    record {
      turning = rw (c.level.ensures.level, c.holds-at_lower.ensures.value, c.sign-low.ensures.sign, c.holds-at_upper.ensures.value, c.sign-high.ensures.sign, c.holds-inside.ensures.value, c.sign_between-between.ensures.value)
          (one_level c.args.span.now c.args.rel c.args.f.now c.args.g.now (sym c.are_opposite.ensures.value ∙ c.if-not-are_opposite.true));
    }

pub returns : goal.returns
returns c =
    let o = sym c.are_opposite.ensures.value ∙ c.if-not-are_opposite.false in
    let e = rw (c.lower.ensures.value, c.upper.ensures.value) at c.in_ok-at.ensures.value in
    record {
      turning = rw (c.holds-at_lower.ensures.value, c.sign-low.ensures.sign, c.holds-at_upper.ensures.value, c.sign-high.ensures.sign, c.holds-there.ensures.value)
          (one_crossing c.args.span.now c.args.rel c.args.f.now c.args.g.now c.in_ok-at.at o (root_on c.args.span.now c.args.f.now c.args.g.now c.in_ok-at.at c.requires.level o e));
    }
