use Rattle.std.proofs.Common.{sym, ◌∙◌, true≢false}
use Rattle.mob_span.specs.Flags.{same_bool_exact}
use Rattle.mob_cells.proofs.GapTurns.{two_alike, two_always, two_never, two_once}
use Rattle.mob_cells.proofs.turning.two_turning.Goals as goal

pub returns-then-same_bool : goal.returns-then-same_bool
returns-then-same_bool c =
    let q = sym c.holds-apart.ensures.value ∙ (same_bool_exact c.holds-apart.result c.holds-there.result).0 (sym c.same_bool.ensures.value ∙ c.if-same_bool.true) ∙ c.holds-there.ensures.value in
    record {
      turning = rw (c.level.ensures.level, c.holds-at_lower.ensures.value, c.order_by-low.ensures.value, c.holds-at_upper.ensures.value, c.order_by-high.ensures.value, c.holds-there.ensures.value)
          (two_alike c.args.span.now c.args.rel c.args.f.now c.args.g.now c.args.e.now c.args.h.now q);
    }

pub returns-in-Never : goal.returns-in-Never
returns-in-Never c =
    record {
      turning = rw (c.level-in-Never.ensures.level, c.holds-at_lower.ensures.value, c.order_by-low.ensures.value, c.holds-at_upper.ensures.value, c.order_by-high.ensures.value, c.holds-apart.ensures.value)
          (two_never c.args.span.now c.args.rel c.args.f.now c.args.g.now c.args.e.now c.args.h.now (rw c.in-Never.is at c.in_ok-when.ensures.meeting));
    }

pub returns-in-Always : goal.returns-in-Always
returns-in-Always c =
    record {
      turning = rw (c.level-in-Always.ensures.level, c.holds-at_lower.ensures.value, c.order_by-low.ensures.value, c.holds-at_upper.ensures.value, c.order_by-high.ensures.value, c.holds-there.ensures.value)
          (two_always c.args.span.now c.args.rel c.args.f.now c.args.g.now c.args.e.now c.args.h.now (rw c.in-Always.is at c.in_ok-when.ensures.meeting));
    }

pub returns-in-Once : goal.returns-in-Once
returns-in-Once c =
    record {
      turning = rw (c.holds-at_lower.ensures.value, c.order_by-low.ensures.value, c.holds-at_upper.ensures.value, c.order_by-high.ensures.value, c.holds-apart.ensures.value, c.holds-there.ensures.value)
          (two_once c.args.span.now c.args.rel c.args.f.now c.args.g.now c.args.e.now c.args.h.now c.in-Once.at (rw c.in-Once.is at c.in_ok-when.ensures.meeting)
          (λ q. true≢false (sym ((same_bool_exact c.holds-apart.result c.holds-there.result).1 (c.holds-apart.ensures.value ∙ q ∙ sym c.holds-there.ensures.value)) ∙ sym c.same_bool.ensures.value ∙ c.if-same_bool.false)));
    }
