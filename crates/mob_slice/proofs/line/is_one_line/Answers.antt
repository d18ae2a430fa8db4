use Rattle.std.proofs.Common.{rules, ◌≡◌, true, false, ◌∙◌}
use Rattle.mob_ratio.specs.Order.{same}
use Rattle.mob_slice.proofs.Straight.{one_line, two_lines, first_up_to, second_up_to}
use Rattle.mob_slice.proofs.line.is_one_line.Goals as goal

pub is_straight-requires-clause-first : goal.is_straight-requires-clause-first
is_straight-requires-clause-first c = first_up_to c.args.span.now c.args.next.now _ _ c.requires.meets c.lower.ensures.some c.lower.ensures.value c.lower-then-is_same.ensures.value

pub is_straight-requires-clause-second : goal.is_straight-requires-clause-second
is_straight-requires-clause-second c = second_up_to c.args.next.now _ _ c.lower-then-is_same.ensures.some c.lower-then-is_same.ensures.value c.upper.ensures.value

pub returns-then-is_same : goal.returns-then-is_same
returns-then-is_same c =
    let k : same c.args.x1.now c.args.y0.now ≡ true = search rules in
    let m = rw (c.lower.ensures.value, c.lower-then-is_same.ensures.value, c.upper.ensures.value) at c.is_straight.ensures.value in
    record { value = m ∙ one_line _ _ _ _ _ _ _ _ k c.requires.meets.at_one }

pub returns-else-is_same : goal.returns-else-is_same
returns-else-is_same c =
    let k : same c.args.x1.now c.args.y0.now ≡ false = search rules in
    record { value = c.is_same.ensures.value ∙ k ∙ two_lines _ _ _ _ _ _ _ k }
