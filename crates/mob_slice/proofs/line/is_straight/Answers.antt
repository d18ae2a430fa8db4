use Rattle.std.proofs.Common.{rules, ◌∙◌}
use Rattle.mob_slice.proofs.Straight.{at_first, at_last, at_middle, apart}
use Rattle.mob_slice.proofs.line.is_straight.Goals as goal

pub returns-then-not-is_before : goal.returns-then-not-is_before
returns-then-not-is_before c = record { value = c.is_same.ensures.value ∙ at_first _ _ _ _ _ _ c.requires.first (search rules) }

pub returns-then-not-is_before-2 : goal.returns-then-not-is_before-2
returns-then-not-is_before-2 c = record { value = c.is_same-then-not-is_before-2.ensures.value ∙ at_last _ _ _ _ _ _ c.requires.second (search rules) (search rules) }

pub same_ratio-requires-clause-left : goal.same_ratio-requires-clause-left
same_ratio-requires-clause-left c = apart c.args.l.now c.args.m.now _ c.difference-2.ensures.value (search rules)

pub same_ratio-requires-clause-right : goal.same_ratio-requires-clause-right
same_ratio-requires-clause-right c = apart c.args.m.now c.args.u.now _ c.difference-4.ensures.value (search rules)

pub returns : goal.returns
returns c = record { value = at_middle _ _ _ _ _ _ _ _ _ _ _ (search rules) (search rules) c.difference.ensures.value c.difference-2.ensures.value c.difference-3.ensures.value c.difference-4.ensures.value c.same_ratio.ensures.same }
