use Rattle.std.proofs.Common.{◌∙◌}
use Rattle.mob_slice.{specs.Lines.{line_value_of, line_continued}, specs.Slices.{value_at}}
use Rattle.mob_arith.{specs.Operations.{quotient_of}, proofs.Alone.{never_none, beside}}
use Rattle.mob_arith.proofs.sums.over_const.Goals as goal

pub returns-in-Ok-Some-clause-value : goal.returns-in-Ok-Some-clause-value
returns-in-Ok-Some-clause-value c = λ t. (rw c.in-Ok-Some.field-0-is at c.in-Ok-Some.ensures.value) t ∙ beside quotient_of (value_at line_value_of c.args.a.now t) c.args.k.now

pub unreachable-requires : goal.unreachable-requires
unreachable-requires c = never_none line_value_of (λ s. s.from) (λ s. s.to) line_continued quotient_of c.args.a.now c.args.k.now c.slices.ensures.normal (rw c.in-Ok-None.field-0-is at c.in-Ok-None.ensures.value)
