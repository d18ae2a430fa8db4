use Rattle.std.proofs.Common.{◌∙◌}
use Rattle.mob_slice.specs.Slices.{value_at}
use Rattle.mob_arith.proofs.Alone.{never_none, beside}
use Rattle.mob_arith.proofs.sums.times_const.Goals as goal

pub returns-in-Ok-Some-clause-value : goal.returns-in-Ok-Some-clause-value
returns-in-Ok-Some-clause-value g c = λ t. (rw c.in-Ok-Some.field-0-is at c.in-Ok-Some.ensures.value) t ∙ beside g.C.Summed.multiplied (value_at g.C.Course.value_of c.args.a.now t) c.args.k.now

pub unreachable-requires : goal.unreachable-requires
unreachable-requires g c = never_none g.C.Course.value_of g.C.Course.start_of g.C.Course.end_of g.C.Course.is_continued g.C.Summed.multiplied c.args.a.now c.args.k.now c.slices.ensures.normal (rw c.in-Ok-None.field-0-is at c.in-Ok-None.ensures.value)
