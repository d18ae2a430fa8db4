use Rattle.mob_ordinary.proofs.Functions.{level_test}
use Rattle.mob_ordinary.proofs.comparison.same_number_function.Goals as goal

pub returns : goal.returns
returns c = record { exact = level_test c.args.steps.now c.slices.result.now c.args.lines.now c.slices-2.result.now c.are_level.result c.slices.ensures.same c.slices-2.ensures.same c.slices.ensures.normal c.slices-2.ensures.normal c.are_level.ensures.exact }
