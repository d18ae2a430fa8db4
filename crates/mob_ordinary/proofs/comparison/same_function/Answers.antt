use Rattle.mob_ordinary.proofs.Functions.{function_test}
use Rattle.mob_ordinary.proofs.comparison.same_function.Goals as goal

pub returns : goal.returns
returns g c = record { exact = function_test g.met.C.Course.laws c.args.left.now c.args.right.now c.slices.result.now c.slices-2.result.now c.same_slices.result c.slices.ensures.same c.slices-2.ensures.same c.slices.ensures.normal c.slices-2.ensures.normal c.same_slices.ensures.exact }
