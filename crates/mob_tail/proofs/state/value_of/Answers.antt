use Rattle.std.{specs.Prelude.{None}, proofs.Common.{ap, ◌∙◌}}
use Rattle.mob_arith.specs.Operations.{sum_of, both_hold, one_holds}
use Rattle.mob_slice.specs.Operands.{steady_value}
use Rattle.mob_tagg.{specs.United.{united_by}, specs.Gathered.{united_all, gathered_parts}}
use Rattle.mob_tail.proofs.StateSteps.{whole_is, counts_is, all_is, any_is}
use Rattle.mob_tail.proofs.state.value_of.Goals as goal

pub returns-in-Whole : goal.returns-in-Whole
returns-in-Whole c = rw c.in-Whole.is (record { value = λ kind r h. whole_is kind c.in-Whole.value r h })

pub returns-in-Ok : goal.returns-in-Ok
returns-in-Ok c = rw c.in-Counts.is (record {
  value = λ kind r h. c.int_or_null.ensures.value ∙ counts_is kind c.in-Counts.parts r c.in-Ok.all h c.int_or_null.ensures.normal (λ t. c.in-Ok.ensures.same t ∙ ap (λ z. united_by sum_of (united_all sum_of (gathered_parts steady_value z t)) None) c.into_vec.ensures.same);
})

pub returns-in-Ok-gathered : goal.returns-in-Ok-gathered
returns-in-Ok-gathered c = rw c.in-All.is (record {
  value = λ kind r h. c.bool_or_null.ensures.value ∙ all_is kind c.in-All.parts r c.in-Ok-gathered.all h c.bool_or_null.ensures.normal (λ t. c.in-Ok-gathered.ensures.same t ∙ ap (λ z. united_by both_hold (united_all both_hold (gathered_parts steady_value z t)) None) c.into_vec-in-All.ensures.same);
})

pub returns-in-Ok-gathered-2 : goal.returns-in-Ok-gathered-2
returns-in-Ok-gathered-2 c = rw c.in-Any.is (record {
  value = λ kind r h. c.bool_or_null-in-Ok-gathered-2.ensures.value ∙ any_is kind c.in-Any.parts r c.in-Ok-gathered-2.all h c.bool_or_null-in-Ok-gathered-2.ensures.normal (λ t. c.in-Ok-gathered-2.ensures.same t ∙ ap (λ z. united_by one_holds (united_all one_holds (gathered_parts steady_value z t)) None) c.into_vec-in-Any.ensures.same);
})
