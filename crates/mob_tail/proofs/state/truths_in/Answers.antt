use Rattle.std.{proofs.Common.{refl, subst}, proofs.lemmas.Result.{on_ok_weaker}}
use Rattle.mob_tail.specs.States.{AreTruthsWith}
use Rattle.mob_tail.proofs.state.truths_in.Goals as goal

pub returns-in-Ok-Some-clause-more : goal.returns-in-Ok-Some-clause-more
returns-in-Ok-Some-clause-more g c = on_ok_weaker c.part_in.result (λ h. subst (λ o. AreTruthsWith g.U.Uniting.op c.args.parts.now o c.part_in.new.parts) (rw c.in-Ok-Some.field-0-is at c.in-Ok-Some.ensures.copy) (c.slices.ensures.normal, h)) c.part_in.ensures.more

pub returns-in-Ok-None-clause-more : goal.returns-in-Ok-None-clause-more
returns-in-Ok-None-clause-more g c = subst (λ o. AreTruthsWith g.U.Uniting.op c.args.parts.now o c.args.parts.now) (rw c.in-Ok-None.field-0-is at c.in-Ok-None.ensures.copy) refl
