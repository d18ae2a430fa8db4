use Rattle.std.proofs.Common.{refl}
use Rattle.mob_language.proofs.Exact.{is_said, not_said}
use Rattle.mob_scalar.proofs.WholeTexts.{truth_whole}
use Rattle.mob_scalar.proofs.truth.read_truth.Goals as goal

pub returns-in-None-clause-reading : goal.returns-in-None-clause-reading
returns-in-None-clause-reading c = λ b said. not_said truth_whole refl c.args.text.now c.as_bytes.result.now b c.as_bytes.ensures.value c.in-None.ensures.value said

pub returns-in-Some-clause-reading : goal.returns-in-Some-clause-reading
returns-in-Some-clause-reading c = (
  c.in-Some.truth,
  is_said truth_whole c.args.text.now c.as_bytes.result.now c.in-Some.truth c.as_bytes.ensures.value c.in-Some.ensures.value,
  (λ x. x),
  (λ x. x),
  (λ x. x),
  refl,
)
