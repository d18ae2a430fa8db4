use Rattle.std.proofs.Common.{refl}
use Rattle.mob_numeral.{proofs.WholeTexts.{number_whole, inner_of}, proofs.Bounded.{number_bounded}}
use Rattle.mob_language.proofs.Exact.{is_said, not_said}
use Rattle.mob_numeral.proofs.number.read_number.Goals as goal

pub evaluate-requires : goal.evaluate-requires
evaluate-requires c = let i = inner_of c.args.text.now c.in-Some.n (is_said number_whole c.args.text.now c.as_bytes.result.now c.in-Some.n c.as_bytes.ensures.value c.in-Some.ensures.value) in record { bounded = number_bounded i.text c.in-Some.n i.said }

pub returns-in-None-clause-reading : goal.returns-in-None-clause-reading
returns-in-None-clause-reading c = λ n said. not_said number_whole refl c.args.text.now c.as_bytes.result.now n c.as_bytes.ensures.value c.in-None.ensures.value said

pub returns-in-Ok-clause-reading : goal.returns-in-Ok-clause-reading
returns-in-Ok-clause-reading c = (
  c.in-Some.n,
  is_said number_whole c.args.text.now c.as_bytes.result.now c.in-Some.n c.as_bytes.ensures.value c.in-Some.ensures.value,
  (λ x. x),
  (λ not_fit. not_fit c.in-Ok.ensures.exact.1),
  (λ x. x),
  c.in-Ok.ensures.exact.0,
)

pub returns-in-Err-clause-reading : goal.returns-in-Err-clause-reading
returns-in-Err-clause-reading c = (
  c.in-Some.n,
  is_said number_whole c.args.text.now c.as_bytes.result.now c.in-Some.n c.as_bytes.ensures.value c.in-Some.ensures.value,
  (λ x. x),
  c.in-Err.ensures.exact,
)
