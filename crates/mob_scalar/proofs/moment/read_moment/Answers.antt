use Rattle.std.proofs.Common.{refl}
use Rattle.mob_numeral.proofs.WholeTexts.{inner_of}
use Rattle.mob_scalar.{proofs.WholeTexts.{moment_whole}, proofs.MomentBounds.{moment_small}}
use Rattle.mob_language.proofs.Exact.{is_said, not_said}
use Rattle.mob_scalar.proofs.moment.read_moment.Goals as goal

pub place-requires-clause-part : goal.place-requires-clause-part
place-requires-clause-part c = let i = inner_of c.args.text.now c.in-Some.stamp (is_said moment_whole c.args.text.now c.as_bytes.result.now c.in-Some.stamp c.as_bytes.ensures.value c.in-Some.ensures.value) in moment_small i.text c.in-Some.stamp i.said

pub returns-in-None-clause-reading : goal.returns-in-None-clause-reading
returns-in-None-clause-reading c = λ n said. not_said moment_whole refl c.args.text.now c.as_bytes.result.now n c.as_bytes.ensures.value c.in-None.ensures.value said

pub returns-in-Ok-clause-reading : goal.returns-in-Ok-clause-reading
returns-in-Ok-clause-reading c =
    let e = c.in-Ok.ensures.exact in (
      c.in-Some.stamp,
      is_said moment_whole c.args.text.now c.as_bytes.result.now c.in-Some.stamp c.as_bytes.ensures.value c.in-Some.ensures.value,
      (λ x. x),
      (λ not_fit. not_fit e.1),
      (λ x. x),
      e.0,
    )

pub returns-in-Err-clause-reading : goal.returns-in-Err-clause-reading
returns-in-Err-clause-reading c = (
  c.in-Some.stamp,
  is_said moment_whole c.args.text.now c.as_bytes.result.now c.in-Some.stamp c.as_bytes.ensures.value c.in-Some.ensures.value,
  (λ x. x),
  c.in-Err.ensures.exact,
)
