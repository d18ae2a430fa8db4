use Rattle.std.proofs.Common.{sym, subst, ◌∙◌}
use Rattle.mob_language.proofs.Exact.{is_said, not_said}
use Rattle.mob_scalar.{specs.Calendar.{IsInYears}, proofs.Dates.{day_back, read_day}, proofs.MomentExact.{date_exact}}
use Rattle.mob_scalar.proofs.epoch.Epoch.read.Goals as goal

pub invariant_of-result : goal.invariant_of-result
invariant_of-result c =
    let within = read_day c.in-Some.date c.day_of.result c.in-Some.ensures.there c.day_of.ensures.number in
    subst IsInYears (sym (day_back c.day_of.result within)) within

pub returns-in-None-clause-reading : goal.returns-in-None-clause-reading
returns-in-None-clause-reading c = λ date said. not_said date_exact tt c.args.text.now c.as_bytes.result.now date c.as_bytes.ensures.value c.in-None.ensures.value said

pub returns-in-Some-clause-reading : goal.returns-in-Some-clause-reading
returns-in-Some-clause-reading c = (
  c.in-Some.date,
  is_said date_exact c.args.text.now c.as_bytes.result.now c.in-Some.date c.as_bytes.ensures.value c.in-Some.ensures.value,
  (λ x. x),
  (λ x. x),
  (λ x. x),
  day_back c.day_of.result (read_day c.in-Some.date c.day_of.result c.in-Some.ensures.there c.day_of.ensures.number) ∙ c.day_of.ensures.number,
)
