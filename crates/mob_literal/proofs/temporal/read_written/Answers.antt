use Rattle.std.proofs.Common.{sym, ◌∙◌}
use Rattle.mob_written.specs.Prefix.{admitted}
use Rattle.mob_literal.proofs.ReadLiterals.{no_text, too_long, too_large, all_fit}
use Rattle.mob_literal.proofs.temporal.read_written.Goals as goal

pub returns-in-Ok-None : goal.returns-in-Ok-None
returns-in-Ok-None g c = record { reading = no_text c.args.epoch.now (admitted c.args.steady g.T.WrittenValue.HAS_SRID) g.met.T.WrittenValue.exact c.args.text.now c.as_bytes.result.now c.as_bytes.ensures.value (rw c.in-Ok-None.field-0-is at c.in-Ok-None.ensures.read) }

pub returns-then-is_long : goal.returns-then-is_long
returns-then-is_long g c = record { reading = too_long c.args.epoch.now (admitted c.args.steady g.T.WrittenValue.HAS_SRID) g.met.T.WrittenValue.exact c.args.text.now c.as_bytes.result.now c.in-Ok-Some.noted c.as_bytes.ensures.value (rw c.in-Ok-Some.field-0-is at c.in-Ok-Some.ensures.read) (rw c.as_slice.ensures.same at (sym c.is_long.ensures.value ∙ c.if-is_long.true)) }

pub returns-in-Ok-Some-fitting_literal : goal.returns-in-Ok-Some-fitting_literal
returns-in-Ok-Some-fitting_literal g c = record { reading = all_fit c.args.epoch.now (admitted c.args.steady g.T.WrittenValue.HAS_SRID) g.met.T.WrittenValue.exact c.args.text.now c.as_bytes.result.now c.in-Ok-Some.noted c.in-Ok-Some-fitting_literal.written c.as_bytes.ensures.value (rw c.in-Ok-Some.field-0-is at c.in-Ok-Some.ensures.read) (rw c.as_slice.ensures.same at (sym c.is_long.ensures.value ∙ c.if-is_long.false)) (rw c.in-Ok-Some-fitting_literal.field-0-is at c.in-Ok-Some-fitting_literal.ensures.fitting) }

pub returns-in-Ok-None-fitting_literal : goal.returns-in-Ok-None-fitting_literal
returns-in-Ok-None-fitting_literal g c = record { reading = too_large c.args.epoch.now (admitted c.args.steady g.T.WrittenValue.HAS_SRID) g.met.T.WrittenValue.exact c.args.text.now c.as_bytes.result.now c.in-Ok-Some.noted c.as_bytes.ensures.value (rw c.in-Ok-Some.field-0-is at c.in-Ok-Some.ensures.read) (rw c.as_slice.ensures.same at (sym c.is_long.ensures.value ∙ c.if-is_long.false)) (rw c.in-Ok-None-fitting_literal.field-0-is at c.in-Ok-None-fitting_literal.ensures.fitting) }
