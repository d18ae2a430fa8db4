use Rattle.std.{proofs.Common.{Some, sym, subst, ◌∙◌}, proofs.lemmas.Result.{err_from_is_err_and}}
use Rattle.mob_list.specs.Faults.{OnCause}
use Rattle.mob_slice.specs.Entries.{IsFirst}
use Rattle.mob_arith.{specs.Sql.Entries.{quotient_entries}, proofs.Zero.{not_nil}}
use Rattle.mob_arith.proofs.sql.line_arithmetic.frac_quotient.Goals as goal

pub over_const-requires : goal.over_const-requires
over_const-requires c = record { divides = not_nil c.in-Number.k c.is_nil.result c.is_nil.ensures.value c.if-is_nil.false }

pub returns-in_err-value : goal.returns-in_err-value
returns-in_err-value c =
    let p = err_from_is_err_and c.from_residual.result c.from_residual.ensures.1 in
    rw (p.1, p.2) (rw (c.in-MovingFrac.is, c.in-Number.is) (record { outcome = subst (λ nil. OnCause (λ f. IsFirst (quotient_entries nil c.in-MovingFrac.a c.in-Number.k) (Some f)) c.in_err-value.field-0.0) (sym c.if-is_nil.false ∙ c.is_nil.ensures.value) c.in_err-value.ensures.first }))
