-- The faults of an operator, and of an expression.
use Rattle.std.specs.Prelude.{ℕ, Result, Ok, Err}
use Rattle.mob_list.{specs.Faults.{OnCause}, specs.declared.fault.Fault.{Fault}}
use Rattle.mob_value.{specs.declared.value.Value.{Value}, specs.declared.held.Held.{Held}, specs.Held.{held}}
use Rattle.mob_slice.specs.declared.formula.Formula.{Formula}

-- what holds of the outcome of an evaluation; nothing is asked of out of memory
abbrev pub Says : (Result Value (ℕ × Formula) → Type 0) → Result Held (Fault (ℕ × Formula)) → Type 0
Says P (Ok h) = P (Ok (held h))
Says P (Err f) = OnCause (λ g. P (Err g)) f
