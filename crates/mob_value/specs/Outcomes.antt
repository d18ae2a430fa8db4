-- The outcome of an operator.
use Rattle.std.specs.Prelude.{Option, Some, None, Result, MatchResult}
use Rattle.mob_list.{specs.Faults.{OnCause}, specs.declared.fault.Fault.{Fault}}
use Rattle.mob_slice.specs.declared.formula.Formula.{Formula}

-- A value with P if every part of every formula fits, else the formula of the first part that does
-- not. `first` holds of that formula, or of None if all fit. Nothing is asked of out of memory.
abbrev pub IsOutcome : {V : Type 0} → (V → Type 0) → (Option Formula → Type 0) → Result V (Fault Formula) → Type 0
IsOutcome P first r = MatchResult r (λ v. P v × first None) (OnCause (λ f. first (Some f)))
