-- Work with a size, and no other property.
use Rattle.std.specs.Prelude.{ℕ, List, Result}
use Rattle.mob_fan.specs.Outcomes.{IsWork}

-- any outcome of a range is allowed
abbrev pub AnyOutcome : {W : Type 0} → W → ℕ → ℕ → Result (List ℕ) ℕ → Type 0
AnyOutcome w from to r = Unit {0}

pub any_joins : {W : Type 0} (size : W → ℕ) → IsWork {W = W} {I = ℕ} {F = ℕ} size AnyOutcome
any_joins size = record { join = λ w a b c r s before behind within left right. tt }
