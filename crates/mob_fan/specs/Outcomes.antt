-- The outcome of a range of work: its items in order, or its first fault.
use Rattle.std.specs.Prelude.{ℕ, ◌≤◌, List, ◌++◌, Result, Ok, Err}
use Rattle.mob_fan.{specs.declared.outcomes.Outcome.{Outcome}, specs.declared.outcomes.Outcome.TheVariants.{Items, Stop}}

-- an outcome as a list, or a fault
abbrev pub outcome_seen : {I F : Type 0} → Outcome I F → Result (List I) F
outcome_seen (Items items) = Ok items
outcome_seen (Stop fault) = Err fault

-- the outcome of two neighbouring ranges: the items of both in order, or the fault of the left one,
-- or else that of the right one
abbrev pub joined_outcomes : {I F : Type 0} → Result (List I) F → Result (List I) F → Result (List I) F
joined_outcomes (Ok items) (Ok others) = Ok (items ++ others)
joined_outcomes (Ok items) (Err fault) = Err fault
joined_outcomes (Err fault) other = Err fault

-- the outcome of a range is that of two neighbouring parts of it
pub record IsWork {W I F : Type 0} (size : W → ℕ) (comes : W → ℕ → ℕ → Result (List I) F → Type 0) : Type 0 where
  pub join : (w : W) (a b c : ℕ) (r s : Result (List I) F) → a ≤ b → b ≤ c → c ≤ size w → comes w a b r → comes w b c s → comes w a c (joined_outcomes r s)
