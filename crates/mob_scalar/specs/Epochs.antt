-- The form of epochs.
use Rattle.std.specs.Prelude.{◌≡◌, ℤ}
use Rattle.mob_scalar.{specs.declared.civil.Civil.{Civil}, specs.Calendar.{date, day_of}}
use Rattle.mob_numeral.specs.Verdict.{TextForm}

-- an epoch is written as a date, and its value is the number of the day
abbrev pub epochs : TextForm Civil ℤ
epochs = record {
  shape = date;
  long = λ c. ⊥;
  large = λ c. ⊥;
  unsound = λ c. ⊥;
  means = λ c day. day ≡ day_of c;
}
