-- Arguments of the programs, whose options each take one value or none: which arguments a command
-- takes, and what values mean.
use Rattle.std.specs.Prelude.{◌≡◌, ◌≤◌, ◌++◌, ◌↔◌, ℕ, ℤ, Bool, List, [], Option, Some, None, Ok, codes, decimal, map, true}
use Rattle.clap.{specs.Words.{App, Rule, Text, fault_of, first_of, matches_of, new_app, new_rule}, specs.declared.builder.action.ArgAction.TheVariants.{SetTrue}}
use Rattle.mob_ratio.{specs.Ratio.{Ratio}, specs.Order.{up_to}, specs.Sign.{nil}}
use Rattle.mob_numeral.{specs.Numbers.{numbers}, specs.Verdict.{Lit}}
use Rattle.mob_scalar.{specs.Calendar.{standard_day}, specs.Epochs.{epochs}}

-- ---- what a command takes

-- the option `--NAME VALUE`
abbrev pub option : Text → Rule
option name = record (new_rule name) { long = Some name }

-- the flag `--NAME`: an option without a value
abbrev pub flag : Text → Rule
flag name = record (option name) { action = Some SetTrue }

-- the command without the two options that `clap` adds itself
abbrev pub without_flags : App → App
without_flags a = record a { top = record a.top { disable_help_flag = true; disable_version_flag = true } }

-- the command of this name with these options, which take one value each, these flags, and no
-- others
unfoldable pub command_of : Text → List Text → List Text → App
command_of name options flags = let bare = without_flags (new_app name) in record bare { top = record bare.top { rules = map option options ++ map flag flags } }

-- the command takes these arguments, the program's name first
unfoldable pub Takes : App → List Text → Type 0
Takes command words = fault_of command words ≡ []

-- the value that the arguments give to an option of the command; a flag has the value `true` if it
-- is given, else `false`
unfoldable pub option_value : App → Text → List Text → Option Text
option_value command name words = first_of name (matches_of command words)

-- ---- what values mean

-- a required option
module _ {A : Type 0} where
  abbrev pub IsRequired : (Text → A → Type 0) → Option Text → A → Type 0
  IsRequired Says None said = ⊥
  IsRequired Says (Some text) said = Says text said

-- an optional option
module _ {A : Type 0} where
  abbrev pub IsOptional : (Text → A → Type 0) → Option Text → Option A → Type 0
  IsOptional Says None o = o ≡ None
  IsOptional Says (Some text) o = (said : A) × (o ≡ Some said) × Says text said

-- whether a flag is given
abbrev pub IsFlag : Option Text → Bool → Type 0
IsFlag value given = (value ≡ Some (codes "true")) ↔ (given ≡ true)

-- a whole number from 1 to the greatest allowed, in decimal digits, without a sign or a leading
-- zero
abbrev pub IsCount : ℕ → Text → ℕ → Type 0
IsCount most text n = (text ≡ decimal n) × (1 ≤ n) × (n ≤ most)

-- a distance: a number, written like a literal of type numeric, that is not negative
abbrev pub IsDistance : Text → Ratio → Type 0
IsDistance text d = Lit numbers text (Ok d) × (up_to nil d ≡ true)

-- the number of workers: from 1 to 64; 1 without a value
abbrev pub IsWorkers : Option Text → ℕ → Type 0
IsWorkers None n = n ≡ 1
IsWorkers (Some text) n = IsCount 64 text n

-- the number of the epoch's day: that of an existing date of the years 0001 to 9999; 2000-01-01
-- without a value
abbrev pub IsEpoch : Option Text → ℤ → Type 0
IsEpoch None day = day ≡ standard_day
IsEpoch (Some text) day = Lit epochs text (Ok day)
