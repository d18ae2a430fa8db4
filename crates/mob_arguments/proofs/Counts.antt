-- A value that is not a number of ships gives no demo.
use Rattle.std.proofs.Common.{ℕ, Option, Some}
use Rattle.clap.specs.Words.{Text}
use Rattle.mob_arguments.{specs.Arguments.{IsCount}, specs.CommandLine.{IsDemo}}

pub no_ships : (text : Text) → ((n : ℕ) → IsCount 1000 text n → ⊥) → (demo : Option ℕ) → IsDemo (Some text) demo → ⊥
no_ships text none demo says = none says.0 says.2
