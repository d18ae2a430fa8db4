-- The arguments of a command line have one meaning.
use Rattle.std.specs.Prelude.{◌≡◌, List}
use Rattle.clap.specs.Words.{Text}
use Rattle.mob_arguments.{specs.CommandLine.{WordsSay}, specs.declared.options.Settings.{Settings}}

-- they give one record of settings
abbrev pub SaysOneThing : Type 0
SaysOneThing = (words : List Text) (a b : Settings) → WordsSay words a → WordsSay words b → a ≡ b
