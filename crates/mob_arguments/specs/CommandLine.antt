-- The command line of mobsql: three options that take one value each, a flag, no help and no
-- version.
use Rattle.std.specs.Prelude.{◌∷◌, [], ℕ, List, Option, codes}
use Rattle.clap.specs.Words.{App, Text}
use Rattle.mob_arguments.{specs.Arguments.{IsCount, IsEpoch, IsFlag, IsOptional, IsWorkers, Takes, command_of, option_value}, specs.declared.options.Settings.{Settings}}

-- `mobsql [--workers N] [--epoch DATE] [--demo N] [--wide]`
abbrev pub command : App
command = command_of (codes "mobsql") (codes "workers" ∷ codes "epoch" ∷ codes "demo" ∷ []) (codes "wide" ∷ [])

-- the number of ships of the demo: from 1 to 1000; without a value there is no demo
abbrev pub IsDemo : Option Text → Option ℕ → Type 0
IsDemo value demo = IsOptional (IsCount 1000) value demo

-- the arguments are accepted and give these settings: the number of workers, the day of the epoch,
-- the demo, and whether numbers of any size are computed
pub record WordsSay (words : List Text) (settings : Settings) : Type 0 where
  pub taken : Takes command words
  pub count : IsWorkers (option_value command (codes "workers") words) settings.workers
  pub day : IsEpoch (option_value command (codes "epoch") words) settings.epoch
  pub demo : IsDemo (option_value command (codes "demo") words) settings.demo
  pub wide : IsFlag (option_value command (codes "wide") words) settings.wide
