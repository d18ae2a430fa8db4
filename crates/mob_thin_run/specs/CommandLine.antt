-- The command line of mobthin: two options that take one value each, a flag, no help and no
-- version.
use Rattle.std.specs.Prelude.{◌∷◌, [], List, codes}
use Rattle.clap.specs.Words.{App, Text}
use Rattle.mob_arguments.specs.Arguments.{IsDistance, IsEpoch, IsFlag, IsRequired, Takes, command_of, option_value}
use Rattle.mob_thin_run.specs.declared.settings.ThinSettings.{ThinSettings}

-- `mobthin --within D [--epoch DATE] [--wide]`
abbrev pub thin_command : App
thin_command = command_of (codes "mobthin") (codes "within" ∷ codes "epoch" ∷ []) (codes "wide" ∷ [])

-- the arguments are accepted and give these settings: the distance, the day of the epoch, and
-- whether numbers of any size are computed
pub record ThinSays (words : List Text) (settings : ThinSettings) : Type 0 where
  pub taken : Takes thin_command words
  pub distance : IsRequired IsDistance (option_value thin_command (codes "within") words) settings.within
  pub day : IsEpoch (option_value thin_command (codes "epoch") words) settings.epoch
  pub wide : IsFlag (option_value thin_command (codes "wide") words) settings.wide
