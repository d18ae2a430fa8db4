-- The command line of mobnear: three options that take one value each, a flag, no help and no
-- version.
use Rattle.std.{specs.Prelude.{◌∷◌, [], ◌≡◌, ◌==◌, List, Some, Ok, codes, cond}, specs.List.{list_any}}
use Rattle.clap.specs.Words.{App, Text}
use Rattle.mob_ast.specs.declared.types.SqlType.{SqlType}
use Rattle.mob_value.specs.declared.value.Value.{Value}
use Rattle.mob_literal.specs.SqlText.{SaysAs}
use Rattle.mob_arguments.specs.Arguments.{IsCount, IsEpoch, IsFlag, IsRequired, Takes, command_of, option_value}
use Rattle.mob_near_run.{specs.declared.settings.NearSettings.{NearSettings}, specs.declared.settings.Target.{Target}, specs.declared.settings.Target.TheVariants.{Moving, Fixed}}
use Rattle.mob_ast.specs.declared.types.SqlType.TheVariants as sql
use Rattle.mob_value.specs.declared.value.Value.TheVariants as value

-- `mobnear --k K --to TEXT [--epoch DATE] [--wide]`
abbrev pub near_command : App
near_command = command_of (codes "mobnear") (codes "k" ∷ codes "to" ∷ codes "epoch" ∷ []) (codes "wide" ∷ [])

-- a text with an `@` is read as a tgeompoint, every other one as a point
abbrev pub target_type : Text → SqlType
target_type text = cond (list_any (λ b. b == 64) text) sql.TPoint sql.Point

abbrev pub target_value : Target → Value
target_value (Moving v) = value.MovingPoint v
target_value (Fixed p) = value.Point p

-- the arguments are accepted and give these settings: how many rows, from 1 to 1000, the day of the
-- epoch, the target, and whether approaches of any size are computed
pub record NearSays (words : List Text) (settings : NearSettings) : Type 0 where
  pub taken : Takes near_command words
  pub count : IsRequired (IsCount 1000) (option_value near_command (codes "k") words) settings.k
  pub day : IsEpoch (option_value near_command (codes "epoch") words) settings.epoch
  pub text : Text
  pub to : option_value near_command (codes "to") words ≡ Some text
  pub says : SaysAs (target_type text) settings.epoch text (Ok (target_value settings.to))
  pub wide : IsFlag (option_value near_command (codes "wide") words) settings.wide
