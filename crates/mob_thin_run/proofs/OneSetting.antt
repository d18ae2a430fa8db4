-- The arguments of a command line give one record of settings.
use Rattle.std.specs.Prelude.{◌≡◌, List, ℕ, codes}
use Rattle.mob_arguments.{specs.Arguments.{IsDistance, option_value}, proofs.Readings.{one_day, one_distance, one_flag, one_required}}
use Rattle.mob_thin_run.{specs.CommandLine.{ThinSays, thin_command}, specs.declared.settings.ThinSettings.{ThinSettings}}

same_settings : (a b : ThinSettings) → a.within ≡ b.within → a.epoch ≡ b.epoch → a.wide ≡ b.wide → a ≡ b
same_settings a b e f g = λ i. record { within = e i; epoch = f i; wide = g i }

pub one_setting : (words : List (List ℕ)) (a b : ThinSettings) → ThinSays words a → ThinSays words b → a ≡ b
one_setting words a b h k = same_settings a b (one_required IsDistance one_distance (option_value thin_command (codes "within") words) a.within b.within h.distance k.distance) (one_day (option_value thin_command (codes "epoch") words) a.epoch b.epoch h.day k.day) (one_flag (option_value thin_command (codes "wide") words) a.wide b.wide h.wide k.wide)
