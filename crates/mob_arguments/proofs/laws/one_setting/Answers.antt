use Rattle.mob_arguments.proofs.OneSetting.{one_setting}
use Rattle.mob_arguments.proofs.laws.one_setting.Goals as goal

pub returns : goal.returns
returns c = record { setting = one_setting }
