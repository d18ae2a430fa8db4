use Rattle.mob_typing.proofs.WalkedScripts.{typing_gives_well_typed, typing_keeps_names_apart}
use Rattle.mob_typing.proofs.laws.scripts_are_well_typed.Goals as goal

pub returns : goal.returns
returns c = record { typed = typing_gives_well_typed; names = typing_keeps_names_apart }
