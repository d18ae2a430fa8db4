use Rattle.mob_typing.proofs.WalkedScripts.{operators_are_at_sites, typing_refuses_at_sites}
use Rattle.mob_typing.proofs.laws.places_are_sites.Goals as goal

pub returns : goal.returns
returns c = record { refusals = typing_refuses_at_sites; operators = operators_are_at_sites }
