use Rattle.mob_accept.proofs.Numbered.{typing_refuses_inside, wrong_names_are_at_sites, wrong_names_are_numbered, wrong_tokens_are_numbered}
use Rattle.mob_accept.proofs.laws.refusals_are_numbered.Goals as goal

pub returns : goal.returns
returns c = record { typing = typing_refuses_inside; names = wrong_names_are_numbered; sites = wrong_names_are_at_sites; tokens = wrong_tokens_are_numbered }
