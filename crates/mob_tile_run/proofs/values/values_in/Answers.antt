use Rattle.std.proofs.Common.{◌∙◌, codes}
use Rattle.mob_tile_run.proofs.Facts.{command_is_free}
use Rattle.mob_tile_run.proofs.values.values_in.Goals as goal

pub given-requires : goal.given-requires
given-requires c = record { free = command_is_free }

pub returns-in_default-clause-refused : goal.returns-in_default-clause-refused
returns-in_default-clause-refused c = (rw c.in_default.is at c.in_ok-matches.ensures.refused)

pub returns-clause-size : goal.returns-clause-size
returns-clause-size c = c.get_str.ensures ∙ (rw c.in-Some.is at c.in_ok-matches.ensures.values) (codes "size")

pub returns-clause-width : goal.returns-clause-width
returns-clause-width c = c.get_str-2.ensures ∙ (rw c.in-Some.is at c.in_ok-matches.ensures.values) (codes "width")

pub returns-clause-near : goal.returns-clause-near
returns-clause-near c = c.get_str-3.ensures ∙ (rw c.in-Some.is at c.in_ok-matches.ensures.values) (codes "near")

pub returns-clause-workers : goal.returns-clause-workers
returns-clause-workers c = c.get_str-4.ensures ∙ (rw c.in-Some.is at c.in_ok-matches.ensures.values) (codes "workers")

pub returns-clause-epoch : goal.returns-clause-epoch
returns-clause-epoch c = c.get_str-5.ensures ∙ (rw c.in-Some.is at c.in_ok-matches.ensures.values) (codes "epoch")
