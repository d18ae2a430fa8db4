use Rattle.std.proofs.Common.{sym, ap}
use Rattle.mob_typing.specs.Names.{NameLists}
use Rattle.mob_scope.proofs.Entries.{new_last}
use Rattle.mob_typing.proofs.names.Names.add_table.Goals as goal

pub returns-clause-last : goal.returns-clause-last
returns-clause-last c = new_last _ _ _ _ _ _ (ap (λ (n : NameLists). n.tables) (sym c.self.view_is)) c.in_ok-from_str.ensures.ok c.requires.absent c.in_ok-insert.ensures.entries
