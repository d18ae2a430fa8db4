use Rattle.std.proofs.Common.{sym}
use Rattle.mob_scope.proofs.Entries.{new_last}
use Rattle.mob_scope.proofs.column_list.Columns.add.Goals as goal

pub returns-clause-last : goal.returns-clause-last
returns-clause-last c = new_last _ _ _ _ _ _ (sym c.self.view_is) c.in_ok-from_str.ensures.ok c.requires.absent c.in_ok-insert.ensures.entries
