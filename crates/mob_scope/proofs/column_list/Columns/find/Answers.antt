use Rattle.std.proofs.Common.{sym, ◌∙◌}
use Rattle.mob_scope.proofs.Entries.{entry_there, entry_missing}
use Rattle.mob_scope.proofs.column_list.Columns.find.Goals as goal

pub returns-in_err-index : goal.returns-in_err-index
returns-in_err-index c = record { first = c.from_residual.ensures ∙ entry_missing c.args.name.now c.self.inside.types.entries _ (sym c.self.view_is) c.in_err-index.ensures.index }

pub returns : goal.returns
returns c = record { first = entry_there c.args.name.now c.self.inside.types.entries _ _ _ (sym c.self.view_is) c.in_ok-index.ensures.index c.in_ok-index.ensures.value }
