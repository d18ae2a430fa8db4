use Rattle.mob_typing.specs.Names.{NameLists}
use Rattle.mob_scope.proofs.Entries.{any_bytes}
use Rattle.std.proofs.Common.{sym, ◌∙◌, ap}
use Rattle.mob_typing.proofs.names.Names.has_index.Goals as goal

pub returns : goal.returns
returns c = record { known = c.contains.ensures ∙ any_bytes c.args.name.now c.self.inside.indexes.keys _ (ap (λ (n : NameLists). n.indexes) (sym c.self.view_is)) }
