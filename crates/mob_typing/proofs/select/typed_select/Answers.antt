use Rattle.std.proofs.Common.{◌∙◌, sym, ap, [], map}
use Rattle.mob_ast.specs.Trees.{from_of}
use Rattle.mob_typing.specs.Selects.{from_tables}
use Rattle.mob_typing.proofs.select.typed_select.Goals as goal

pub returns : goal.returns
returns c =
    let named = ap (λ fs. from_tables c.args.names.now.tables [] (map from_of fs)) (sym c.as_slice.ensures.same) ∙ c.in_ok-from.ensures.named in
    record { typed = rw (named, sym c.deref.ensures.value) c.typed_clauses.ensures.typed }
