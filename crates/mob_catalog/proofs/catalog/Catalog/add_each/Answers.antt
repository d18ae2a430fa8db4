use Rattle.std.proofs.Common.{rules, ◌≡◌, ◌∙◌, ◌++◌, ◌∷◌, [], ap, sym, append_assoc}
use Rattle.mob_catalog.{specs.Catalogue.{with_row}, proofs.FirstRows.{all_more}}
use Rattle.mob_catalog.proofs.catalog.Catalog.add_each.Goals as goal

pub loop-left-preserved : goal.loop-left-preserved
loop-left-preserved c =
    let at = c.loop-left.invariant in
    let row = c.in-Some.row in
    let rest = c.next.new.self in
    let split : c.loop-left.left ≡ row ∷ rest = search rules in (
      at.0 ++ row ∷ [],
      at.1 ∙ ap (λ rows. at.0 ++ rows) split ∙ sym (append_assoc at.0 (row ∷ []) rest),
      c.in_ok-add_row.ensures.added ∙ ap (with_row c.args.table row) at.2 ∙ sym (all_more c.args.table at.0 row c.args.self.now),
    )
