use Rattle.std.proofs.Common.{rules, ◌≡◌, ◌∙◌, ◌==◌, ap, sym, length}
use Rattle.mob_value.proofs.Cutting.{cut_count}
use Rattle.mob_value.proofs.rows.Rows.is_empty.Goals as goal

pub returns : goal.returns
returns g c =
    let rows = c.self.inside in
    let own : c.is_empty.result ≡ (length rows.ends.items == 0) = search rules in
    record { empty = own ∙ ap (λ n. n == 0) (sym (cut_count 0 rows.ends.items rows.items.items) ∙ ap length c.self.view_is) }
