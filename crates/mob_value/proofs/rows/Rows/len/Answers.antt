use Rattle.std.proofs.Common.{rules, ◌≡◌, ◌∙◌, ap, sym, length}
use Rattle.mob_value.proofs.Cutting.{cut_count}
use Rattle.mob_value.proofs.rows.Rows.len.Goals as goal

pub returns : goal.returns
returns g c =
    let rows = c.self.inside in
    let own : c.len.result ≡ length rows.ends.items = search rules in
    record { count = own ∙ sym (cut_count 0 rows.ends.items rows.items.items) ∙ ap length c.self.view_is }
