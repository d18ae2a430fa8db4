use Rattle.std.{specs.List.{AllByRecursion}, proofs.Common.{◌≡◌, ◌∙◌, ◌<◌, ap, sym, subst, get_or, length, ℕ, List, true}}
use Rattle.mob_typed.{specs.Selects.{select_seen}, specs.Written.{Rises}}
use Rattle.mob_list.specs.Live.{is_among}
use Rattle.mob_catalog.specs.Catalogue.{live_rows}
use Rattle.mob_join.specs.Deleted.{first_rows}
use Rattle.mob_shell.{specs.Deletes.{deleted_table}, proofs.DeletedRows.{kept_can_go}}
use Rattle.mob_shell.proofs.statements.deleting.take_away.Goals as goal

pub delete_rows-requires : goal.delete_rows-requires
delete_rows-requires c =
    let q = select_seen c.args.select.now in
    let can = kept_can_go q c.args.catalog.now c.args.terms.now c.args.kept c.requires.typed c.requires.one c.requires.kept in
    let gone : c.as_slice-3.result.now ≡ first_rows c.args.kept = c.as_slice-3.ensures.value ∙ c.in_ok-rows.ensures.rows ∙ ap first_rows c.as_slice.ensures.same in
    let table : get_or c.as_slice-2.result.now 0 0 ≡ deleted_table q = ap (λ (ts : List ℕ). get_or ts 0 0) c.as_slice-2.ensures.same in
    record {
      there = subst (λ t. t < length c.args.catalog.now.heads) (sym table) can.there;
      rising = subst (Rises (λ (m n : ℕ). m < n)) (sym gone) can.rising;
      live = subst (λ t. AllByRecursion (λ n. is_among n (live_rows c.args.catalog.now t) ≡ true) c.as_slice-3.result.now) (sym table)
          (subst (AllByRecursion (λ n. is_among n (live_rows c.args.catalog.now (deleted_table q)) ≡ true)) (sym gone) can.live);
    }
