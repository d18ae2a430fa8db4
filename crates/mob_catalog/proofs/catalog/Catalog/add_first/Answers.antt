use Rattle.std.proofs.Common.{◌≡◌, ◌∙◌, ◌<◌, refl, ap, subst, sym, length, arith}
use Rattle.mob_catalog.{specs.Catalogue.{Catalogue, rows_put, with_all_rows, with_changed}, specs.Kept.{IsKeptTogether, IsUnused, index_names_of, numbers_from, with_live_rows}}
use Rattle.mob_catalog.{proofs.FirstRows.{all_at_once, kept_all}, proofs.Together.{catalogue_of}}
use Rattle.mob_catalog.proofs.catalog.Catalog.add_first.Goals as goal

before : goal.After-set_live → Catalogue
before c = let i = c.self.inside in catalogue_of i.store.tables i.store.consts i.heads.items i.indexed (index_names_of i.indexes.items)

after : goal.After-set_live → Catalogue
after c = let i = c.self.inside in catalogue_of c.set_rows.new.tables i.store.consts c.set_live.new.heads.items i.indexed (index_names_of i.indexes.items)

unused : (c : goal.After-set_live) → IsUnused c.args.table (before c)
unfolding before
unused c = subst (IsUnused c.args.table) (sym c.self.view_is) c.requires.unused

all_put : (c : goal.After-set_live) → after c ≡ with_all_rows c.args.table c.args.rows (before c)
unfolding before after
all_put c =
    let i = c.self.inside in
    let n = c.args.table in
    let rows = c.args.rows in
    let live = c.in_ok-live.ensures.numbers ∙ ap (numbers_from 0) c.len.ensures.count ∙ ap (λ k. numbers_from k (length rows)) (sym (unused c).no_row) in
    let heads : c.set_live.new.heads.items ≡ with_changed n (with_live_rows (numbers_from (rows_put n i.store.tables) (length rows))) i.heads.items =
    c.set_live.ensures.put ∙ ap (λ ns. with_changed n (with_live_rows ns) i.heads.items) live in
    all_at_once n rows (before c) (after c) (unused c).there c.set_rows.ensures.put heads refl refl refl

pub invariant_of-self : goal.invariant_of-self
unfolding before after
invariant_of-self c =
    let i = c.self.inside in
    let there : c.args.table < length i.heads.items = omega (arith, (unused c).there, c.self.invariant.heads) in
    subst (λ k. IsKeptTogether k i.indexes.items) (sym (all_put c)) (kept_all c.args.table i.indexes.items c.args.rows (before c) (unused c).no_index there c.self.invariant)

pub returns : goal.returns
unfolding before after
returns c = record { added = all_put c ∙ ap (with_all_rows c.args.table c.args.rows) c.self.view_is; unchanged = tt }
