-- An index that holds the entries of its rows has a box for each of them.
use Rattle.std.{specs.List.{AllByRecursion}, specs.Prelude.{◌≡◌}, proofs.Common.{List, [], ◌∷◌, ℕ, Option, Some, map}}
use Rattle.mob_list.proofs.Each.{each_map}
use Rattle.mob_rtree_nodes.specs.Tree.{EntryOf}
use Rattle.mob_value.{specs.declared.value.Value.{Value}, specs.declared.value.Value.TheVariants.{MovingPoint}}
use Rattle.mob_catalog.{specs.Catalogue.{Catalogue, live_rows}, specs.Indexes.{AreEntries, HasBoxesOn, HasOwnBox, IndexHolds, OnWay, table_value}, specs.declared.indexes.TableIndex.{TableIndex}}

row_box : (o : Option Value) (row : ℕ) (value : ℕ → Option Value) (rows : List ℕ) (entries : List EntryOf) → ((es : List EntryOf) → AreEntries value rows es → AllByRecursion (λ r. HasOwnBox (value r)) rows)
    → OnWay o (λ b. (rest : List EntryOf) × (entries ≡ (b, row) ∷ rest) × AreEntries value rows rest) (AreEntries value rows entries) → HasOwnBox o × AllByRecursion (λ r. HasOwnBox (value r)) rows
row_box (Some (MovingPoint a)) row value rows entries go h = ((h.0, h.1, tt), go h.2.0 h.2.2)
row_box _ row value rows entries go h = (tt, go entries h)

boxes_of : (value : ℕ → Option Value) (rows : List ℕ) (entries : List EntryOf) → AreEntries value rows entries → AllByRecursion (λ r. HasOwnBox (value r)) rows
boxes_of value [] entries h = tt
boxes_of value (row ∷ rows) entries h = row_box (value row) row value rows entries (λ es. boxes_of value rows es) h

pub row_boxes : (c : Catalogue) (indexes : List TableIndex) → AllByRecursion (λ (i : TableIndex). IndexHolds c i.on i.tree.entries) indexes → AllByRecursion (HasBoxesOn c) (map (λ (i : TableIndex). i.on) indexes)
row_boxes c = each_map (λ (i : TableIndex). IndexHolds c i.on i.tree.entries) (HasBoxesOn c) (λ (i : TableIndex). i.on) (λ i h. boxes_of (table_value c.store.tables i.on.0 i.on.1) (live_rows c i.on.0) h.0 h.1)
