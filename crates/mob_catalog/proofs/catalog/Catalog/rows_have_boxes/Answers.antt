use Rattle.std.{specs.List.{AllByRecursion}, proofs.Common.{subst}}
use Rattle.mob_catalog.{specs.Catalogue.{Catalogue}, specs.Indexes.{HasBoxesOn, HasRowBoxes}, specs.Kept.{index_names_of}, proofs.OwnBoxes.{row_boxes}}
use Rattle.mob_catalog.proofs.catalog.Catalog.rows_have_boxes.Goals as goal

pub returns : goal.returns
returns c =
    let held = c.self.inside in
    let kept : Catalogue = record { store = held.store; heads = held.heads.items; indexed = held.indexed; index_names = index_names_of held.indexes.items } in
    record { boxes = subst HasRowBoxes c.self.view_is (subst (AllByRecursion (HasBoxesOn kept)) c.self.invariant.on (row_boxes kept held.indexes.items c.self.invariant.held)) }
