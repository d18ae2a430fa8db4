use Rattle.std.proofs.Common.{◌≡◌, ◌++◌, List, length}
use Rattle.mob_value.specs.declared.value.Value.{Value}
use Rattle.mob_catalog.specs.Catalogue.{with_all_rows}
use Rattle.mob_catalog.proofs.catalog.Catalog.add_each.Given as goal

abbrev pub invariant-loop-left : goal.invariant-loop-left
invariant-loop-left l = (first : List (List Value)) × (l.fn.rows ≡ first ++ l.left) × (l.self ≡ with_all_rows l.table first l.fn.self)

abbrev pub decreases-loop-left : goal.decreases-loop-left
decreases-loop-left l = length l.left
