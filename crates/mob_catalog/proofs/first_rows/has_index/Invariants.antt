use Rattle.std.{specs.List.{AllByRecursion}, proofs.Common.{◌≡◌, take}}
use Rattle.mob_catalog.proofs.first_rows.has_index.Given as goal

abbrev pub invariant-loop-on : goal.invariant-loop-on
invariant-loop-on l = AllByRecursion (λ on. on.0 ≡ l.table → ⊥) (take l.on-index l.indexed)
