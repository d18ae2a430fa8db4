use Rattle.std.{specs.List.{AllByRecursion}, proofs.Common.{◌≡◌, take, true}}
use Rattle.mob_ratio.specs.Order.{up_to}
use Rattle.mob_knn.proofs.scan.place_of.Given as goal

abbrev pub invariant-loop-row : goal.invariant-loop-row
invariant-loop-row l = record {
  count : l.place ≡ l.row-index;
  behind : AllByRecursion (λ r. up_to r.1 l.m ≡ true) (take l.place l.rows);
}
