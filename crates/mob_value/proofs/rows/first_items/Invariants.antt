use Rattle.std.proofs.Common.{◌≡◌, drop, take}
use Rattle.mob_value.proofs.rows.first_items.Given as goal

abbrev pub invariant-loop-place : goal.invariant-loop-place
invariant-loop-place g l = record {
  taken : l.taken.items ≡ take l._place l.fn.items.items;
  left : l.items.items ≡ drop l._place l.fn.items.items;
}
