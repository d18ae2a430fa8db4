use Rattle.std.{specs.Vec.Iter.{into_iter_items, into_iter_len}, proofs.Common.{◌≡◌, ◌++◌, [], length}}
use Rattle.mob_groups.proofs.Numbers.{with_keys, numbers_on}
use Rattle.mob_groups.proofs.numbering.numbered.Given as goal

abbrev pub invariant-loop-key : goal.invariant-loop-key
invariant-loop-key g l = record {
  goes : (goal.iterator-loop-key g).can_next l.key-iterator;
  ends : (goal.iterator-loop-key g).is_finite l.key-iterator;
  counted : into_iter_len l.key-iterator ≡ length (into_iter_items l.key-iterator);
  numbers : l.numbers.items ++ numbers_on g.K.PartialEq.eq l.firsts.keys (into_iter_items l.key-iterator) ≡ numbers_on g.K.PartialEq.eq [] l.fn.keys.items;
  keys : with_keys g.K.PartialEq.eq l.firsts.keys (into_iter_items l.key-iterator) ≡ with_keys g.K.PartialEq.eq [] l.fn.keys.items;
}
