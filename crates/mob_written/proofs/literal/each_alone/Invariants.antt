use Rattle.std.{specs.Vec.Iter.{into_iter_items, into_iter_len}, proofs.Common.{◌≡◌, ◌++◌, map, length}}
use Rattle.mob_written.specs.Literal.{alone}
use Rattle.mob_written.proofs.literal.each_alone.Given as goal

-- the sequences made so far, and those still to be made
abbrev pub invariant-loop-instant : goal.invariant-loop-instant
invariant-loop-instant g l = record {
  goes : (goal.iterator-loop-instant g).can_next l.instant-iterator;
  ends : (goal.iterator-loop-instant g).is_finite l.instant-iterator;
  counted : into_iter_len l.instant-iterator ≡ length (into_iter_items l.instant-iterator);
  together : l.sequences.items ++ map alone (into_iter_items l.instant-iterator) ≡ map alone l.fn.instants.items;
}
