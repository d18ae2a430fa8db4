use Rattle.std.{specs.Vec.Iter.{into_iter_items, into_iter_len}, proofs.Common.{◌≡◌, [], ◌∷◌, ◌++◌, length}}
use Rattle.mob_ratio.specs.Ratio.{Ratio}
use Rattle.mob_slice.specs.Slices.{IsRisingInTime, AreNormal, value_at}
use Rattle.mob_lift.proofs.normal.normaliser.normal.Given as goal

abbrev pub invariant-loop-next : goal.invariant-loop-next
invariant-loop-next g l =
    let m = g.C.Course in
    record {
      goes : (goal.iterator-loop-next g).can_next l.next-iterator;
      ends : (goal.iterator-loop-next g).is_finite l.next-iterator;
      counted : into_iter_len l.next-iterator ≡ length (into_iter_items l.next-iterator);
      normal : AreNormal m.start_of m.end_of m.is_continued (l.done.items ++ l.last ∷ []);
      ordered : IsRisingInTime m.start_of m.end_of (l.last ∷ into_iter_items l.next-iterator);
      same : (t : Ratio) → value_at m.value_of (l.done.items ++ l.last ∷ into_iter_items l.next-iterator) t ≡ value_at m.value_of l.fn.slices.items t;
    }
