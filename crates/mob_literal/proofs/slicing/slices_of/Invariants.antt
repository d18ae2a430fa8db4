use Rattle.std.{specs.Vec.Iter.{into_iter_items, into_iter_len}, proofs.Common.{◌≡◌, false, ◌∷◌, length}}
use Rattle.mob_slice.specs.CourseOf.{course_of}
use Rattle.mob_literal.specs.Slices.{made}
use Rattle.mob_scalar.proofs.Traversed.{with_list}
use Rattle.mob_literal.proofs.slicing.slices_of.Given as goal

-- the slices made so far, and those still to be made
abbrev pub invariant-loop-next : goal.invariant-loop-next
invariant-loop-next g l = record {
  goes : (goal.iterator-loop-next g).can_next l.next-iterator;
  ends : (goal.iterator-loop-next g).is_finite l.next-iterator;
  counted : into_iter_len l.next-iterator ≡ length (into_iter_items l.next-iterator);
  together : with_list l.slices.items (made (course_of g.C.Course g.C.Base.BaseValue.is_same) l.step l.level l.included (l.last ∷ into_iter_items l.next-iterator) l.upper_inc) ≡ made (course_of g.C.Course g.C.Base.BaseValue.is_same) l.step false l.fn.lower_inc l.fn.instants.items l.upper_inc;
}
