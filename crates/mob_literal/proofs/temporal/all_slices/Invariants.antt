use Rattle.std.{specs.Vec.Iter.{into_iter_items, into_iter_len}, proofs.Common.{◌≡◌, length}}
use Rattle.mob_slice.specs.CourseOf.{course_of}
use Rattle.mob_literal.specs.Flat.{made_all}
use Rattle.mob_scalar.proofs.Traversed.{with_list}
use Rattle.mob_literal.proofs.temporal.all_slices.Given as goal

-- the slices made so far, and those still to be made
abbrev pub invariant-loop-sequence : goal.invariant-loop-sequence
invariant-loop-sequence g l = record {
  goes : (goal.iterator-loop-sequence g).can_next l.sequence-iterator;
  ends : (goal.iterator-loop-sequence g).is_finite l.sequence-iterator;
  counted : into_iter_len l.sequence-iterator ≡ length (into_iter_items l.sequence-iterator);
  together : with_list l.all.items (made_all g.T.WrittenValue.has_value (course_of g.C.Course g.T.Base.BaseValue.is_same) l.step (into_iter_items l.sequence-iterator)) ≡ made_all g.T.WrittenValue.has_value (course_of g.C.Course g.T.Base.BaseValue.is_same) l.step l.fn.sequences.items;
}
