-- The slices of sequences.
use Rattle.std.{specs.Prelude.{List, [], ◌∷◌, ◌++◌, Bool, false, cond, Option, Some, None}, specs.List.{list_all}}
use Rattle.mob_language.specs.Readers.{◌>>=◌}
use Rattle.mob_slice.{specs.declared.slice.Slice.{Slice}, specs.CourseOf.{CourseOf}}
use Rattle.mob_written.{specs.declared.written.Written.{Written}, specs.declared.written.Sequence.{Sequence}}
use Rattle.mob_literal.specs.Slices.{made}

-- the slices of one sequence, if it is sound
abbrev pub made_sequence : {C B : Type 0} → (B → Bool) → CourseOf C B → Bool → Sequence (Written B) → Option (List (Slice C))
made_sequence has_value course step q = cond (list_all (λ i. has_value i.value) q.instants) (made course step false q.lower_inc q.instants q.upper_inc) None

-- the slices of all sequences, if each is sound
abbrev pub made_all : {C B : Type 0} → (B → Bool) → CourseOf C B → Bool → List (Sequence (Written B)) → Option (List (Slice C))
made_all has_value course step [] = Some []
made_all has_value course step (q ∷ qs) = made_sequence has_value course step q >>= λ slices. made_all has_value course step qs >>= λ rest. Some (slices ++ rest)
