-- The conditions on the sequences of a temporal literal, and the value that they define.
use Rattle.std.specs.Prelude.{◌≡◌, ◌↔◌, ℕ, ◌+◌, ◌-◌, List, [], ◌∷◌, length, Contains, slice_get, Bool, true, false, ◌&&◌, ◌||◌, not, nat_lt, Option, Some, None, MatchOption, ℤ}
use Rattle.std.specs.List.{list_all}
use Rattle.mob_ratio.{specs.Ratio.{Ratio}, specs.Order.{before, up_to}}
use Rattle.mob_language.{specs.Language.{Text}, specs.Readers.{◌>>=◌}}
use Rattle.mob_slice.{specs.declared.slice.Slice.{Slice}, specs.declared.steady.Steady.{Steady}, specs.CourseOf.{CourseOf, steady_course}, specs.Slices.{value_at, IsNormal}}
use Rattle.mob_numeral.specs.Verdict.{TextForm}
use Rattle.mob_scalar.specs.Traverse.{traverse}
use Rattle.mob_written.{specs.declared.written.Written.{Written}, specs.declared.written.Noted.{Noted}, specs.declared.written.Sequence.{Sequence}, specs.declared.written.Literal.{Literal}}
use Rattle.mob_written.{specs.Neighbours.{all_neighbours}, specs.declared.written.Prefixes.{Prefixes}, specs.Prefix.{admitted}, specs.Literal.{noted, temporal}}
use Rattle.mob_literal.{specs.Sequences.{SequenceAt, is_step, rises}, specs.Slices.{arrives}}

-- the number of instants of the sequences
abbrev pub instant_count : {A : Type 0} → List (Sequence A) → ℕ
instant_count [] = 0
instant_count (q ∷ qs) = length q.instants + instant_count qs

-- more than 100,000 instants
abbrev pub is_over_limit : {A : Type 0} → List (Sequence A) → Bool
is_over_limit qs = nat_lt 100000 (instant_count qs)

-- the value at the instant, if both fit
abbrev pub written_of : {B : Type 0} → Noted B → Option (Written B)
written_of n = n.value >>= λ v. n.instant >>= λ t. Some (record { value = v; instant = t })

abbrev pub fitting_sequence : {B : Type 0} → Sequence (Noted B) → Option (Sequence (Written B))
fitting_sequence q = traverse written_of q.instants >>= λ is. Some (record { lower_inc = q.lower_inc; instants = is; upper_inc = q.upper_inc })

-- the sequences, if all their numbers fit
abbrev pub fitting_all : {B : Type 0} → List (Sequence (Noted B)) → Option (List (Sequence (Written B)))
fitting_all qs = traverse fitting_sequence qs

-- the course between the last two instants, if there are at least two, ends with the last value
abbrev pub ends_level : {C B : Type 0} → CourseOf C B → Bool → List (Written B) → Bool
ends_level course step [] = true
ends_level course step (i ∷ []) = true
ends_level course step (i ∷ j ∷ []) = arrives course step i.value j.value
ends_level course step (i ∷ j ∷ k ∷ is) = ends_level course step (j ∷ k ∷ is)

-- a single instant is included by both brackets
abbrev pub is_closed_alone : {A : Type 0} → Bool → Bool → List A → Bool
is_closed_alone lower_inc upper_inc [] = true
is_closed_alone lower_inc upper_inc (i ∷ []) = lower_inc && upper_inc
is_closed_alone lower_inc upper_inc (i ∷ j ∷ is) = true

-- A sequence is sound if the type has each of its values and its instants are strictly increasing.
-- A sequence of one instant includes both ends. Under step interpolation a sequence that excludes
-- its upper end has the same value at its last two instants.
abbrev pub is_sound_sequence : {C B : Type 0} → (B → Bool) → CourseOf C B → Bool → Sequence (Written B) → Bool
is_sound_sequence has_value course step q = list_all (λ i. has_value i.value) q.instants && (rises q.instants && (is_closed_alone q.lower_inc q.upper_inc q.instants && (q.upper_inc || ends_level course step q.instants)))

abbrev pub clear_ends : {B : Type 0} → Bool → Bool → Option (Written B) → Option (Written B) → Bool
clear_ends upper_inc lower_inc (Some i) (Some j) = before i.instant j.instant || (up_to i.instant j.instant && not (upper_inc && lower_inc))
clear_ends upper_inc lower_inc (Some i) None = false
clear_ends upper_inc lower_inc None j = false

-- q ends before r begins, or at the instant at which r begins if not both include it
abbrev pub is_before : {B : Type 0} → Sequence (Written B) → Sequence (Written B) → Bool
is_before q r = clear_ends q.upper_inc r.lower_inc (slice_get q.instants (length q.instants - 1)) (slice_get r.instants 0)

-- each sequence ends before the next one begins
abbrev pub are_in_order : {B : Type 0} → List (Sequence (Written B)) → Bool
are_in_order qs = all_neighbours is_before qs

abbrev pub is_sound : {C B : Type 0} → (B → Bool) → CourseOf C B → Bool → List (Sequence (Written B)) → Bool
is_sound has_value course step qs = are_in_order qs && list_all (is_sound_sequence has_value course step) qs

-- one of the sequences has the value v at t
pub record LitAt {C B : Type 0} (course : CourseOf C B) (step : Bool) (qs : List (Sequence (Written B))) (t : Ratio) (v : B) : Type 0 where
  pub by : Sequence (Written B)
  pub listed : Contains qs by
  pub at : SequenceAt course step by.lower_inc by.instants by.upper_inc t v

-- The slices are normal and have the values of the sequences at each instant, and no others.
pub record Defines {C B : Type 0} (course : CourseOf C B) (step : Bool) (qs : List (Sequence (Written B))) (slices : List (Slice C)) : Type 0 where
  pub normal : IsNormal course.start course.end course.continues slices
  pub same : (t : Ratio) (v : B) → (value_at course.value slices t ≡ Some v) ↔ LitAt course step qs t v

-- a literal, if all its numbers fit
abbrev pub fitting_literal : {B : Type 0} → Literal (Noted B) → Option (Literal (Written B))
fitting_literal s = fitting_all s.sequences >>= λ qs. Some (record { says_step = s.says_step; sequences = qs })

-- The literals, as written, of a temporal type that admits these prefixes, with instants counted
-- from a day and numbers that fit.
abbrev pub written_literals : {B : Type 0} → ℤ → Prefixes → (Text → Option B → Type 0) → TextForm (Literal (Noted B)) (Literal (Written B))
written_literals day prefixes value = record {
  shape = temporal prefixes (noted day value);
  long = λ s. is_over_limit s.sequences ≡ true;
  large = λ s. fitting_all s.sequences ≡ None;
  unsound = λ s. ⊥;
  means = λ s w. fitting_literal s ≡ Some w;
}

-- The literals of a temporal type, with or without `SRID=0;` before them, with instants counted
-- from a day.
abbrev pub literals : {C B : Type 0} → ℤ → Bool → (Text → Option B → Type 0) → (B → Bool) → CourseOf C B → TextForm (Literal (Noted B)) (List (Slice C))
literals day has_srid value has_value course = record {
  shape = temporal (admitted course.steady has_srid) (noted day value);
  long = λ s. is_over_limit s.sequences ≡ true;
  large = λ s. fitting_all s.sequences ≡ None;
  unsound = λ s. MatchOption (fitting_all s.sequences) ⊥ (λ qs. is_sound has_value course (is_step course.steady s.says_step) qs ≡ false);
  means = λ s v. MatchOption (fitting_all s.sequences) ⊥ (λ qs. Defines course (is_step course.steady s.says_step) qs v);
}

-- The literals of a step type.
abbrev pub steps : {B : Type 0} → ℤ → (Text → Option B → Type 0) → (B → Bool) → (B → B → Bool) → TextForm (Literal (Noted B)) (List (Slice (Steady B)))
steps day value has_value is_same = literals day false value has_value (steady_course is_same)
