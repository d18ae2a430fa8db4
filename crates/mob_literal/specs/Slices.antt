-- The slices of a sequence.
use Rattle.std.specs.Prelude.{List, [], ◌∷◌, Bool, true, false, cond, Option, Some, None, option_map}
use Rattle.mob_ratio.specs.Order.{before}
use Rattle.mob_slice.{specs.declared.slice.Slice.{Slice}, specs.CourseOf.{CourseOf}}
use Rattle.mob_written.specs.declared.written.Written.{Written}

-- the course from one written value to the next; under step interpolation it is constant
abbrev pub drawn : {C B : Type 0} → CourseOf C B → Bool → B → B → C
drawn course step a b = cond step (course.make a a) (course.make a b)

-- the course from the value a to the value b ends with b
abbrev pub arrives : {C B : Type 0} → CourseOf C B → Bool → B → B → Bool
arrives course step a b = cond step (course.is_same a b) true

-- the slice from one written instant to the next
abbrev pub stretch : {C B : Type 0} → CourseOf C B → Bool → Bool → Written B → Written B → Slice C
stretch course step lower_inc i j = record { span = record { lower = i.instant; upper = j.instant; lower_inc = lower_inc; upper_inc = false }; course = drawn course step i.value j.value }

-- the slice of a single written instant
abbrev pub instant_slice : {C B : Type 0} → CourseOf C B → Bool → Written B → Slice C
instant_slice course lower_inc i = record { span = record { lower = i.instant; upper = i.instant; lower_inc = lower_inc; upper_inc = true }; course = course.make i.value i.value }

-- a slice from each instant to the next, and one for the last instant if it is included
abbrev pub slices_of : {C B : Type 0} → CourseOf C B → Bool → Bool → List (Written B) → Bool → List (Slice C)
slices_of course step lower_inc [] upper_inc = []
slices_of course step lower_inc (i ∷ []) upper_inc = cond upper_inc (instant_slice course lower_inc i ∷ []) []
slices_of course step lower_inc (i ∷ j ∷ is) upper_inc = stretch course step lower_inc i j ∷ slices_of course step true (j ∷ is) upper_inc

-- The slices of a sequence if it is sound: its instants are strictly increasing, a sequence of one
-- instant includes both ends, and in one without its upper end the last course ends with the last
-- value. None if it is unsound. `level` says whether the course before the first instant ends with
-- the value there.
abbrev pub made : {C B : Type 0} → CourseOf C B → Bool → Bool → Bool → List (Written B) → Bool → Option (List (Slice C))
made course step level lower_inc [] upper_inc = Some []
made course step level lower_inc (i ∷ []) upper_inc = cond upper_inc (cond lower_inc (Some (instant_slice course lower_inc i ∷ [])) None) (cond level (Some []) None)
made course step level lower_inc (i ∷ j ∷ is) upper_inc = cond (before i.instant j.instant) (option_map (λ slices. stretch course step lower_inc i j ∷ slices) (made course step (arrives course step i.value j.value) true (j ∷ is) upper_inc)) None
