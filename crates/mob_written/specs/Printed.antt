-- The printed text of a temporal value.
--
-- Neighbouring slices print as one group if the next one contains the instant at which they meet
-- and, unless the courses of the type are steady, begins with the value at which the one before
-- ends. Otherwise the text would say that a slice goes on to the start of the next one. A group
-- prints the start of each of its slices between brackets and, if its last slice is longer than an
-- instant, the end of that slice. A printed text has no prefix. A value of one instant prints as
-- that instant alone, a value of single instants as a set in braces, a value of one group as that
-- group, and every other value as its groups in braces.
use Rattle.std.{specs.Prelude.{List, [], ◌∷◌, ◌++◌, map, codes, Bool, ◌&&◌, ◌||◌, not, cond}, specs.List.{list_all}}
use Rattle.mob_ratio.{specs.Ratio.{Ratio}, specs.Order.{before, same}}
use Rattle.mob_language.specs.Language.{Text}
use Rattle.mob_scalar.specs.Brackets.{with_commas, in_braces}
use Rattle.mob_slice.{specs.declared.slice.Slice.{Slice}, specs.CourseOf.{CourseOf}}

-- how values and moments print, and the courses of the values
pub record Style (C B : Type 0) : Type 0 where
  pub course : CourseOf C B
  pub value_text : B → Text
  pub moment_text : Ratio → Text

abbrev pub instant_text : {C B : Type 0} → Style C B → B → Ratio → Text
instant_text style v t = style.value_text v ++ codes "@" ++ style.moment_text t

-- the slice is longer than an instant
abbrev pub is_long : {C : Type 0} → Slice C → Bool
is_long s = before s.span.lower s.span.upper

-- d begins with the value at which c ends; steady courses always pass
abbrev pub takes_up : {C B : Type 0} → CourseOf C B → C → C → Bool
takes_up course c d = course.steady || course.is_same (course.end c) (course.start d)

-- s and r meet, r contains the instant at which they do, and their courses join there
abbrev pub shares_group : {C B : Type 0} → CourseOf C B → Slice C → Slice C → Bool
shares_group course s r = same s.span.upper r.span.lower && (r.span.lower_inc && not s.span.upper_inc) && takes_up course s.course r.course

-- a slice before the groups: in the first group if that group continues it, else in a group of its
-- own
abbrev pub put_in_group : {C B : Type 0} → CourseOf C B → Slice C → List (List (Slice C)) → List (List (Slice C))
put_in_group course s [] = (s ∷ []) ∷ []
put_in_group course s ([] ∷ groups) = (s ∷ []) ∷ groups
put_in_group course s ((r ∷ rest) ∷ groups) = cond (shares_group course s r) ((s ∷ r ∷ rest) ∷ groups) ((s ∷ []) ∷ (r ∷ rest) ∷ groups)

-- the groups of neighbouring slices
abbrev pub neighbour_groups : {C B : Type 0} → CourseOf C B → List (Slice C) → List (List (Slice C))
neighbour_groups course [] = []
neighbour_groups course (s ∷ rest) = put_in_group course s (neighbour_groups course rest)

abbrev pub start_text : {C B : Type 0} → Style C B → Slice C → Text
start_text style s = instant_text style (style.course.start s.course) s.span.lower

abbrev pub end_text : {C B : Type 0} → Style C B → Slice C → Text
end_text style s = instant_text style (style.course.end s.course) s.span.upper

-- the instants of a group: the start of each slice, and the end of the last one if it is longer
-- than an instant
abbrev pub instants_of : {C B : Type 0} → Style C B → List (Slice C) → List Text
instants_of style [] = []
instants_of style (s ∷ []) = start_text style s ∷ cond (is_long s) (end_text style s ∷ []) []
instants_of style (s ∷ r ∷ rest) = start_text style s ∷ instants_of style (r ∷ rest)

abbrev pub opening_text : {C : Type 0} → List (Slice C) → Text
opening_text [] = []
opening_text (s ∷ rest) = cond s.span.lower_inc (codes "[") (codes "(")

abbrev pub closing_text : {C : Type 0} → List (Slice C) → Text
closing_text [] = []
closing_text (s ∷ []) = cond s.span.upper_inc (codes "]") (codes ")")
closing_text (s ∷ r ∷ rest) = closing_text (r ∷ rest)

abbrev pub group_text : {C B : Type 0} → Style C B → List (Slice C) → Text
group_text style group = opening_text group ++ with_commas (instants_of style group) ++ closing_text group

-- one group alone, or several in braces
abbrev pub groups_text : {C B : Type 0} → Style C B → List (List (Slice C)) → Text
groups_text style [] = in_braces []
groups_text style (group ∷ []) = group_text style group
groups_text style (group ∷ next ∷ groups) = in_braces (with_commas (map (group_text style) (group ∷ next ∷ groups)))

-- a single instant alone, or a set of instants
abbrev pub set_text : {C B : Type 0} → Style C B → List (Slice C) → Text
set_text style (s ∷ []) = start_text style s
set_text style slices = in_braces (with_commas (map (start_text style) slices))

-- the printed text of the slices
abbrev pub moving_text : {C B : Type 0} → Style C B → List (Slice C) → Text
moving_text style slices = cond (list_all (λ s. not (is_long s)) slices) (set_text style slices) (groups_text style (neighbour_groups style.course slices))
