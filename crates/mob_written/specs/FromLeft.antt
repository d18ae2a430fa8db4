-- The printed text of slices, from left to right, as the code writes it.
use Rattle.std.specs.Prelude.{List, [], ◌∷◌, ◌++◌, codes, Bool, false, cond}
use Rattle.mob_language.specs.Language.{Text}
use Rattle.mob_slice.{specs.declared.slice.Slice.{Slice}, specs.CourseOf.{CourseOf}}
use Rattle.mob_written.{specs.Neighbours.{all_neighbours}, specs.Printed.{Style, is_long, shares_group, start_text, end_text, opening_text, closing_text}}

-- the end of a group after its last slice, whose start is already written
abbrev pub end_part : {C B : Type 0} → Style C B → Slice C → Text
end_part style s = cond (is_long s) (codes ", " ++ end_text style s) [] ++ closing_text (s ∷ [])

-- the text between the starts of two neighbours
abbrev pub between : {C B : Type 0} → Style C B → Slice C → Slice C → Text
between style s r = cond (shares_group style.course s r) (codes ", ") (end_part style s ++ codes ", " ++ opening_text (r ∷ []))

-- the text after the start of s, if the slices `rest` follow s
abbrev pub text_behind : {C B : Type 0} → Style C B → Slice C → List (Slice C) → Text
text_behind style s [] = end_part style s
text_behind style s (r ∷ rest) = between style s r ++ start_text style r ++ text_behind style r rest

-- each of the slices after s continues the group
abbrev pub all_share_group : {C B : Type 0} → CourseOf C B → Slice C → List (Slice C) → Bool
all_share_group course s rest = all_neighbours (shares_group course) (s ∷ rest)

-- the slices are one group
abbrev pub is_one_group : {C B : Type 0} → CourseOf C B → List (Slice C) → Bool
is_one_group course [] = false
is_one_group course (s ∷ rest) = all_share_group course s rest
