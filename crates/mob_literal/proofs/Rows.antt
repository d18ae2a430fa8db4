-- Examples, worked by hand: printed texts and fields. Here a moment prints as the word day and the
-- number of the day.
use Rattle.std.proofs.Common.{◌≡◌, ℕ, ◌+◌, [], ◌∷◌, ◌++◌, Bool, true, false, Some, None, codes, refl, pos, nat_abs, arith}
use Rattle.mob_ratio.{specs.GcdLaws.{gcd_one_right}, specs.LowestLaws.{lowest_in}, specs.Ratio.{Ratio}, specs.Order.{before, same}}
use Rattle.mob_language.specs.Language.{Text}
use Rattle.mob_slice.{specs.declared.slice.Slice.{Slice}, specs.declared.steady.Steady.{Steady}, specs.CourseOf.{plain_course, steady_course}, specs.Sameness.{same_bytes}}
use Rattle.mob_written.{specs.Prefix.{admitted, prefix_at, one_prefix_at, prefixes_at}, specs.Printed.{Style, moving_text}}
use Rattle.mob_literal.specs.Fields.{is_null_field, doubled, undoubled, text_of_field, field_text}
use Rattle.mob_ast.specs.declared.types.SqlType.TheVariants as sql
use Rattle.mob_value.specs.declared.value.Value.TheVariants as value

abbrev pub day : ℕ → Ratio
day n = record { num = pos n; den = 1; lowest = lowest_in (pos n) 1 (omega arith) (gcd_one_right n) }

abbrev pub first_day : Ratio
first_day = day 1

abbrev pub second_day : Ratio
second_day = day 2

abbrev pub third_day : Ratio
third_day = day 3

abbrev plain : Style (Steady Text) Text
plain = record { course = steady_course same_bytes; value_text = λ v. v; moment_text = λ t. codes "day " ++ (48 + nat_abs t.num) ∷ [] }

abbrev on : Bool → Ratio → Ratio → Bool → Text → Slice (Steady Text)
on lower_inc lower upper upper_inc v = record { span = record { lower = lower; upper = upper; lower_inc = lower_inc; upper_inc = upper_inc }; course = record { value = v } }

-- a value that changes at its last instant
one_group : moving_text plain (on true first_day third_day false (codes "1") ∷ on true third_day third_day true (codes "2") ∷ []) ≡ codes "[1@day 1, 2@day 3]"
unfolding before same
one_group = refl

-- the last slice is longer than an instant
end_written : moving_text plain (on true first_day second_day false (codes "1") ∷ on true second_day third_day true (codes "2") ∷ []) ≡ codes "[1@day 1, 2@day 2, 2@day 3]"
unfolding before same
end_written = refl

one_instant : moving_text plain (on true first_day first_day true (codes "5") ∷ []) ≡ codes "5@day 1"
unfolding before same
one_instant = refl

instants_alone : moving_text plain (on true first_day first_day true (codes "5") ∷ on true third_day third_day true (codes "6") ∷ []) ≡ codes "{5@day 1, 6@day 3}"
unfolding before same
instants_alone = refl

-- true only on the second day
whole_day : moving_text plain (on true first_day second_day false (codes "f") ∷ on true second_day third_day false (codes "t") ∷ on true third_day third_day true (codes "f") ∷ []) ≡ codes "[f@day 1, t@day 2, f@day 3]"
unfolding before same
whole_day = refl

-- a value at a single instant between two others: the group ends with it
given_once : moving_text plain (on true first_day second_day false (codes "f") ∷ on true second_day second_day true (codes "t") ∷ on false second_day third_day true (codes "f") ∷ []) ≡ codes "{[f@day 1, t@day 2], (f@day 2, f@day 3]}"
unfolding before same
given_once = refl

-- two slices that meet at an instant, which the first includes
joint_given : moving_text plain (on true first_day second_day true (codes "t") ∷ on false second_day third_day true (codes "f") ∷ []) ≡ codes "{[t@day 1, t@day 2], (f@day 2, f@day 3]}"
unfolding before same
joint_given = refl

ends_left_out : moving_text plain (on false first_day second_day false (codes "1") ∷ []) ≡ codes "(1@day 1, 1@day 2)"
unfolding before same
ends_left_out = refl

a_point_of_others : moving_text plain (on true first_day second_day false (codes "1") ∷ on true third_day third_day true (codes "6") ∷ []) ≡ codes "{[1@day 1, 1@day 2), [6@day 3]}"
unfolding before same
a_point_of_others = refl

-- ---- courses that are not steady, each given by its end values

abbrev ends : Style (Text × Text) Text
ends = record { course = plain_course false (λ c l u t. c.0) (λ c. c.0) (λ c. c.1) (λ a b. (a, b)) (λ c d l m u. false) same_bytes; value_text = λ v. v; moment_text = λ t. codes "day " ++ (48 + nat_abs t.num) ∷ [] }

abbrev from : Bool → Ratio → Ratio → Bool → Text → Text → Slice (Text × Text)
from lower_inc lower upper upper_inc v w = record { span = record { lower = lower; upper = upper; lower_inc = lower_inc; upper_inc = upper_inc }; course = (v, w) }

-- the next course begins with the value with which the first ends
taken_up : moving_text ends (from true first_day second_day false (codes "1") (codes "2") ∷ from true second_day third_day true (codes "2") (codes "5") ∷ []) ≡ codes "[1@day 1, 2@day 2, 5@day 3]"
unfolding before same
taken_up = refl

-- the next course begins with another value
a_jump : moving_text ends (from true first_day second_day false (codes "1") (codes "2") ∷ from true second_day third_day true (codes "3") (codes "5") ∷ []) ≡ codes "{[1@day 1, 2@day 2), [3@day 2, 5@day 3]}"
unfolding before same
a_jump = refl

-- a step value of such a type: each of its values in a group of its own
steps_apart : moving_text ends (from true first_day second_day false (codes "1") (codes "1") ∷ from true second_day second_day true (codes "2") (codes "2") ∷ []) ≡ codes "{[1@day 1, 1@day 2), [2@day 2]}"
unfolding before same
steps_apart = refl

-- ---- prefixes of a literal

both_orders : (prefixes_at (admitted false true) (codes "Interp=Step;SRID=0;x") ≡ Some (admitted true false, codes "x")) × (prefixes_at (admitted false true) (codes "srid=0 ; interp=STEP; x") ≡ Some (admitted true false, codes "x"))
unfolding prefixes_at one_prefix_at prefix_at
both_orders = (refl, refl)

-- each prefix is read once: a second one may be a part of the first value
once : prefixes_at (admitted false true) (codes "SRID=0;SRID=0;x") ≡ Some (admitted false false, codes "SRID=0;x")
unfolding prefixes_at one_prefix_at prefix_at
once = refl

-- a text is refused if another word has the first letter of an allowed prefix
another_word : prefixes_at (admitted false true) (codes "SRID=1;x") ≡ None
unfolding prefixes_at one_prefix_at prefix_at
another_word = refl

none_admitted : prefixes_at (admitted true false) (codes "Interp=Step;x") ≡ Some (admitted true false, codes "Interp=Step;x")
unfolding prefixes_at one_prefix_at prefix_at
none_admitted = refl

null_in_any : is_null_field sql.Text (codes "\\N") ≡ true
null_in_any = refl

empty_number : is_null_field sql.Int [] ≡ true
empty_number = refl

empty_text : is_null_field sql.Text [] ≡ false
empty_text = refl

one_backslash : text_of_field sql.Text (codes "\\a") ≡ codes "\\a"
unfolding undoubled
one_backslash = refl

two_backslashes : text_of_field sql.Text (codes "\\\\N") ≡ codes "\\N"
unfolding undoubled
two_backslashes = refl

written_null : field_text (pos 0) value.Null ≡ codes "\\N"
written_null = refl

written_backslash : field_text (pos 0) (value.Text (codes "\\N")) ≡ codes "\\\\N"
unfolding doubled
written_backslash = refl
