-- The reader of boxes accepts exactly the texts of boxes.
use Rattle.std.{specs.Prelude.{nat_eq}, specs.Char.{to_ascii_lowercase}, proofs.Common.{◌≡◌, ℕ, ℤ, [], ◌∷◌, ◌++◌, Bool, false, refl, sym, ◌∙◌, rules, codes}}
use Rattle.mob_language.{specs.Language.{Text, Language, ◌▷◌, ◌∣◌, is_blank, blanks, spaced, within_blanks}, specs.Readers.{then_at, or_at, within_blanks_at}}
use Rattle.mob_language.proofs.Exact.{Exact, Stops, Any, then_exact, or_exact, means_exact, many_exact, word_exact, any_case_exact}
use Rattle.mob_language.proofs.Heads.{NoHead, Apart, HasByte, Nothing, exact_less, then_head, or_head, means_head, many_head, word_then_head, byte_stops, byte_head, then_byte, means_byte, or_byte}
use Rattle.mob_language.proofs.Heads.{word_byte, then_byte_stops, after_any, spaced_exact, IsEnd, within_exact}
use Rattle.mob_numeral.{specs.Blanks.{some_blanks}, specs.Fitting.{number_value, number_value_at}, proofs.SomeBlanks.{some_blanks_exact}}
use Rattle.mob_numeral.proofs.WholeTexts.{back_nil, number_value_exact, number_value_blank, number_value_byte}
use Rattle.mob_points.{specs.Points.{close_bracket, close_bracket_at}, proofs.PointsExact.{close_exact, last_exact, any_case_head, any_case_byte, s_no_blank}}
use Rattle.mob_scalar.{specs.Brackets.{comma, comma_at}, proofs.BracketsExact.{comma_exact, comma_byte}}
use Rattle.mob_geotext.{specs.declared.noted.NotedSpan.{NotedSpan}, specs.declared.boxes.NotedBox.{NotedBox}}
use Rattle.mob_geotext.specs.Boxes.{open_bracket, corner_said, corner, corners_said, corners, closed_span, space_said, space_alone, both_said, space_and_time, time_said, time_alone, with_space}
use Rattle.mob_geotext.specs.Boxes.{box_said, written_box, open_bracket_at, corner_at, corners_at, closed_span_at, space_alone_at, space_and_time_at, time_alone_at, with_space_at, written_box_at}
use Rattle.mob_geotext.{proofs.SpansExact.{span_exact, span_blank, span_byte}, proofs.PolygonsExact.{comma_continues}}

-- ---- corners

open_exact : Exact open_bracket open_bracket_at (Stops is_blank)
unfolding open_bracket_at
open_exact = means_exact (λ (v : Unit {0} × Text). tt) (then_exact {F = Any} (word_exact (codes "(")) (many_exact is_blank) (λ text rest v said after. tt))

open_blank : NoHead open_bracket is_blank
open_blank = means_head (word_then_head 40 [] is_blank refl)

open_byte : HasByte open_bracket
open_byte = means_byte (λ (v : Unit {0} × Text). tt) (then_byte blanks (word_byte 40 []))

second_exact : Exact (comma ▷ (number_value ▷ close_bracket)) (then_at comma_at (then_at number_value_at close_bracket_at)) Any
second_exact = then_byte_stops comma_exact last_exact (byte_head close_bracket number_value_blank number_value_byte) (then_byte close_bracket number_value_byte)

first_exact : Exact (number_value ▷ (comma ▷ (number_value ▷ close_bracket))) (then_at number_value_at (then_at comma_at (then_at number_value_at close_bracket_at))) Any
first_exact = then_byte_stops number_value_exact second_exact (byte_head (number_value ▷ close_bracket) comma_continues comma_byte) (then_byte (number_value ▷ close_bracket) comma_byte)

corner_exact : Exact corner corner_at Any
unfolding corner_at
corner_exact = means_exact corner_said (then_byte_stops open_exact first_exact
    (byte_head (comma ▷ (number_value ▷ close_bracket)) number_value_blank number_value_byte)
    (then_byte (comma ▷ (number_value ▷ close_bracket)) number_value_byte))

corner_blank : NoHead corner is_blank
corner_blank = means_head (byte_head (number_value ▷ (comma ▷ (number_value ▷ close_bracket))) open_blank open_byte)

corner_byte : HasByte corner
corner_byte = means_byte corner_said (then_byte (number_value ▷ (comma ▷ (number_value ▷ close_bracket))) open_byte)

other_exact : Exact (comma ▷ (corner ▷ close_bracket)) (then_at comma_at (then_at corner_at close_bracket_at)) Any
other_exact = then_byte_stops comma_exact (after_any corner_exact close_exact) (byte_head close_bracket corner_blank corner_byte) (then_byte close_bracket corner_byte)

corners_exact : Exact corners corners_at Any
unfolding corners_at
corners_exact = means_exact corners_said (after_any corner_exact other_exact)

corners_blank : NoHead corners is_blank
corners_blank = means_head (byte_head (comma ▷ (corner ▷ close_bracket)) corner_blank corner_byte)

corners_byte : HasByte corners
corners_byte = means_byte corners_said (then_byte (comma ▷ (corner ▷ close_bracket)) corner_byte)

-- ---- a span and a closing bracket

closed_exact : (day : ℤ) → Exact (closed_span day) (closed_span_at day) Any
unfolding closed_span_at
closed_exact day = means_exact (λ (v : NotedSpan × Unit {0}). v.0) (after_any (span_exact day) close_exact)

closed_blank : (day : ℤ) → NoHead (closed_span day) is_blank
closed_blank day = means_head (byte_head close_bracket (span_blank day) (span_byte day))

closed_byte : (day : ℤ) → HasByte (closed_span day)
closed_byte day = means_byte (λ (v : NotedSpan × Unit {0}). v.0) (then_byte close_bracket (span_byte day))

-- ---- the three forms

space_exact : Exact space_alone space_alone_at Any
unfolding space_alone_at
space_exact = means_exact space_said (then_byte_stops (spaced_exact 40 [] refl) corners_exact corners_blank corners_byte)

abbrev behind_corners : ℤ → Language (Unit {0} × NotedSpan)
behind_corners day = comma ▷ closed_span day

both_exact : (day : ℤ) → Exact (space_and_time day) (space_and_time_at day) Any
unfolding space_and_time_at
both_exact day = means_exact both_said (after_any (any_case_exact (codes "t")) (then_byte_stops (spaced_exact 40 [] refl)
    (then_byte_stops open_exact (after_any corners_exact (then_byte_stops comma_exact (closed_exact day) (closed_blank day) (closed_byte day)))
    (byte_head (behind_corners day) corners_blank corners_byte) (then_byte (behind_corners day) corners_byte))
    (byte_head (corners ▷ behind_corners day) open_blank open_byte) (then_byte (corners ▷ behind_corners day) open_byte)))

time_exact : (day : ℤ) → Exact (time_alone day) (time_alone_at day) Any
unfolding time_alone_at
time_exact day = means_exact time_said (after_any (any_case_exact (codes "t")) (then_byte_stops (spaced_exact 40 [] refl) (closed_exact day) (closed_blank day) (closed_byte day)))

-- ---- the first letter decides which form it is

abbrev begins_t : ℕ → Bool
begins_t c = nat_eq (to_ascii_lowercase c) 116

blank_no_t : Apart is_blank begins_t
blank_no_t c e = search rules

bracket_no_t : NoHead (spaced (codes "(")) begins_t
bracket_no_t = means_head (then_head (many_head blank_no_t) (word_then_head 40 [] begins_t refl))

bracket_byte : HasByte (spaced (codes "("))
bracket_byte = means_byte (λ (v : Text × (Unit {0} × Text)). tt) (λ text v said e.
    then_byte blanks (word_byte 40 []) said.back v.1 said.second (back_nil said.front said.back (sym said.whole ∙ e)))

space_no_t : NoHead space_alone begins_t
space_no_t = means_head (byte_head corners bracket_no_t bracket_byte)

space_byte : HasByte space_alone
space_byte = means_byte space_said (then_byte corners bracket_byte)

both_nothing : (day : ℤ) → Nothing (space_and_time_at day) begins_t
unfolding space_and_time_at
both_nothing day [] s = refl
both_nothing day (c ∷ cs) s = rw s refl

time_nothing : (day : ℤ) → Nothing (time_alone_at day) begins_t
unfolding time_alone_at
time_nothing day [] s = refl
time_nothing day (c ∷ cs) s = rw s refl

either_exact : (day : ℤ) → Exact (space_and_time day ∣ space_alone) (or_at (space_and_time_at day) space_alone_at) Any
either_exact day = exact_less (or_exact {F = Any} {G = Any} (both_exact day) space_exact (λ text rest v said after. both_nothing day (text ++ rest) (byte_stops begins_t text rest (space_no_t text v said) (space_byte text v said)))) (λ rest after. (tt, tt))

with_space_exact : (day : ℤ) → Exact (with_space day) (with_space_at day) Any
unfolding with_space_at
with_space_exact day = means_exact (λ (v : Unit {0} × NotedBox). v.1) (after_any (any_case_exact (codes "x")) (either_exact day))

-- the letter is not the other one
x_no_t : (c : ℕ) → to_ascii_lowercase c ≡ 120 → begins_t c ≡ false
x_no_t c e = rw e refl

with_space_head : (day : ℤ) (test : ℕ → Bool) → ((c : ℕ) → to_ascii_lowercase c ≡ 120 → test c ≡ false) → NoHead (with_space day) test
with_space_head day test h = means_head (byte_head (space_and_time day ∣ space_alone) (any_case_head 120 [] test h) (any_case_byte 120 []))

with_space_byte : (day : ℤ) → HasByte (with_space day)
with_space_byte day = means_byte (λ (v : Unit {0} × NotedBox). v.1) (then_byte (space_and_time day ∣ space_alone) (any_case_byte 120 []))

forms_exact : (day : ℤ) → Exact (time_alone day ∣ with_space day) (or_at (time_alone_at day) (with_space_at day)) Any
forms_exact day = exact_less (or_exact {F = Any} {G = Any} (time_exact day) (with_space_exact day) (λ text rest v said after. time_nothing day (text ++ rest) (byte_stops begins_t text rest (with_space_head day begins_t x_no_t text v said) (with_space_byte day text v said)))) (λ rest after. (tt, tt))

t_no_blank : (c : ℕ) → to_ascii_lowercase c ≡ 116 → is_blank c ≡ false
t_no_blank c e = search rules

x_no_blank : (c : ℕ) → to_ascii_lowercase c ≡ 120 → is_blank c ≡ false
x_no_blank c e = search rules

abbrev behind_t : ℤ → Language (Unit {0} × NotedSpan)
behind_t day = spaced (codes "(") ▷ closed_span day

forms_blank : (day : ℤ) → NoHead (time_alone day ∣ with_space day) is_blank
forms_blank day = or_head (means_head (byte_head (behind_t day) (any_case_head 116 [] is_blank t_no_blank) (any_case_byte 116 []))) (with_space_head day is_blank x_no_blank)

forms_byte : (day : ℤ) → HasByte (time_alone day ∣ with_space day)
forms_byte day = or_byte (means_byte time_said (then_byte (behind_t day) (any_case_byte 116 []))) (with_space_byte day)

-- ---- a box

box_exact : (day : ℤ) → Exact (written_box day) (written_box_at day) Any
unfolding written_box_at
box_exact day = means_exact box_said (after_any (any_case_exact (codes "stbox")) (then_byte_stops some_blanks_exact (forms_exact day) (forms_blank day) (forms_byte day)))

abbrev behind_word : ℤ → Language (Unit {0} × NotedBox)
behind_word day = some_blanks ▷ (time_alone day ∣ with_space day)

box_blank : (day : ℤ) → NoHead (written_box day) is_blank
box_blank day = means_head (byte_head (behind_word day) (any_case_head 115 (codes "tbox") is_blank s_no_blank) (any_case_byte 115 (codes "tbox")))

box_byte : (day : ℤ) → HasByte (written_box day)
box_byte day = means_byte box_said (then_byte (behind_word day) (any_case_byte 115 (codes "tbox")))

pub boxes_exact : (day : ℤ) → Exact (within_blanks (written_box day)) (within_blanks_at (written_box_at day)) IsEnd
boxes_exact day = within_exact (box_exact day) (box_blank day) (box_byte day) (λ bs each. tt)
