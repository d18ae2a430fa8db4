-- The texts of boxes, and their form.
--
-- A box is the word STBOX, at least one blank, and one of X, T and XT, which gives its dimensions.
-- X is followed by two corners of the rectangle in brackets, T by a span of time in brackets, and
-- XT by the two corners in brackets of their own, a comma and the span. The corners may be any two
-- opposite ones. Letters may be in any case, and blanks may be beside each bracket and comma and at
-- both ends.
use Rattle.std.specs.Prelude.{◌≡◌, codes, Bool, false, cond, ◌&&◌, Option, Some, None, is_some, MatchOption, ℤ}
use Rattle.mob_ratio.specs.Ratio.{Ratio}
use Rattle.mob_language.specs.Language.{Text, Language, ◌▷◌, ◌∣◌, Means, Word, AnyCase, blanks, spaced, within_blanks}
use Rattle.mob_language.specs.Readers.{TextReader, ◌>>=◌, then_at, or_at, means_at, word_at, any_case_at, blanks_at, spaced_at}
use Rattle.mob_numeral.{specs.Blanks.{some_blanks, some_blanks_at}, specs.Fitting.{number_value, number_value_at}, specs.Verdict.{TextForm}}
use Rattle.mob_plane.specs.declared.point.Point.{Point}
use Rattle.mob_points.specs.Points.{point_of, close_bracket, close_bracket_at}
use Rattle.mob_scalar.specs.Brackets.{comma, comma_at}
use Rattle.mob_span.specs.Span.{SpanOf}
use Rattle.mob_stbox.{specs.Areas.{area_between}, specs.Boxes.{BoxOf, span_stands}, specs.declared.area.Area.{Area}}
use Rattle.mob_geotext.{specs.Spans.{noted_span, noted_span_at, has_ends, bounds_of}, specs.declared.noted.NotedSpan.{NotedSpan}, specs.declared.boxes.NotedCorners.{NotedCorners}}
use Rattle.mob_geotext.{specs.declared.boxes.NotedBox.{NotedBox}, specs.declared.boxes.NotedBox.TheVariants.{Space, Time, Both}}

-- an opening bracket, which blanks may follow
abbrev pub open_bracket : Language (Unit {0})
open_bracket = Means (λ (v : Unit {0} × Text). tt) (Word (codes "(") ▷ blanks)

abbrev pub corner_said : Unit {0} × (Option Ratio × (Unit {0} × (Option Ratio × Unit {0}))) → Option Point
corner_said v = point_of v.1.0 v.1.1.1.0

-- (x,y): the point, if both coordinates fit
abbrev pub corner : Language (Option Point)
corner = Means corner_said (open_bracket ▷ (number_value ▷ (comma ▷ (number_value ▷ close_bracket))))

abbrev pub corners_said : Option Point × (Unit {0} × (Option Point × Unit {0})) → NotedCorners
corners_said v = record { first = v.0; second = v.1.1.0 }

-- two corners with a comma between them, and a closing bracket
abbrev pub corners : Language NotedCorners
corners = Means corners_said (corner ▷ (comma ▷ (corner ▷ close_bracket)))

-- a span, and a closing bracket
abbrev pub closed_span : ℤ → Language NotedSpan
closed_span day = Means (λ (v : NotedSpan × Unit {0}). v.0) (noted_span day ▷ close_bracket)

-- ((x,y),(x,y)) after X
abbrev pub space_said : Unit {0} × NotedCorners → NotedBox
space_said v = Space v.1

abbrev pub space_alone : Language NotedBox
space_alone = Means space_said (spaced (codes "(") ▷ corners)

-- T(((x,y),(x,y)),span) after X
abbrev pub both_said : Unit {0} × (Unit {0} × (Unit {0} × (NotedCorners × (Unit {0} × NotedSpan)))) → NotedBox
both_said v = Both v.1.1.1.0 v.1.1.1.1.1

abbrev pub space_and_time : ℤ → Language NotedBox
space_and_time day = Means both_said (AnyCase (codes "t") ▷ (spaced (codes "(") ▷ (open_bracket ▷ (corners ▷ (comma ▷ closed_span day)))))

-- T(span)
abbrev pub time_said : Unit {0} × (Unit {0} × NotedSpan) → NotedBox
time_said v = Time v.1.1

abbrev pub time_alone : ℤ → Language NotedBox
time_alone day = Means time_said (AnyCase (codes "t") ▷ (spaced (codes "(") ▷ closed_span day))

-- X and the rectangle, with or without a span
abbrev pub with_space : ℤ → Language NotedBox
with_space day = Means (λ (v : Unit {0} × NotedBox). v.1) (AnyCase (codes "x") ▷ (space_and_time day ∣ space_alone))

abbrev pub box_said : Unit {0} × (Unit {0} × NotedBox) → NotedBox
box_said v = v.1.1

-- a box
abbrev pub written_box : ℤ → Language NotedBox
written_box day = Means box_said (AnyCase (codes "stbox") ▷ (some_blanks ▷ (time_alone day ∣ with_space day)))

-- ---- the value of the text of a box

-- the rectangle with these corners, if their coordinates fit
abbrev pub area_of : NotedCorners → Option Area
area_of c = c.first >>= λ p. c.second >>= λ q. Some (area_between p q)

abbrev pub has_corners : NotedCorners → Bool
has_corners c = is_some c.first && is_some c.second

-- all coordinates and ends fit
abbrev pub has_sides : NotedBox → Bool
has_sides (Space c) = has_corners c
has_sides (Time s) = has_ends s
has_sides (Both c s) = has_corners c && has_ends s

-- the box with these dimensions, if they are given
abbrev pub box_in_space : Option Area → Option BoxOf
box_in_space area = area >>= λ a. Some (record { space = Some a; time = None })

abbrev pub box_in_time : Option SpanOf → Option BoxOf
box_in_time span = span >>= λ s. Some (record { space = None; time = Some s })

abbrev pub box_in_both : Option Area → Option SpanOf → Option BoxOf
box_in_both area span = area >>= λ a. span >>= λ s. Some (record { space = Some a; time = Some s })

-- the dimensions of the text, if all coordinates and ends fit
abbrev pub sides_said : NotedBox → Option BoxOf
sides_said (Space c) = box_in_space (area_of c)
sides_said (Time s) = box_in_time (bounds_of s)
sides_said (Both c s) = box_in_both (area_of c) (bounds_of s)

-- the form of boxes; a box is unsound if its span has no instant
abbrev pub boxes : ℤ → TextForm NotedBox BoxOf
boxes day = record {
  shape = within_blanks (written_box day);
  long = λ b. ⊥;
  large = λ b. has_sides b ≡ false;
  unsound = λ b. MatchOption (sides_said b) ⊥ (λ r. span_stands r.time ≡ false);
  means = λ b r. sides_said b ≡ Some r;
}

-- ---- the readers of these languages

unfoldable pub open_bracket_at : TextReader (Unit {0})
open_bracket_at = means_at (λ (v : Unit {0} × Text). tt) (then_at (word_at (codes "(")) blanks_at)

unfoldable pub corner_at : TextReader (Option Point)
corner_at = means_at corner_said (then_at open_bracket_at (then_at number_value_at (then_at comma_at (then_at number_value_at close_bracket_at))))

unfoldable pub corners_at : TextReader NotedCorners
corners_at = means_at corners_said (then_at corner_at (then_at comma_at (then_at corner_at close_bracket_at)))

unfoldable pub closed_span_at : ℤ → TextReader NotedSpan
closed_span_at day = means_at (λ (v : NotedSpan × Unit {0}). v.0) (then_at (noted_span_at day) close_bracket_at)

unfoldable pub space_alone_at : TextReader NotedBox
space_alone_at = means_at space_said (then_at (spaced_at (codes "(")) corners_at)

unfoldable pub space_and_time_at : ℤ → TextReader NotedBox
space_and_time_at day = means_at both_said (then_at (any_case_at (codes "t")) (then_at (spaced_at (codes "(")) (then_at open_bracket_at (then_at corners_at (then_at comma_at (closed_span_at day))))))

unfoldable pub time_alone_at : ℤ → TextReader NotedBox
time_alone_at day = means_at time_said (then_at (any_case_at (codes "t")) (then_at (spaced_at (codes "(")) (closed_span_at day)))

unfoldable pub with_space_at : ℤ → TextReader NotedBox
with_space_at day = means_at (λ (v : Unit {0} × NotedBox). v.1) (then_at (any_case_at (codes "x")) (or_at (space_and_time_at day) space_alone_at))

unfoldable pub written_box_at : ℤ → TextReader NotedBox
written_box_at day = means_at box_said (then_at (any_case_at (codes "stbox")) (then_at some_blanks_at (or_at (time_alone_at day) (with_space_at day))))

-- ---- what the code makes of them

-- a box, if its span has an instant
abbrev pub with_instant : BoxOf → Option BoxOf
with_instant r = cond (span_stands r.time) (Some r) None

-- the box of the text, if all of its coordinates and ends fit and its span has an instant
abbrev pub sound_box : NotedBox → Option BoxOf
sound_box b = sides_said b >>= with_instant
