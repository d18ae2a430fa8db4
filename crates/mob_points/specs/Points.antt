-- The texts of points, and their form.
--
-- A point is the word POINT, in any letter case, and its two coordinates in brackets with blanks
-- between them. Blanks may be beside each bracket. `SRID=0;` may come before a point. It says that
-- the plane has no reference system, which holds for every point here, so it changes nothing.
use Rattle.std.specs.Prelude.{◌≡◌, codes, Option, Some, None}
use Rattle.mob_ratio.specs.Ratio.{Ratio}
use Rattle.mob_language.specs.Language.{Text, Language, ◌▷◌, Maybe, Means, Word, AnyCase, blanks, spaced, within_blanks}
use Rattle.mob_language.specs.Readers.{TextReader, ◌>>=◌, then_at, maybe_at, means_at, word_at, any_case_at, blanks_at, spaced_at}
use Rattle.mob_numeral.{specs.Blanks.{some_blanks, some_blanks_at}, specs.Fitting.{number_value, number_value_at}, specs.Verdict.{TextForm}}
use Rattle.mob_plane.specs.declared.point.Point.{Point}

-- the point with these coordinates, if both fit
abbrev pub point_of : Option Ratio → Option Ratio → Option Point
point_of x y = x >>= λ a. y >>= λ b. Some (record { x = a; y = b })

-- a closing bracket
abbrev pub close_bracket : Language (Unit {0})
close_bracket = Means (λ (v : Text × Unit {0}). tt) (blanks ▷ Word (codes ")"))

abbrev pub coordinates_said : Option Ratio × (Unit {0} × (Option Ratio × Unit {0})) → Option Point
coordinates_said v = point_of v.0 v.1.1.0

-- two numbers with blanks between them, and a closing bracket
abbrev pub coordinates : Language (Option Point)
coordinates = Means coordinates_said (number_value ▷ (some_blanks ▷ (number_value ▷ close_bracket)))

abbrev pub point_said : Unit {0} × (Unit {0} × Option Point) → Option Point
point_said v = v.1.1

-- POINT(x y): the point, if both coordinates fit
abbrev pub written_point : Language (Option Point)
written_point = Means point_said (AnyCase (codes "point") ▷ (spaced (codes "(") ▷ coordinates))

-- a heading: a word in any letter case, and its semicolon
abbrev pub heading : Text → Language (Unit {0} × Unit {0})
heading word = AnyCase word ▷ spaced (codes ";")

-- the word for a plane without a reference system
abbrev pub srid_word : Text
srid_word = codes "srid=0"

abbrev pub srid_said : Unit {0} × Unit {0} → Unit {0}
srid_said v = tt

-- SRID=0;
abbrev pub srid_zero : Language (Unit {0})
srid_zero = Means srid_said (heading srid_word)

abbrev pub past_srid : {A : Type 0} → Option (Unit {0}) × A → A
past_srid v = v.1

-- a text with or without SRID=0; before it
abbrev pub behind_srid : {A : Type 0} → Language A → Language A
behind_srid l = Means past_srid (Maybe srid_zero ▷ l)

-- a point with or without SRID=0; before it
abbrev pub point_value : Language (Option Point)
point_value = behind_srid written_point

-- the form of points: a point, with or without SRID=0; before it, and optional blanks at both ends
abbrev pub points : TextForm (Option Point) Point
points = record {
  shape = within_blanks point_value;
  long = λ s. ⊥;
  large = λ s. s ≡ None;
  unsound = λ s. ⊥;
  means = λ s p. s ≡ Some p;
}

-- ---- the readers of these languages

unfoldable pub close_bracket_at : TextReader (Unit {0})
close_bracket_at = means_at (λ (v : Text × Unit {0}). tt) (then_at blanks_at (word_at (codes ")")))

unfoldable pub coordinates_at : TextReader (Option Point)
coordinates_at = means_at coordinates_said (then_at number_value_at (then_at some_blanks_at (then_at number_value_at close_bracket_at)))

unfoldable pub written_point_at : TextReader (Option Point)
written_point_at = means_at point_said (then_at (any_case_at (codes "point")) (then_at (spaced_at (codes "(")) coordinates_at))

abbrev pub heading_at : Text → TextReader (Unit {0} × Unit {0})
heading_at word = then_at (any_case_at word) (spaced_at (codes ";"))

unfoldable pub srid_zero_at : TextReader (Unit {0})
srid_zero_at = means_at srid_said (heading_at srid_word)

unfoldable pub behind_srid_at : {A : Type 0} → TextReader A → TextReader A
behind_srid_at r = means_at past_srid (then_at (maybe_at srid_zero_at) r)

unfoldable pub point_value_at : TextReader (Option Point)
point_value_at = behind_srid_at written_point_at
