-- The texts of polygons, and their form.
--
-- A polygon is the word POLYGON, in any letter case, and its rings in brackets with commas between
-- them. A ring is its points in brackets with commas between them, and such a point is its two
-- coordinates with blanks between them. Blanks may be beside each bracket and comma, and at both
-- ends. `SRID=0;` may come before a polygon, as before a point.
use Rattle.std.specs.Prelude.{◌≡◌, List, length, Bool, true, false, codes, nat_lt, Option, Some, None, MatchOption, flat_map}
use Rattle.mob_ratio.specs.Ratio.{Ratio}
use Rattle.mob_language.specs.Language.{Text, Language, ◌▷◌, Word, AnyCase, Means, Separated, blanks, in_middle, within_blanks}
use Rattle.mob_language.specs.Readers.{TextReader, then_at, means_at, word_at, any_case_at, blanks_at, separated_at}
use Rattle.mob_numeral.{specs.Blanks.{some_blanks, some_blanks_at}, specs.Fitting.{number_value, number_value_at}, specs.Verdict.{TextForm}}
use Rattle.mob_scalar.{specs.Brackets.{comma, comma_at}, specs.Traverse.{traverse}}
use Rattle.mob_points.specs.Points.{point_of, behind_srid, behind_srid_at}
use Rattle.mob_plane.{specs.Rings.{are_sound}, specs.declared.point.Point.{Point}}

-- a text in brackets
abbrev pub within_brackets : {A : Type 0} → Language A → Language A
within_brackets l = Means in_middle ((Word (codes "(") ▷ blanks) ▷ (l ▷ (blanks ▷ Word (codes ")"))))

abbrev pub vertex_said : Option Ratio × (Unit {0} × Option Ratio) → Option Point
vertex_said v = point_of v.0 v.1.1

-- a point of a ring, if both of its coordinates fit
abbrev pub vertex : Language (Option Point)
vertex = Means vertex_said (number_value ▷ (some_blanks ▷ number_value))

-- a ring
abbrev pub written_ring : Language (List (Option Point))
written_ring = within_brackets (Separated vertex comma)

-- one or more rings
abbrev pub written_rings : Language (List (List (Option Point)))
written_rings = within_brackets (Separated written_ring comma)

abbrev pub polygon_said : {A : Type 0} → Unit {0} × (Text × A) → A
polygon_said v = v.1.1

-- POLYGON((x y,x y,x y,x y),(x y,x y,x y,x y))
abbrev pub written_polygon : Language (List (List (Option Point)))
written_polygon = Means polygon_said (AnyCase (codes "polygon") ▷ (blanks ▷ written_rings))

-- a polygon, with or without SRID=0; before it
abbrev pub polygon_value : Language (List (List (Option Point)))
polygon_value = behind_srid written_polygon

-- the rings have more than 1,000 points in total
abbrev pub has_many_points : List (List (Option Point)) → Bool
has_many_points rings = nat_lt 1000 (length (flat_map (λ r. r) rings))

-- the rings, if each coordinate fits
abbrev pub rings_said : List (List (Option Point)) → Option (List (List Point))
rings_said rings = traverse (traverse (λ p. p)) rings

-- The form of polygons. A polygon is too long if it has more than 1,000 points, and unsound if a
-- ring has fewer than four points or is open.
abbrev pub polygons : TextForm (List (List (Option Point))) (List (List Point))
polygons = record {
  shape = within_blanks polygon_value;
  long = λ s. has_many_points s ≡ true;
  large = λ s. rings_said s ≡ None;
  unsound = λ s. MatchOption (rings_said s) ⊥ (λ rings. are_sound rings ≡ false);
  means = λ s rings. rings_said s ≡ Some rings;
}

-- ---- the readers of these languages

abbrev pub within_brackets_at : {A : Type 0} → TextReader A → TextReader A
within_brackets_at r = means_at in_middle (then_at (then_at (word_at (codes "(")) blanks_at) (then_at r (then_at blanks_at (word_at (codes ")")))))

unfoldable pub vertex_at : TextReader (Option Point)
vertex_at = means_at vertex_said (then_at number_value_at (then_at some_blanks_at number_value_at))

-- members in brackets, with commas between them
unfoldable pub bracketed_at : {A : Type 0} → TextReader A → TextReader (List A)
bracketed_at r = within_brackets_at (separated_at r comma_at)

abbrev pub written_ring_at : TextReader (List (Option Point))
written_ring_at = bracketed_at vertex_at

unfoldable pub written_polygon_at : TextReader (List (List (Option Point)))
written_polygon_at = means_at polygon_said (then_at (any_case_at (codes "polygon")) (then_at blanks_at (bracketed_at written_ring_at)))

unfoldable pub polygon_value_at : TextReader (List (List (Option Point)))
polygon_value_at = behind_srid_at written_polygon_at
