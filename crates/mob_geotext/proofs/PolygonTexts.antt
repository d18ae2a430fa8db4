-- Examples, worked by hand: which texts are polygons, and which rings are read.
use Rattle.std.proofs.Common.{◌≡◌, ℕ, List, Option, Some, None, codes, map, length, refl, option_map, [], ◌∷◌}
use Rattle.mob_language.{specs.Language.{Text}, specs.Readers.{all_of, within_blanks_at, items_at, separated_at}}
use Rattle.mob_numeral.{specs.Blanks.{some_blanks_at}, specs.Fitting.{number_value_at}}
use Rattle.mob_numeral.specs.NumberReaders.{numeral_at, sign_at, digits_at, tail_at, over_at, decimal_at, point_at, exponent_at, power_at}
use Rattle.mob_scalar.specs.Brackets.{comma_at}
use Rattle.mob_points.specs.Points.{srid_zero_at, behind_srid_at}
use Rattle.mob_plane.specs.declared.point.Point.{Point}
use Rattle.mob_geotext.specs.Polygons.{vertex_at, bracketed_at, written_polygon_at, polygon_value_at}

abbrev read : Text → Option (List (List (Option Point)))
read text = all_of (within_blanks_at polygon_value_at) text

-- the number of points of each ring
abbrev counts : Text → Option (List ℕ)
counts text = option_map (λ rings. map length rings) (read text)

-- mixed letter case, blanks beside brackets and commas and at both ends, and a second ring
in_full : counts (codes " srid=0 ; Polygon ( ( 0 0 , 9 0,9 9 ,0 0 ),(1 1))") ≡ Some (4 ∷ 1 ∷ [])
unfolding polygon_value_at behind_srid_at srid_zero_at written_polygon_at bracketed_at vertex_at separated_at items_at comma_at some_blanks_at number_value_at numeral_at sign_at digits_at tail_at over_at decimal_at point_at exponent_at power_at
in_full = refl

-- a polygon needs a ring, and a ring needs a point
no_ring : read (codes "POLYGON()") ≡ None
unfolding polygon_value_at behind_srid_at srid_zero_at written_polygon_at bracketed_at vertex_at separated_at items_at comma_at some_blanks_at number_value_at numeral_at sign_at digits_at tail_at over_at decimal_at point_at exponent_at power_at
no_ring = refl

no_point : read (codes "POLYGON(())") ≡ None
unfolding polygon_value_at behind_srid_at srid_zero_at written_polygon_at bracketed_at vertex_at separated_at items_at comma_at some_blanks_at number_value_at numeral_at sign_at digits_at tail_at over_at decimal_at point_at exponent_at power_at
no_point = refl

-- a comma between the coordinates of a point, and none between two points, are refused
comma_within : read (codes "POLYGON((0,0))") ≡ None
unfolding polygon_value_at behind_srid_at srid_zero_at written_polygon_at bracketed_at vertex_at separated_at items_at comma_at some_blanks_at number_value_at numeral_at sign_at digits_at tail_at over_at decimal_at point_at exponent_at power_at
comma_within = refl

no_comma : read (codes "POLYGON((0 0 1 1))") ≡ None
unfolding polygon_value_at behind_srid_at srid_zero_at written_polygon_at bracketed_at vertex_at separated_at items_at comma_at some_blanks_at number_value_at numeral_at sign_at digits_at tail_at over_at decimal_at point_at exponent_at power_at
no_comma = refl

-- a ring without the brackets of the polygon is refused
one_bracket : read (codes "POLYGON(0 0,1 0,0 1,0 0)") ≡ None
unfolding polygon_value_at behind_srid_at srid_zero_at written_polygon_at bracketed_at vertex_at separated_at items_at comma_at some_blanks_at number_value_at numeral_at sign_at digits_at tail_at over_at decimal_at point_at exponent_at power_at
one_bracket = refl
