-- Examples, worked by hand: which texts are points.
use Rattle.std.{specs.Prelude.{is_some}, proofs.Common.{◌≡◌, true, Option, None, codes, refl}}
use Rattle.mob_language.{specs.Language.{Text}, specs.Readers.{all_of, within_blanks_at}}
use Rattle.mob_numeral.{specs.Blanks.{some_blanks_at}, specs.Fitting.{number_value_at}}
use Rattle.mob_numeral.specs.NumberReaders.{numeral_at, sign_at, digits_at, tail_at, over_at, decimal_at, point_at, exponent_at, power_at}
use Rattle.mob_plane.specs.declared.point.Point.{Point}
use Rattle.mob_points.specs.Points.{close_bracket_at, coordinates_at, written_point_at, srid_zero_at, behind_srid_at, point_value_at}

abbrev read : Text → Option (Option Point)
read text = all_of (within_blanks_at point_value_at) text

-- mixed letter case, blanks beside the brackets and at both ends
in_full : is_some (read (codes " srid=0 ; Point ( 1 -2/4 ) ")) ≡ true
unfolding point_value_at behind_srid_at srid_zero_at written_point_at coordinates_at close_bracket_at some_blanks_at number_value_at numeral_at sign_at digits_at tail_at over_at decimal_at point_at exponent_at power_at
in_full = refl

-- one coordinate does not make a point
one_number : read (codes "POINT(1)") ≡ None
unfolding point_value_at behind_srid_at srid_zero_at written_point_at coordinates_at close_bracket_at some_blanks_at number_value_at numeral_at sign_at digits_at tail_at over_at decimal_at point_at exponent_at power_at
one_number = refl

-- a reference system other than 0
other_system : read (codes "SRID=4326;POINT(1 2)") ≡ None
unfolding point_value_at behind_srid_at srid_zero_at written_point_at coordinates_at
other_system = refl

-- a comma between coordinates is refused
with_comma : read (codes "POINT(1,2)") ≡ None
unfolding point_value_at behind_srid_at srid_zero_at written_point_at coordinates_at close_bracket_at some_blanks_at number_value_at numeral_at sign_at digits_at tail_at over_at decimal_at point_at exponent_at power_at
with_comma = refl
