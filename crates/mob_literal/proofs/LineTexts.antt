-- Examples of whole texts of a tgeompoint: which of them are literals. Each is decided by
-- computation.
use Rattle.jiff_core.specs.Calendar.{days_from_civil, day_count, days_of_years, days_of_months}
use Rattle.std.{specs.Prelude.{is_some}, proofs.Common.{◌≡◌, Bool, true, false, pos, codes, refl}}
use Rattle.mob_language.{specs.Language.{Text}, specs.Readers.{all_of, items_at, separated_at}}
use Rattle.mob_numeral.{specs.Blanks.{some_blanks_at}, specs.Fitting.{number_value_at}}
use Rattle.mob_numeral.specs.NumberReaders.{numeral_at, sign_at, digits_at, tail_at, over_at, decimal_at, point_at, exponent_at, power_at}
use Rattle.mob_scalar.{specs.Brackets.{comma_at, opening_at, closing_at, open_brace_at, close_brace_at}, specs.CalendarReaders.{fixed_at, dash_at, date_at}}
use Rattle.mob_scalar.specs.MomentReaders.{two_digits_below_at, colon_at, decimals_at, below_at, quotient_at, second_part_at, seconds_at, clock_at, z_at, hours_at, zone_at, t_at, gap_at, time_at}
use Rattle.mob_scalar.{specs.MomentReaders.{moment_at}, specs.Moment.{seconds}}
use Rattle.mob_points.specs.Points.{close_bracket_at, coordinates_at, written_point_at, srid_zero_at, behind_srid_at, point_value_at}
use Rattle.mob_written.specs.Prefix.{admitted, prefix_at, one_prefix_at, prefixes_at}
use Rattle.mob_written.specs.Literal.{at_sign_at, noted_at, instants_at, sequence_at, sequences_at, members_at, braced_at, temporal_literal_at, prefixed_at, temporal_at}

-- the text is a literal of a tgeompoint
abbrev is_literal : Text → Bool
is_literal text = is_some (all_of (temporal_at (admitted false true) (noted_at (pos 0) point_value_at)) text)

-- letters in any case, as in MobilityDB and elsewhere
either_case : is_literal (codes "{[Point(0 9)@2001-01-01 08:00:00+01, POINT(9 9)@2001-01-01 08:00:09+01]}") ≡ true
unfolding items_at separated_at some_blanks_at number_value_at numeral_at sign_at digits_at tail_at over_at decimal_at point_at exponent_at power_at comma_at opening_at closing_at open_brace_at close_brace_at fixed_at dash_at date_at two_digits_below_at colon_at decimals_at below_at quotient_at second_part_at seconds_at clock_at z_at hours_at zone_at t_at gap_at time_at moment_at seconds days_from_civil day_count days_of_years days_of_months close_bracket_at coordinates_at written_point_at srid_zero_at behind_srid_at point_value_at prefix_at one_prefix_at prefixes_at at_sign_at noted_at instants_at sequence_at sequences_at members_at braced_at temporal_literal_at prefixed_at temporal_at
either_case = refl

-- prefixes before a literal and before each of its points
before_all_and_each : is_literal (codes "srid=0; Interp=Step; (POINT(0 0)@2001-01-01, SRID=0;POINT(1 0)@2001-01-02]") ≡ true
unfolding items_at separated_at some_blanks_at number_value_at numeral_at sign_at digits_at tail_at over_at decimal_at point_at exponent_at power_at comma_at opening_at closing_at open_brace_at close_brace_at fixed_at dash_at date_at two_digits_below_at colon_at decimals_at below_at quotient_at second_part_at seconds_at clock_at z_at hours_at zone_at t_at gap_at time_at moment_at seconds days_from_civil day_count days_of_years days_of_months close_bracket_at coordinates_at written_point_at srid_zero_at behind_srid_at point_value_at prefix_at one_prefix_at prefixes_at at_sign_at noted_at instants_at sequence_at sequences_at members_at braced_at temporal_literal_at prefixed_at temporal_at
before_all_and_each = refl

-- a reference system other than 0
another_system : is_literal (codes "SRID=4326;POINT(1 2)@2001-01-01") ≡ false
unfolding items_at separated_at some_blanks_at number_value_at numeral_at sign_at digits_at tail_at over_at decimal_at point_at exponent_at power_at comma_at opening_at closing_at open_brace_at close_brace_at fixed_at dash_at date_at two_digits_below_at colon_at decimals_at below_at quotient_at second_part_at seconds_at clock_at z_at hours_at zone_at t_at gap_at time_at moment_at seconds days_from_civil day_count days_of_years days_of_months close_bracket_at coordinates_at written_point_at srid_zero_at behind_srid_at point_value_at prefix_at one_prefix_at prefixes_at at_sign_at noted_at instants_at sequence_at sequences_at members_at braced_at temporal_literal_at prefixed_at temporal_at
another_system = refl

-- one coordinate does not make a point
one_coordinate : is_literal (codes "POINT(1)@2001-01-01") ≡ false
unfolding items_at separated_at some_blanks_at number_value_at numeral_at sign_at digits_at tail_at over_at decimal_at point_at exponent_at power_at comma_at opening_at closing_at open_brace_at close_brace_at fixed_at dash_at date_at two_digits_below_at colon_at decimals_at below_at quotient_at second_part_at seconds_at clock_at z_at hours_at zone_at t_at gap_at time_at moment_at seconds days_from_civil day_count days_of_years days_of_months close_bracket_at coordinates_at written_point_at srid_zero_at behind_srid_at point_value_at prefix_at one_prefix_at prefixes_at at_sign_at noted_at instants_at sequence_at sequences_at members_at braced_at temporal_literal_at prefixed_at temporal_at
one_coordinate = refl
