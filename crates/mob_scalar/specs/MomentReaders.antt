-- The readers of the languages of moments.
use Rattle.std.specs.Prelude.{ℕ, codes, Option, Some}
use Rattle.mob_language.{specs.Language.{Text, is_number_sign}, specs.Readers.{TextReader, ◌>>=◌, then_at, or_at, maybe_at, means_at, text_where, word_at, one_at, behind_at}}
use Rattle.mob_numeral.{specs.declared.numeral.Figures.{Figures}, specs.NumberReaders.{digits_at}, specs.Blanks.{some_blanks_at}}
use Rattle.mob_scalar.{specs.declared.stamp.Part.{Part}, specs.declared.stamp.Clock.{Clock}, specs.declared.stamp.Offset.{Offset}, specs.declared.stamp.Stamp.{Stamp}}
use Rattle.mob_scalar.specs.CalendarReaders.{fixed_at, date_at}
use Rattle.mob_scalar.specs.Moment.{is_below, point_part, is_point_part, fraction_part, is_fraction_part, clock_of, offset_of, utc, is_z, is_t, time_of, stamp_of, is_in_years}

unfoldable pub two_digits_below_at : ℕ → TextReader ℕ
two_digits_below_at limit = text_where (is_below limit) (fixed_at 2)

unfoldable pub colon_at : TextReader ℕ
colon_at = behind_at (codes ":") (two_digits_below_at 60)

unfoldable pub decimals_at : TextReader Part
decimals_at = means_at point_part (text_where is_point_part (behind_at (codes ".") digits_at))

unfoldable pub below_at : TextReader Figures
below_at = behind_at (codes "/") digits_at

unfoldable pub quotient_at : TextReader Part
quotient_at = means_at fraction_part (text_where is_fraction_part (behind_at (codes "(") (then_at digits_at (then_at below_at (word_at (codes ")"))))))

unfoldable pub second_part_at : TextReader Part
second_part_at = or_at decimals_at quotient_at

unfoldable pub seconds_at : TextReader (ℕ × Option Part)
seconds_at = behind_at (codes ":") (then_at (two_digits_below_at 60) (maybe_at second_part_at))

unfoldable pub clock_at : TextReader Clock
clock_at = means_at clock_of (then_at (two_digits_below_at 24) (then_at colon_at (maybe_at seconds_at)))

unfoldable pub z_at : TextReader Offset
z_at = means_at (λ (c : ℕ). utc) (one_at is_z)

unfoldable pub hours_at : TextReader Offset
hours_at = means_at offset_of (then_at (one_at is_number_sign) (then_at (two_digits_below_at 16) (maybe_at colon_at)))

unfoldable pub zone_at : TextReader Offset
zone_at = or_at z_at hours_at

unfoldable pub t_at : TextReader Unit
t_at = means_at (λ (c : ℕ). tt) (one_at is_t)

unfoldable pub gap_at : TextReader Unit
gap_at = or_at some_blanks_at t_at

unfoldable pub time_at : TextReader (Clock × Offset)
time_at = means_at time_of (then_at gap_at (then_at clock_at (maybe_at zone_at)))

unfoldable pub moment_at : TextReader Stamp
moment_at = text_where is_in_years (means_at stamp_of (then_at date_at (maybe_at time_at)))

-- an offset after its sign
abbrev pub after_sign_in : ℕ → Text → Option (Offset × Text)
after_sign_in c text = then_at (two_digits_below_at 16) (maybe_at colon_at) text >>= λ x. Some (offset_of (c, x.0), x.1)
