-- The text of a moment.
--
-- A moment is an instant, in seconds since midnight UTC of the epoch day. Its text is `YYYY-MM-DD
-- HH:MM:SS`, then the part of a second, then `+00`. The part is empty for a whole second. If at
-- most six decimal digits are exact, it is a point and the fewest such digits, else the fraction in
-- brackets. Outside the years 0001 to 9999 the text is `epoch+(n)`, with the number n of seconds.
use Rattle.std.specs.Prelude.{◌≡◌, true, ℕ, zero, suc, ◌*◌, ◌-◌, ◌/◌, ◌%◌, ◌==◌, List, [], ◌∷◌, ◌++◌, length, codes, replicate, position, ◌^◌, if◌then◌else◌, Option, Some, None, ℤ, pos, unsigned_abs}
use Rattle.std.{specs.Prelude.{◌+ℤ◌, ◌*ℤ◌}, specs.Fmt.{decimal}, specs.Int.{int_div_euclid, int_rem_euclid}}
use Rattle.mob_ratio.specs.Ratio.{Ratio}
use Rattle.mob_frac.specs.Fits.{Fits}
use Rattle.mob_language.specs.Language.{Text}
use Rattle.mob_scalar.{specs.declared.civil.Civil.{Civil}, specs.Calendar.{date_of}, specs.Moment.{is_year_second}}
use Rattle.mob_numeral.specs.NumberText.{number_text}

-- a number in at least k digits, with leading zeros
unfoldable pub padded : ℕ → ℕ → Text
padded k n = replicate (k - length (decimal n)) 48 ++ decimal n

-- YYYY-MM-DD
unfoldable pub date_text : Civil → Text
date_text c = padded 4 c.year ++ (codes "-" ++ (padded 2 c.month ++ (codes "-" ++ padded 2 c.day)))

-- HH:MM:SS, of the seconds since midnight
unfoldable pub clock_text : ℕ → Text
clock_text s = padded 2 (s / 3600) ++ (codes ":" ++ (padded 2 (s / 60 % 60) ++ (codes ":" ++ padded 2 (s % 60))))

-- 1, 10, 100 and so on to a million
abbrev pub powers : List ℕ
powers = 1 ∷ 10 ∷ 100 ∷ 1000 ∷ 10000 ∷ 100000 ∷ 1000000 ∷ []

-- the number of decimal digits that are exact for a fraction with this denominator, if at most six
-- are
unfoldable pub places : ℕ → Option ℕ
places denominator = position (λ power. power % denominator == 0) powers

-- (p/q)
unfoldable pub quotient_text : ℕ → ℕ → Text
quotient_text numerator denominator = codes "(" ++ (decimal numerator ++ (codes "/" ++ (decimal denominator ++ codes ")")))

-- a point and k digits
unfoldable pub decimals_text : ℕ → ℕ → ℕ → Text
decimals_text k numerator denominator = codes "." ++ padded k (numerator * 10 ^ k / denominator)

-- a part of a second, in the given number of digits, or else as a fraction
abbrev pub part_in : Option ℕ → ℕ → ℕ → Text
part_in None numerator denominator = quotient_text numerator denominator
part_in (Some zero) numerator denominator = []
part_in (Some (suc k)) numerator denominator = decimals_text (suc k) numerator denominator

unfoldable pub part_text : ℕ → ℕ → Text
part_text numerator denominator = part_in (places denominator) numerator denominator

-- the greatest whole number of seconds that is not above q; then the numerator of the part of a
-- second beyond it
abbrev pub whole_seconds : Ratio → ℤ
whole_seconds q = int_div_euclid q.num (pos q.den)

abbrev pub part_numerator : Ratio → ℕ
part_numerator q = unsigned_abs (int_rem_euclid q.num (pos q.den))

-- the text of a date, of the seconds since its midnight, and of a part of a second
unfoldable pub stamp_text : Civil → ℕ → ℕ → ℕ → Text
stamp_text date clock numerator denominator =
    date_text date ++ (codes " " ++ (clock_text clock ++ (part_text numerator denominator ++ codes "+00")))

-- the text of a second of the years 0001 to 9999, counted from 1970-01-01 00:00:00, and of a part
-- of a second
unfoldable pub second_text : ℤ → ℕ → ℕ → Text
second_text second numerator denominator =
    stamp_text (date_of (int_div_euclid second (pos 86400))) (unsigned_abs (int_rem_euclid second (pos 86400))) numerator denominator

-- the text of an instant outside these years
unfoldable pub far_text : Ratio → Text
far_text q = codes "epoch+(" ++ (number_text q ++ codes ")")

-- the second of the instant q, counted from 1970-01-01 00:00:00
abbrev pub second_of : ℤ → Ratio → ℤ
second_of epoch q = whole_seconds q +ℤ epoch *ℤ pos 86400

-- the instant q is in the years 0001 to 9999
abbrev pub HasDate : ℤ → Ratio → Type 0
HasDate epoch q = is_year_second (second_of epoch q) ≡ true

-- the instant fits, and is in the years 0001 to 9999
pub record IsDated (day : ℤ) (t : Ratio) : Type 0 where
  pub fits : Fits t
  pub dated : HasDate day t

-- the text of the instant q, in seconds since midnight UTC of the epoch day
unfoldable pub moment_text : ℤ → Ratio → Text
moment_text epoch q =
    if is_year_second (second_of epoch q) then second_text (second_of epoch q) (part_numerator q) q.den else far_text q
