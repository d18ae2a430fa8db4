-- Dates of the calendar, from the year 0001 to 9999: their texts, and the date of a day.
--
-- The calendar is the proleptic Gregorian one. Days are numbered: 0 is 1970-01-01, and the day
-- before it is -1.
use Rattle.std.{specs.Prelude.{ℕ, zero, suc, ◌+◌, codes, Bool, ◌&&◌, cond, nat_le, nat_eq, unsigned_abs, ℤ, pos, neg_ℤ, ◌-ℤ◌, ◌≤ℤ◌}, specs.Int.Signed.{le_z}}
use Rattle.jiff_core.specs.Calendar.{days_from_civil, days_in_month}
use Rattle.mob_language.specs.Language.{Language, ◌▷◌, Means, Where, behind}
use Rattle.mob_scalar.specs.declared.civil.Civil.{Civil}
use Rattle.mob_numeral.{specs.declared.numeral.Figures.{Figures}, specs.Figures.{digits}}

abbrev pub has_count : ℕ → Figures → Bool
has_count k f = nat_eq f.count k

abbrev pub number_in : Figures → ℕ
number_in f = f.value

-- exactly k digits
abbrev pub fixed : ℕ → Language ℕ
fixed k = Means number_in (Where (has_count k) digits)

abbrev pub civil_of : ℕ × (ℕ × ℕ) → Civil
civil_of v = record { year = v.0; month = v.1.0; day = v.1.1 }

-- the date exists in the calendar, in the years 0001 to 9999
abbrev pub is_civil : Civil → Bool
is_civil c = nat_le 1 c.year && (nat_le c.year 9999 && (nat_le 1 c.month && (nat_le c.month 12 && (nat_le 1 c.day && nat_le c.day (days_in_month (pos c.year) c.month)))))

-- YYYY-MM-DD, a date that exists
abbrev pub date : Language Civil
date = Where is_civil (Means civil_of (fixed 4 ▷ (behind (codes "-") (fixed 2) ▷ behind (codes "-") (fixed 2))))

-- the number of a date's day
abbrev pub day_of : Civil → ℤ
day_of c = days_from_civil (pos c.year) c.month c.day

-- the greatest of the numbers 1 to n that passes the test, or 0 if none does
abbrev pub greatest_passing : (ℕ → Bool) → ℕ → ℕ
greatest_passing test zero = zero
greatest_passing test (suc n) = cond (test (suc n)) (suc n) (greatest_passing test n)

-- the year of a day: the last one from 0001 to 9999 whose first day is not after it
unfoldable pub year_of : ℤ → ℕ
year_of day = greatest_passing (λ y. le_z (days_from_civil (pos y) 1 1) day) 9999

-- the month of a day in a year: the last of its twelve months whose first day is not after it
unfoldable pub month_of : ℕ → ℤ → ℕ
month_of y day = greatest_passing (λ m. le_z (days_from_civil (pos y) m 1) day) 12

-- the position of a day in a month, from 1
unfoldable pub place_in : ℕ → ℕ → ℤ → ℕ
place_in y m day = unsigned_abs (day -ℤ days_from_civil (pos y) m 1) + 1

-- the date of the day with this number, of the years 0001 to 9999
unfoldable pub date_of : ℤ → Civil
date_of day = let y = year_of day in let m = month_of y day in record { year = y; month = m; day = place_in y m day }

-- a day of the years 0001 to 9999: from 0001-01-01 to 9999-12-31
pub record IsInYears (day : ℤ) : Type 0 where
  pub from_first : neg_ℤ (pos 719162) ≤ℤ day
  pub to_last : day ≤ℤ pos 2932896

-- the day of the standard epoch, 2000-01-01
abbrev pub standard_day : ℤ
standard_day = days_from_civil (pos 2000) 1 1
