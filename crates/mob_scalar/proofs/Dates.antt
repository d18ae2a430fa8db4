-- Dates of the years 0001 to 9999, part by part, and their days.
use Rattle.std.{specs.Prelude.{◌&&◌, nat_le}, specs.Int.Signed.{le_z}, specs.Int.{IsInRange, w16, w32}}
use Rattle.std.{proofs.Common.{◌≡◌, ℕ, ◌^◌, ◌<◌, ◌≤◌, true, ℤ, pos, neg_ℤ, ◌≤ℤ◌, negsuc, unsigned_abs, to_z, of_z, refl, sym, subst, arith, rules, inl, inr}, proofs.lemmas.Bool.{cases_lt}}
use Rattle.std.proofs.lemmas.Int.{ints, by_lt_z}
use Rattle.jiff_core.{specs.declared.civil.date.Date.{Date}, specs.Date.{epoch_day}, specs.Calendar.{days_from_civil, day_count, days_in_month, IsCivilDate}}
use Rattle.jiff_core.{proofs.CalendarLemmas.{day_count-lt_year, day_count-day_of_year, day_count-later_year, day_count_bounds, days_from_civil-day_count}, proofs.DateLemmas.{civil}}
use Rattle.jiff_core.{proofs.MarchLemmas.{day_count-early}, proofs.SignedLemmas.{signed_arith, back_small}}
use Rattle.mob_scalar.{specs.declared.civil.Civil.{Civil}, specs.Calendar.{is_civil, day_of, IsInYears}}

pub le_yes : (a b : ℤ) → a ≤ℤ b → le_z a b ≡ true
le_yes a b h = grind (arith, ints)

-- a date of the years 0001 to 9999, part by part
pub record IsDated (y m d : ℕ) : Type 0 where
  pub from : 1 ≤ y
  pub to : y ≤ 9999
  pub month : IsInRange 1 12 m
  pub day : IsInRange 1 (days_in_month (pos y) m) d

pub dated : (c : Civil) → is_civil c ≡ true → IsDated c.year c.month c.day
dated c h = record { from = search rules; to = search rules; month = search rules; day = search rules }

pub as_civil : (y m d : ℕ) → IsDated y m d → IsCivilDate (pos y) m d
as_civil y m d h = let a = h.from in let b = h.to in ((omega (arith, signed_arith, a, b), omega (arith, signed_arith, a, b)), h.month, h.day)

pub first : day_count (pos 1) 1 1 ≡ 3_652_791
first = day_count-early (pos 1) 10000 1 1 refl (omega arith) (omega arith) (omega arith)

from_first : (y m d : ℕ) → IsDated y m d → 3_652_791 ≤ day_count (pos y) m d
from_first y m d h = elim (cases_lt 1 y) [
  | inl lt ↦ omega (arith, first, day_count-later_year (pos 1) (pos y) (omega (arith, signed_arith)) (omega (arith, signed_arith, lt)), day_count-day_of_year (pos y) m d h.day.0, h.day.0)
  | inr ge ↦ let e : y ≡ 1 = omega (arith, ge, h.from) in rw e (omega (arith, first, day_count-day_of_year (pos 1) m d h.day.0, h.day.0))
]

pub day_in_years : (y m d : ℕ) → IsDated y m d → IsInYears (days_from_civil (pos y) m d)
day_in_years y m d h =
    let a = from_first y m d h in
    let b = day_count_bounds (pos y) m d (as_civil y m d h) in
    record {
      from_first = omega (arith, signed_arith, days_from_civil-day_count (pos y) m d, a);
      to_last = omega (arith, signed_arith, days_from_civil-day_count (pos y) m d, b);
    }

-- a date of the calendar whose day is in these years
year_within : (d : Date) → IsInYears (epoch_day d) → pos 1 ≤ℤ d.year
year_within d h = by_lt_z d.year (pos 1)
    (λ lt. absurd (omega (arith, signed_arith, first, day_count-lt_year d.year d.month d.day (pos 1) 1 1 (civil d) (omega arith) lt, days_from_civil-day_count d.year d.month d.day, h.from_first)))
    (λ ge. ge)

pub year_is_natural : (d : Date) → IsInYears (epoch_day d) → d.year ≡ pos (unsigned_abs d.year)
year_is_natural d h = natural d.year (year_within d h)
  where
    natural : (z : ℤ) → pos 1 ≤ℤ z → z ≡ pos (unsigned_abs z)
    natural (pos n) h = refl
    natural (negsuc n) h = absurd (omega (arith, signed_arith, h))

pub dated_date : (d : Date) → IsInYears (epoch_day d) → IsDated (unsigned_abs d.year) d.month d.day
dated_date d h =
    let e = year_is_natural d h in
    let a = year_within d h in
    record {
      from = omega (arith, signed_arith, e, a);
      to = omega (arith, signed_arith, e, d.year_in);
      month = d.month_in;
      day = subst (λ (z : ℤ). IsInRange 1 (days_in_month z d.month) d.day) e d.day_in;
    }

pub year_back : (d : Date) → IsInYears (epoch_day d) → to_z w16 (of_z w16 d.year) ≡ d.year
year_back d h = back_small w16 d.year (omega (arith, signed_arith, year_is_natural d h, d.year_in))

pub year_small : (d : Date) → IsInYears (epoch_day d) → unsigned_abs d.year < 2 ^ 32
year_small d h = let k = dated_date d h in omega (arith, k.to)

-- a day of these years fits in 32 bits
pub day_back : (day : ℤ) → IsInYears day → to_z w32 (of_z w32 day) ≡ day
day_back day h = back_small w32 day (small day h.from_first h.to_last)
  where
    small : (z : ℤ) → neg_ℤ (pos 719162) ≤ℤ z → z ≤ℤ pos 2932896 → unsigned_abs z < 2 ^ 31
    small (pos n) a b = omega (arith, signed_arith, a, b)
    small (negsuc n) a b = omega (arith, signed_arith, a, b)

pub read_day : (c : Civil) (day : ℤ) → is_civil c ≡ true → day ≡ day_of c → IsInYears day
read_day c day h e = subst IsInYears (sym e) (day_in_years c.year c.month c.day (dated c h))

-- the parts of such a date are a valid date
pub civil_again : (y m d : ℕ) → IsDated y m d → is_civil (record { year = y; month = m; day = d }) ≡ true
civil_again y m d h = tests y m d (days_in_month (pos y) m) h.from h.to h.month h.day
  where
    tests : (y m d n : ℕ) → 1 ≤ y → y ≤ 9999 → IsInRange 1 12 m → IsInRange 1 n d → (nat_le 1 y && (nat_le y 9999 && (nat_le 1 m && (nat_le m 12 && (nat_le 1 d && nat_le d n))))) ≡ true
    tests y m d n a b e f = search rules
