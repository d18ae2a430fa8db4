-- The texts of moments.
use Rattle.std.{specs.Prelude.{ℕ, ◌+◌, ◌*◌, ◌^◌, ◌<◌, codes, Bool, false, ◌&&◌, ◌||◌, cond, nat_le, nat_lt, nat_eq, Option, Some, None, ℤ, pos, neg_ℤ, ◌+ℤ◌, ◌-ℤ◌, ◌*ℤ◌}, specs.Int.Signed.{le_z}}
use Rattle.mob_ratio.specs.Ratio.{Ratio, over, whole, ◌+ℚ◌}
use Rattle.mob_language.specs.Language.{Language, ◌▷◌, ◌∣◌, Maybe, Means, Where, Word, OneOf, behind, is_number_sign}
use Rattle.mob_numeral.{specs.declared.numeral.Figures.{Figures}, specs.Blanks.{some_blanks}, specs.Figures.{digits}}
use Rattle.mob_scalar.{specs.declared.civil.Civil.{Civil}, specs.declared.stamp.Part.{Part}, specs.declared.stamp.Clock.{Clock}, specs.declared.stamp.Offset.{Offset}}
use Rattle.mob_scalar.{specs.declared.stamp.Stamp.{Stamp}, specs.Calendar.{fixed, date, day_of}}

abbrev pub is_below : ℕ → ℕ → Bool
is_below limit n = nat_lt n limit

abbrev pub two_digits_below : ℕ → Language ℕ
two_digits_below limit = Where (is_below limit) (fixed 2)

abbrev pub point_part : Figures → Part
point_part f = record { numerator = f.value; denominator = 10 ^ f.count }

abbrev pub is_point_part : Figures → Bool
is_point_part f = nat_le 1 f.count && nat_le f.count 18

abbrev pub fraction_part : Figures × (Figures × Unit {0}) → Part
fraction_part v = record { numerator = v.0.value; denominator = v.1.0.value }

abbrev pub is_fraction_part : Figures × (Figures × Unit {0}) → Bool
is_fraction_part v = nat_le 1 v.0.count && nat_lt v.0.value v.1.0.value

-- a point and 1 to 18 digits, or (p/q) with p below q
abbrev pub part : Language Part
part = Means point_part (Where is_point_part (behind (codes ".") digits))
    ∣ Means fraction_part (Where is_fraction_part (behind (codes "(") (digits ▷ (behind (codes "/") digits ▷ Word (codes ")")))))

abbrev pub part_of : Option Part → Part
part_of None = record { numerator = 0; denominator = 1 }
part_of (Some p) = p

abbrev pub seconds_of : Option (ℕ × Option Part) → ℕ
seconds_of None = 0
seconds_of (Some v) = v.0

abbrev pub second_part : Option (ℕ × Option Part) → Part
second_part None = part_of None
second_part (Some v) = part_of v.1

abbrev pub clock_of : ℕ × (ℕ × Option (ℕ × Option Part)) → Clock
clock_of v = record { seconds = v.0 * 3600 + v.1.0 * 60 + seconds_of v.1.1; part = second_part v.1.1 }

-- HH:MM, then optionally :SS, which a part of a second may follow
abbrev pub clock : Language Clock
clock = Means clock_of (two_digits_below 24 ▷ (behind (codes ":") (two_digits_below 60) ▷ Maybe (behind (codes ":") (two_digits_below 60 ▷ Maybe part))))

abbrev pub is_west : ℕ → Bool
is_west c = nat_eq c 45

abbrev pub minutes_of : Option ℕ → ℕ
minutes_of None = 0
minutes_of (Some n) = n

abbrev pub offset_of : ℕ × (ℕ × Option ℕ) → Offset
offset_of v = record { west = is_west v.0; seconds = v.1.0 * 3600 + minutes_of v.1.1 * 60 }

abbrev pub utc : Offset
utc = record { west = false; seconds = 0 }

abbrev pub is_z : ℕ → Bool
is_z c = nat_eq c 90 || nat_eq c 122

-- Z, or a sign and HH, or a sign and HH:MM
abbrev pub zone : Language Offset
zone = Means (λ (c : ℕ). utc) (OneOf is_z) ∣ Means offset_of (OneOf is_number_sign ▷ (two_digits_below 16 ▷ Maybe (behind (codes ":") (two_digits_below 60))))

abbrev pub is_t : ℕ → Bool
is_t c = nat_eq c 84 || nat_eq c 116

-- at least one blank, or a T
abbrev pub gap : Language Unit
gap = some_blanks ∣ Means (λ (c : ℕ). tt) (OneOf is_t)

abbrev pub zone_of : Option Offset → Offset
zone_of None = utc
zone_of (Some o) = o

abbrev pub time_of : Unit {0} × (Clock × Option Offset) → Clock × Offset
time_of v = (v.1.0, zone_of v.1.1)

abbrev pub time : Language (Clock × Offset)
time = Means time_of (gap ▷ (clock ▷ Maybe zone))

abbrev pub midnight : Clock
midnight = record { seconds = 0; part = part_of None }

abbrev pub stamp_of : Civil × Option (Clock × Offset) → Stamp
stamp_of (d, None) = record { date = d; clock = midnight; offset = utc }
stamp_of (d, Some t) = record { date = d; clock = t.0; offset = t.1 }

abbrev pub shift : Offset → ℤ
shift o = cond o.west (pos o.seconds) (neg_ℤ (pos o.seconds))

-- whole seconds since midnight UTC of 1970-01-01
unfoldable pub seconds : Stamp → ℤ
seconds s = day_of s.date *ℤ pos 86400 +ℤ pos s.clock.seconds +ℤ shift s.offset

-- a second of the years 0001 to 9999: from 0001-01-01 00:00:00 to 9999-12-31 23:59:59
abbrev pub is_year_second : ℤ → Bool
is_year_second n = le_z (neg_ℤ (pos 62135596800)) n && le_z n (pos 253402300799)

-- the moment is in the years 0001 to 9999 in UTC
abbrev pub is_in_years : Stamp → Bool
is_in_years s = is_year_second (seconds s)

abbrev pub moment : Language Stamp
moment = Where is_in_years (Means stamp_of (date ▷ Maybe time))

-- the moment in seconds since midnight of the epoch day
unfoldable pub instant : ℤ → Stamp → Ratio
instant epoch s = whole (seconds s -ℤ epoch *ℤ pos 86400) +ℚ over (pos s.clock.part.numerator) s.clock.part.denominator

-- a part of a second, with a numerator of at most 126 bits
pub record IsPartSmall (p : Part) : Type 0 where
  pub below : p.numerator < p.denominator
  pub fits : p.numerator < 2 ^ 126
