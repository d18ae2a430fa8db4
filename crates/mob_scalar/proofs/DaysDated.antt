-- Each day of the years 0001 to 9999 is the day of its date.
use Rattle.std.{specs.Int.Signed.{le_z}, specs.Int.{IsInRange}}
use Rattle.std.proofs.Common.{◌≡◌, ℕ, zero, suc, ◌+◌, ◌<◌, ◌≤◌, Bool, true, false, cond, ℤ, pos, ◌+ℤ◌, ◌-ℤ◌, ◌≤ℤ◌, ◌<ℤ◌, unsigned_abs, refl, sym, ap, subst, ◌∙◌, arith, inl, inr}
use Rattle.std.{proofs.lemmas.Bool.{cases_lt}, proofs.lemmas.Int.{ints}}
use Rattle.jiff_core.{specs.declared.civil.date.Date.{Date}, specs.Date.{epoch_day}, specs.Calendar.{days_from_civil, days_in_month}}
use Rattle.jiff_core.proofs.CalendarLemmas.{day_count-end, days_from_civil-day_count, days_in_month_bounds}
use Rattle.jiff_core.{proofs.DateLemmas.{epoch_day_injective, days_from_civil-day, days_from_civil-next_month, days_from_civil-next_year}, proofs.SignedLemmas.{signed_arith}}
use Rattle.mob_scalar.{specs.declared.civil.Civil.{Civil}, specs.Calendar.{is_civil, day_of, greatest_passing, year_of, month_of, place_in, date_of, IsInYears}}
use Rattle.mob_scalar.proofs.Dates.{first, civil_again, le_yes, dated, as_civil}

-- the greatest number up to n that passes the test, if 1 does
record IsLast (test : ℕ → Bool) (n k : ℕ) : Type 0 where
  one : 1 ≤ k
  le : k ≤ n
  there : test k ≡ true
  next : k < n → test (k + 1) ≡ false

last_found : (test : ℕ → Bool) (n : ℕ) → 1 ≤ n → test 1 ≡ true → IsLast test n (greatest_passing test n)
last_found test zero some begins = absurd (omega arith)
last_found test (suc n) some begins = by_test (λ more. last_found test n more begins) (test (suc n)) refl
  where
    true_false : (b : Bool) → b ≡ true → b ≡ false → ⊥
    true_false b h k = absurd cc

    further : {k : ℕ} → test (suc n) ≡ false → IsLast test n k → IsLast test (suc n) k
    further {k} e h = record {
      one = h.one;
      le = let le = h.le in omega (arith, le);
      there = h.there;
      next = λ lt. elim (cases_lt k n) [
        | inl less ↦ h.next less
        | inr ge ↦ let same : suc n ≡ k + 1 = let le = h.le in omega (arith, ge, le) in subst (λ (j : ℕ). test j ≡ false) same e
      ];
    }

    by_test : (1 ≤ n → IsLast test n (greatest_passing test n)) → (b : Bool) → test (suc n) ≡ b → IsLast test (suc n) (cond b (suc n) (greatest_passing test n))
    by_test below true e = record { one = omega arith; le = omega arith; there = e; next = λ lt. absurd (omega (arith, lt)) }
    by_test below false e = elim (cases_lt 0 n) [
      | inl more ↦ further e (below more)
      | inr none ↦ let z : suc n ≡ 1 = omega (arith, none) in absurd (true_false (test (suc n)) (ap test z ∙ begins) e)
    ]

pub le_from : (a b : ℤ) → le_z a b ≡ true → a ≤ℤ b
le_from a b e = grind (arith, ints)

lt_from : (a b : ℤ) → le_z a b ≡ false → b <ℤ a
lt_from a b e = grind (arith, ints)

-- the day is in the year that begins on 1 January of y
record IsInYear (y : ℕ) (day : ℤ) : Type 0 where
  from : 1 ≤ y
  to : y ≤ 9999
  begun : days_from_civil (pos y) 1 1 ≤ℤ day
  ends : day <ℤ days_from_civil (pos (y + 1)) 1 1

year_found : (day : ℤ) → IsInYears day → IsInYear (year_of day) day
unfolding year_of
year_found day h =
    let test : ℕ → Bool = λ y. le_z (days_from_civil (pos y) 1 1) day in
    let low = h.from_first in
    let high = h.to_last in
    let l = last_found test 9999 (omega arith) (le_yes (days_from_civil (pos 1) 1 1) day (omega (arith, signed_arith, days_from_civil-day_count (pos 1) 1 1, first, low))) in
    record {
      from = l.one;
      to = l.le;
      begun = le_from _ _ l.there;
      ends = elim (cases_lt (greatest_passing test 9999) 9999) [
        | inl lt ↦ lt_from _ _ (l.next lt)
        | inr ge ↦
            let le = l.le in
            let e : greatest_passing test 9999 + 1 ≡ 10000 = omega (arith, ge, le) in
            subst (λ (k : ℕ). day <ℤ days_from_civil (pos k) 1 1) (sym e) (omega (arith, signed_arith, days_from_civil-day_count (pos 10000) 1 1, day_count-end, high))
      ];
    }

-- the day is in the month m of the year y
record IsInMonth (y m : ℕ) (day : ℤ) : Type 0 where
  month : IsInRange 1 12 m
  begun : days_from_civil (pos y) m 1 ≤ℤ day
  ends : day <ℤ (days_from_civil (pos y) m 1 +ℤ pos (days_in_month (pos y) m))

-- the last day of a month
last_day : (y m : ℕ) → days_from_civil (pos y) m 1 +ℤ pos (days_in_month (pos y) m) ≡ days_from_civil (pos y) m (days_in_month (pos y) m) +ℤ pos 1
last_day y m = days_from_civil-day (pos y) m 1 (days_in_month (pos y) m) (omega arith) (let b = days_in_month_bounds (pos y) m in omega (arith, b))

month_ends : (y m : ℕ) → 1 ≤ m → days_from_civil (pos y) (m + 1) 1 ≡ days_from_civil (pos y) m 1 +ℤ pos (days_in_month (pos y) m)
month_ends y m one = days_from_civil-next_month (pos y) m (days_in_month (pos y) m) one refl ∙ sym (last_day y m)

year_ends : (y : ℕ) → days_from_civil (pos (y + 1)) 1 1 ≡ days_from_civil (pos y) 12 1 +ℤ pos (days_in_month (pos y) 12)
year_ends y = days_from_civil-next_year (pos y) (pos (y + 1)) (omega (arith, signed_arith)) (omega (arith, signed_arith)) ∙ sym (last_day y 12)

month_found : (y : ℕ) (day : ℤ) → IsInYear y day → IsInMonth y (month_of y day) day
unfolding month_of
month_found y day h =
    let test : ℕ → Bool = λ m. le_z (days_from_civil (pos y) m 1) day in
    let l = last_found test 12 (omega arith) (le_yes (days_from_civil (pos y) 1 1) day h.begun) in
    record {
      month = (l.one, l.le);
      begun = le_from _ _ l.there;
      ends = elim (cases_lt (greatest_passing test 12) 12) [
        | inl lt ↦ subst (λ (z : ℤ). day <ℤ z) (month_ends y (greatest_passing test 12) l.one) (lt_from _ _ (l.next lt))
        | inr ge ↦
            let le = l.le in
            let e : greatest_passing test 12 ≡ 12 = omega (arith, ge, le) in
            subst (λ (k : ℕ). day <ℤ (days_from_civil (pos y) k 1 +ℤ pos (days_in_month (pos y) k))) (sym e) (subst (λ (z : ℤ). day <ℤ z) (year_ends y) h.ends)
      ];
    }

-- the position of a day in its month
record IsPlace (y m d : ℕ) (day : ℤ) : Type 0 where
  within : IsInRange 1 (days_in_month (pos y) m) d
  same : days_from_civil (pos y) m d ≡ day

place_found : (y m : ℕ) (day : ℤ) → IsInMonth y m day → IsPlace y m (place_in y m day) day
unfolding place_in
place_found y m day h =
    let n = unsigned_abs (day -ℤ days_from_civil (pos y) m 1) in
    let e : day ≡ days_from_civil (pos y) m 1 +ℤ pos n = beyond day (days_from_civil (pos y) m 1) h.begun in
    let ends = h.ends in
    let at = days_from_civil-day (pos y) m 1 (n + 1) (omega arith) (omega arith) in
    record {
      within = (omega arith, omega (arith, signed_arith, e, ends));
      same = omega (arith, signed_arith, at, e);
    }
  where
    beyond : (a b : ℤ) → b ≤ℤ a → a ≡ b +ℤ pos (unsigned_abs (a -ℤ b))
    beyond a b le = grind (arith, ints)

-- the date of a day is valid, and its day is that day
pub record IsItsDate (day : ℤ) : Type 0 where
  pub there : is_civil (date_of day) ≡ true
  pub same : day_of (date_of day) ≡ day

pub date_there : (day : ℤ) → IsInYears day → IsItsDate day
unfolding date_of
date_there day h =
    let y = year_of day in
    let m = month_of y day in
    let d = place_in y m day in
    let in_year = year_found day h in
    let in_month = month_found y day in_year in
    let place = place_found y m day in_month in
    record {
      there = civil_again y m d (record { from = in_year.from; to = in_year.to; month = in_month.month; day = place.within });
      same = place.same;
    }

-- a date with this day is its date: no other date has this day
pub date_of_day : (d : Date) (day : ℤ) → epoch_day d ≡ day → IsInYears day → ◌≡◌ {A = Civil} (record { year = unsigned_abs d.year; month = d.month; day = d.day }) (date_of day)
date_of_day d day e h =
    let c = date_of day in
    let its = date_there day h in
    let parts = dated c its.there in
    let as_date : Date = record { year = pos c.year; month = c.month; day = c.day; year_in = (as_civil c.year c.month c.day parts).0; month_in = parts.month; day_in = parts.day } in
    let same = epoch_day_injective d as_date (e ∙ sym its.same) in
    equal (ap unsigned_abs same.0) same.1 same.2
  where
    equal : {y m k y' m' k' : ℕ} → y ≡ y' → m ≡ m' → k ≡ k' → ◌≡◌ {A = Civil} (record { year = y; month = m; day = k }) (record { year = y'; month = m'; day = k' })
    equal a b e = λ i. record { year = a i; month = b i; day = e i }
