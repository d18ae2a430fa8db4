use Rattle.std.{proofs.Common.{◌≡◌, ℕ, ap, subst, sym, ◌∙◌, unsigned_abs, arith}, proofs.lemmas.Int.{to_z-of_z}}
use Rattle.jiff_core.specs.Date.{epoch_day}
use Rattle.mob_scalar.{specs.Calendar.{IsInYears}, proofs.DaysDated.{date_of_day}, proofs.Dates.{year_back, year_is_natural, year_small, civil_again, dated_date}}
use Rattle.mob_scalar.proofs.civil.date_of.Goals as goal

pub overflow_cast-result : goal.overflow_cast-result
overflow_cast-result c =
    let f = c.ranges.day in
    let e : epoch_day c.in-Ok.date ≡ c.args.day = simp to_z-of_z at c.in-Ok.ensures.value in
    let h = subst IsInYears (sym e) c.requires.years in
    let back = year_back c.in-Ok.date h in
    let natural = year_is_natural c.in-Ok.date h in
    let within = year_small c.in-Ok.date h in
    rw (back, natural) (tt, omega (arith, within))

pub returns-in-Ok-clause-value : goal.returns-in-Ok-clause-value
returns-in-Ok-clause-value c =
    let f = c.ranges.day in
    let e : epoch_day c.in-Ok.date ≡ c.args.day = simp to_z-of_z at c.in-Ok.ensures.value in
    let h = subst IsInYears (sym e) c.requires.years in
    ap (λ (y : ℕ). record { year = y; month = c.in-Ok.date.month; day = c.in-Ok.date.day }) (ap unsigned_abs (year_back c.in-Ok.date h)) ∙ date_of_day c.in-Ok.date c.args.day e c.requires.years

pub returns-in-Ok-clause-there : goal.returns-in-Ok-clause-there
returns-in-Ok-clause-there c =
    let f = c.ranges.day in
    let e : epoch_day c.in-Ok.date ≡ c.args.day = simp to_z-of_z at c.in-Ok.ensures.value in
    let h = subst IsInYears (sym e) c.requires.years in
    let d = c.in-Ok.date in
    rw (year_back d h) (civil_again (unsigned_abs d.year) d.month d.day (dated_date d h))
