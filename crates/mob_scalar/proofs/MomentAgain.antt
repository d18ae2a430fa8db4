-- The printed text of a moment denotes that moment.
use Rattle.std.{specs.Prelude.{Ok}, specs.Int.{int_div_euclid, int_rem_euclid}, specs.Int.Signed.{le_z}, specs.Fmt.{decimal}, specs.Str.Parse.{digits_value}}
use Rattle.std.proofs.Common.{◌≡◌, ℕ, zero, suc, ◌+◌, ◌*◌, ◌/◌, ◌%◌, ◌^◌, ◌<◌, ◌≤◌, [], ◌++◌, length, true, Option, Some, None, ℤ, pos, neg_ℤ, ◌+ℤ◌, ◌-ℤ◌, ◌*ℤ◌, unsigned_abs, codes, refl, sym, ap}
use Rattle.std.{proofs.Common.{subst, ◌∙◌, append_assoc, arith, rules, inl, inr}, proofs.lemmas.Bool.{and_parts as both, cases_lt}, proofs.lemmas.Nat.{div-add-mod'}}
use Rattle.std.{proofs.Math.Nat.{mul-div_cancel, mul-le-mul_right}, proofs.lemmas.Int.{ints}}
use Rattle.mob_numeral.{specs.declared.numeral.Figures.{Figures}, specs.Figures.{figures}, specs.Verdict.{Lit}, proofs.Powers.{ten_pos}, proofs.Again.{digits_said, size_of, nonempty}}
use Rattle.jiff_core.{proofs.CalendarLemmas.{days_in_month_bounds}, proofs.SignedLemmas.{signed_arith, int_rem_euclid-parts, int_div_euclid-parts}}
use Rattle.mob_ratio.{specs.Ratio.{Ratio, over, whole, ◌+ℚ◌}, proofs.RatioLemmas.{den_pos, over-add, over-same, over-self}}
use Rattle.mob_frac.specs.Fits.{Fits}
use Rattle.mob_language.{specs.Language.{Text, Language, ◌▷◌, Maybe, behind}, proofs.Heads.{within_said}}
use Rattle.mob_scalar.{specs.declared.civil.Civil.{Civil}, specs.declared.stamp.Part.{Part}, specs.declared.stamp.Clock.{Clock}, specs.declared.stamp.Stamp.{Stamp}}
use Rattle.mob_scalar.specs.Calendar.{fixed, date, is_civil, day_of, date_of, IsInYears}
use Rattle.mob_scalar.specs.Moment.{two_digits_below, part, point_part, is_point_part, fraction_part, is_fraction_part, part_of, clock, zone, utc, time, moment, seconds, is_year_second, is_in_years}
use Rattle.mob_scalar.specs.Moment.{instant}
use Rattle.mob_scalar.specs.MomentText.{padded, date_text, clock_text, places, quotient_text, decimals_text, part_in, part_text, stamp_text, second_text, moment_text, whole_seconds, part_numerator}
use Rattle.mob_scalar.{specs.MomentText.{second_of, HasDate}, specs.Moments.{moments}, proofs.DaysDated.{date_there, le_from}, proofs.Dates.{dated}, proofs.Padding.{placed}}
use Rattle.mob_scalar.proofs.PaddedAgain.{padded_is, padded_digits, fixed_said, behind_said}

-- a text of the first language, and a text of the second after it
then_said : {A B : Type 0} {l : Language A} {m : Language B} (front back : Text) (a : A) (b : B) → l front a → m back b → (l ▷ m) (front ++ back) (a, b)
then_said front back a b said more = record { front = front; back = back; whole = refl; first = said; second = more }

date_said : (c : Civil) → is_civil c ≡ true → date (date_text c) c
unfolding date_text
date_said c h =
    let d = dated c h in
    record {
      said = record {
        meant = (c.year, (c.month, c.day));
        said = then_said (padded 4 c.year) (codes "-" ++ (padded 2 c.month ++ (codes "-" ++ padded 2 c.day))) c.year (c.month, c.day)
            (fixed_said 4 c.year (omega arith) (omega arith) (omega (arith, d.to)))
            (regrouped c (then_said (codes "-" ++ padded 2 c.month) (codes "-" ++ padded 2 c.day) c.month c.day
            (behind_said (codes "-") (padded 2 c.month) c.month (fixed_said 2 c.month (omega arith) (omega arith) (omega (arith, d.month.1))))
            (behind_said (codes "-") (padded 2 c.day) c.day (fixed_said 2 c.day (omega arith) (omega arith) (day_small c h)))));
        is = refl;
      };
      holds = h;
    }
  where
    regrouped : (c : Civil) → (behind (codes "-") (fixed 2) ▷ behind (codes "-") (fixed 2)) ((codes "-" ++ padded 2 c.month) ++ (codes "-" ++ padded 2 c.day)) (c.month, c.day)
        → (behind (codes "-") (fixed 2) ▷ behind (codes "-") (fixed 2)) (codes "-" ++ (padded 2 c.month ++ (codes "-" ++ padded 2 c.day))) (c.month, c.day)
    regrouped c said = said

    day_small : (c : Civil) → is_civil c ≡ true → c.day < 10 ^ 2
    day_small c h = let d = dated c h in let k = days_in_month_bounds (pos c.year) c.month in omega (arith, d.day.1, k)

-- a part of a second
pub record IsPart (numerator denominator : ℕ) (p : Part) : Type 0 where
  pub positive : 0 < p.denominator
  pub same : p.numerator * denominator ≡ numerator * p.denominator

record SaysPart (text : Text) (numerator denominator : ℕ) : Type 0 where
  o : Option Part
  said : Maybe part text o
  is : IsPart numerator denominator (part_of o)

scaled_exactly : (n d p : ℕ) → 0 < d → p % d ≡ 0 → (n * p / d) * d ≡ n * p
scaled_exactly n d p some divides =
    let q = p / d in
    let e : q * d ≡ p = let h = div-add-mod' p d in omega (arith, h, divides) in
    let same : n * p ≡ (n * q) * d = ap (λ (x : ℕ). n * x) (sym e) ∙ regroup n q d in
    ap (λ (x : ℕ). x / d * d) same ∙ ap (λ (x : ℕ). x * d) (mul-div_cancel (n * q) some) ∙ sym same
  where
    regroup : (a b c : ℕ) → a * (b * c) ≡ (a * b) * c
    regroup a b c = omega arith

scaled_below : (n d p : ℕ) → n < d → 0 < p → p % d ≡ 0 → n * p / d < p
scaled_below n d p lt some divides =
    let m = n * p / d in
    let e : m * d ≡ n * p = scaled_exactly n d p (omega (arith, lt)) divides in
    let a : suc n * p ≤ d * p = mul-le-mul_right p lt in
    elim (cases_lt m p) [
      | inl less ↦ less
      | inr ge ↦ let b : p * d ≤ m * d = mul-le-mul_right d ge in absurd (omega (arith, a, b, e, some))
    ]

decimals_said : (k numerator denominator : ℕ) → 1 ≤ k → k ≤ 6 → numerator < denominator → 10 ^ k % denominator ≡ 0 → SaysPart (decimals_text k numerator denominator) numerator denominator
unfolding decimals_text
decimals_said k numerator denominator one six below divides =
    let n = numerator * 10 ^ k / denominator in
    let text = padded k n in
    let p = padded_is k n one six (scaled_below numerator denominator (10 ^ k) below (ten_pos k) divides) in
    let f = figures text in
    record {
      o = Some (point_part f);
      said = inl (record {
        meant = f;
        said = record { said = behind_said (codes ".") text f (padded_digits k n text (omega (arith, six)) p); holds = is_counted (length text) (digits_value 10 text) (omega (arith, p.count, one)) (omega (arith, p.count, six)) };
        is = refl;
      });
      is = record {
        positive = ten_pos (length text);
        same = ap (λ (x : ℕ). x * denominator) p.value ∙ scaled_exactly numerator denominator (10 ^ k) (omega (arith, below)) divides ∙ ap (λ (j : ℕ). numerator * 10 ^ j) (sym p.count);
      };
    }
  where
    is_counted : (c v : ℕ) → 1 ≤ c → c ≤ 18 → is_point_part (record { value = v; count = c }) ≡ true
    is_counted c v a b = search rules

quotient_said : (numerator denominator : ℕ) → numerator < denominator → denominator < 2 ^ 62 → SaysPart (quotient_text numerator denominator) numerator denominator
unfolding quotient_text size_of
quotient_said numerator denominator below fits = record {
  o = Some (fraction_part (size_of numerator, (size_of denominator, tt)));
  said = inr (record {
    meant = (size_of numerator, (size_of denominator, tt));
    said = record {
      said = behind_said (codes "(") (decimal numerator ++ (codes "/" ++ (decimal denominator ++ codes ")"))) (size_of numerator, (size_of denominator, tt))
          (then_said (decimal numerator) (codes "/" ++ (decimal denominator ++ codes ")")) (size_of numerator) (size_of denominator, tt)
          (digits_said numerator (omega (arith, below, fits)))
          (then_said (codes "/" ++ decimal denominator) (codes ")") (size_of denominator) tt
          (behind_said (codes "/") (decimal denominator) (size_of denominator) (digits_said denominator fits))
          refl));
      holds = is_below_one (length (decimal numerator)) numerator denominator (size_of denominator) (nonempty numerator (omega (arith, below, fits))) below;
    };
    is = refl;
  });
  is = record { positive = omega (arith, below); same = refl };
}
  where
    is_below_one : (c n d : ℕ) (f : Figures) → 0 < c → n < d → is_fraction_part (record { value = n; count = c }, (record f { value = d }, tt)) ≡ true
    is_below_one c n d f some lt = search rules

nothing_said : (numerator denominator : ℕ) → numerator < denominator → denominator ≤ 1 → SaysPart [] numerator denominator
nothing_said numerator denominator below one = record {
  o = None;
  said = refl;
  is = record { positive = omega arith; same = omega (arith, below, one) };
}

part_said : (numerator denominator : ℕ) → numerator < denominator → denominator < 2 ^ 62 → SaysPart (part_text numerator denominator) numerator denominator
unfolding part_text
part_said numerator denominator below fits = said (places denominator) refl
  where
    said : (o : Option ℕ) → places denominator ≡ o → SaysPart (part_in o numerator denominator) numerator denominator
    said None e = quotient_said numerator denominator below fits
    said (Some zero) e = nothing_said numerator denominator below (placed denominator 0 e).below
    said (Some (suc k)) e = let p = placed denominator (suc k) e in decimals_said (suc k) numerator denominator (omega arith) p.most below p.divides

two_digits_below_said : (limit n : ℕ) → n < limit → limit ≤ 60 → two_digits_below limit (padded 2 n) n
two_digits_below_said limit n lt le = record { said = fixed_said 2 n (omega arith) (omega arith) (omega (arith, lt, le)); holds = search rules }

clock_said : (s : ℕ) (text : Text) (o : Option Part) → s < 86400 → Maybe part text o → clock (clock_text s ++ text) (record { seconds = s; part = part_of o })
unfolding clock_text
clock_said s text o lt said = record {
  meant = (hour, (minute, Some (second, o)));
  said = subst (λ (t : Text). (two_digits_below 24 ▷ (behind (codes ":") (two_digits_below 60) ▷ Maybe (behind (codes ":") (two_digits_below 60 ▷ Maybe part)))) t (hour, (minute, Some (second, o)))) (sym regrouped)
      (then_said (padded 2 hour) (codes ":" ++ (padded 2 minute ++ (codes ":" ++ (padded 2 second ++ text)))) hour (minute, Some (second, o))
      (two_digits_below_said 24 hour (omega (arith, lt)) (omega arith))
      (then_said (codes ":" ++ padded 2 minute) (codes ":" ++ (padded 2 second ++ text)) minute (Some (second, o))
      (behind_said (codes ":") (padded 2 minute) minute (two_digits_below_said 60 minute (omega arith) (omega arith)))
      (behind_said (codes ":") (padded 2 second ++ text) (second, o)
      (then_said (padded 2 second) text second o (two_digits_below_said 60 second (omega arith) (omega arith)) said))));
  is = ap (λ (n : ℕ). record { seconds = n; part = part_of o }) parts;
}
  where
    hour : ℕ
    hour = s / 3600

    minute : ℕ
    minute = s / 60 % 60

    second : ℕ
    second = s % 60

    parts : s ≡ hour * 3600 + minute * 60 + second
    parts = omega arith

    regrouped : (padded 2 hour ++ (codes ":" ++ (padded 2 minute ++ (codes ":" ++ padded 2 second)))) ++ text ≡ padded 2 hour ++ (codes ":" ++ (padded 2 minute ++ (codes ":" ++ (padded 2 second ++ text))))
    regrouped = append_assoc (padded 2 hour) (codes ":" ++ (padded 2 minute ++ (codes ":" ++ padded 2 second))) text
        ∙ ap (λ (t : Text). padded 2 hour ++ (codes ":" ++ t)) (append_assoc (padded 2 minute) (codes ":" ++ padded 2 second) text)

zone_said : zone (codes "+00") utc
zone_said = inr (record {
  meant = (43, (0, None));
  said = then_said (codes "+") (codes "00") 43 (0, None) (refl, refl)
      (then_said (codes "00") [] 0 None
      (record {
        said = record {
          meant = figures (codes "00");
          said = record { said = record { meant = codes "00"; said = record { said = record { is = refl; each = (refl, (refl, tt)) }; holds = refl }; is = refl }; holds = refl };
          is = refl;
        };
        holds = refl;
      })
      refl);
  is = refl;
})

time_said : (s : ℕ) (text : Text) (o : Option Part) → s < 86400 → Maybe part text o → time (codes " " ++ (clock_text s ++ (text ++ codes "+00"))) (record { seconds = s; part = part_of o }, utc)
time_said s text o lt said =
    let at : Clock = record { seconds = s; part = part_of o } in
    let grouped = append_assoc (clock_text s) text (codes "+00") in
    record {
      meant = (tt, (at, Some utc));
      said = then_said (codes " ") (clock_text s ++ (text ++ codes "+00")) tt (at, Some utc)
          (inl (record { meant = codes " "; said = record { said = record { is = refl; each = (refl, tt) }; holds = refl }; is = refl }))
          (subst (λ (t : Text). (clock ▷ Maybe zone) t (at, Some utc)) grouped (then_said (clock_text s ++ text) (codes "+00") at (Some utc) (clock_said s text o lt said) zone_said));
      is = refl;
    }

stamp_for : Civil → ℕ → Part → Stamp
stamp_for d s p = record { date = d; clock = record { seconds = s; part = p }; offset = utc }

-- a date, a number of seconds and a part of a second form a moment
stamp_said : (d : Civil) (s numerator denominator : ℕ) → is_civil d ≡ true → s < 86400 → (p : SaysPart (part_text numerator denominator) numerator denominator) → is_in_years (stamp_for d s (part_of p.o)) ≡ true
    → moment (stamp_text d s numerator denominator) (stamp_for d s (part_of p.o))
unfolding stamp_text stamp_for
stamp_said d s numerator denominator there lt p years = record {
  said = record {
    meant = (d, Some (record { seconds = s; part = part_of p.o }, utc));
    said = then_said (date_text d) (codes " " ++ (clock_text s ++ (part_text numerator denominator ++ codes "+00"))) d (Some (record { seconds = s; part = part_of p.o }, utc))
        (date_said d there)
        (time_said s (part_text numerator denominator) p.o lt p.said);
    is = refl;
  };
  holds = years;
}

euclid_is : (z : ℤ) (d : ℕ) → 0 < d → int_div_euclid z (pos d) *ℤ pos d +ℤ pos (unsigned_abs (int_rem_euclid z (pos d))) ≡ z
euclid_is z d some = omega (arith, signed_arith, int_rem_euclid-parts z d some)

rest_lt : (z : ℤ) (d : ℕ) → 0 < d → unsigned_abs (int_rem_euclid z (pos d)) < d
rest_lt z d some = omega (arith, signed_arith, int_rem_euclid-parts z d some)

-- an instant is the sum of its whole seconds and its part of a second
whole_and_part : (q : Ratio) → whole (whole_seconds q) +ℚ over (pos (part_numerator q)) q.den ≡ q
unfolding whole
whole_and_part q =
    let f = whole_seconds q in
    let r = part_numerator q in
    let e = euclid_is q.num q.den (den_pos q) in
    let n : f *ℤ pos q.den +ℤ pos r *ℤ pos 1 ≡ q.num = omega (arith, signed_arith, e) in
    let d : 1 * q.den ≡ q.den = omega arith in
    over-add f (pos r) 1 q.den (omega arith) (den_pos q) ∙ ap (λ (z : ℤ). over z (1 * q.den)) n ∙ ap (λ (k : ℕ). over q.num k) d ∙ over-self q

second_day : (n : ℤ) → is_year_second n ≡ true → IsInYears (int_div_euclid n (pos 86400))
second_day n h =
    let b = both (le_z (neg_ℤ (pos 62135596800)) n) (le_z n (pos 253402300799)) h in
    let low = le_from (neg_ℤ (pos 62135596800)) n b.0 in
    let high = le_from n (pos 253402300799) b.1 in
    record { from_first = omega (arith, signed_arith, low, int_div_euclid-parts n 86400 (omega arith)); to_last = omega (arith, signed_arith, high, int_div_euclid-parts n 86400 (omega arith)) }

part_is : (numerator denominator : ℕ) (p : Part) → 0 < denominator → IsPart numerator denominator p → over (pos p.numerator) p.denominator ≡ over (pos numerator) denominator
part_is numerator denominator p some h = over-same (pos p.numerator) (pos numerator) p.denominator denominator h.positive some (ap pos h.same)

seconds_are : (d : Civil) (clock : ℕ) (p : Part) (day n : ℤ) → day_of d ≡ day → day *ℤ pos 86400 +ℤ pos clock ≡ n → seconds (stamp_for d clock p) ≡ n
unfolding seconds stamp_for
seconds_are d clock p day n same e = ap (λ (z : ℤ). z *ℤ pos 86400 +ℤ pos clock +ℤ neg_ℤ (pos 0)) same ∙ nothing (day *ℤ pos 86400 +ℤ pos clock) ∙ e
  where
    nothing : (z : ℤ) → z +ℤ neg_ℤ (pos 0) ≡ z
    nothing z = omega (arith, signed_arith)

instant_is : (epoch : ℤ) (q : Ratio) (s : Stamp) → seconds s ≡ second_of epoch q → over (pos s.clock.part.numerator) s.clock.part.denominator ≡ over (pos (part_numerator q)) q.den → q ≡ instant epoch s
unfolding instant
instant_is epoch q s same part =
    let back : seconds s -ℤ epoch *ℤ pos 86400 ≡ whole_seconds q = ap (λ (z : ℤ). z -ℤ epoch *ℤ pos 86400) same ∙ less (whole_seconds q) (epoch *ℤ pos 86400) in
    sym (ap (λ (z : ℤ). whole z +ℚ over (pos s.clock.part.numerator) s.clock.part.denominator) back ∙ ap (λ (r : Ratio). whole (whole_seconds q) +ℚ r) part ∙ whole_and_part q)
  where
    less : (a b : ℤ) → a +ℤ b -ℤ b ≡ a
    less a b = grind (arith, ints)

text_is : (epoch : ℤ) (q : Ratio) → HasDate epoch q → second_text (second_of epoch q) (part_numerator q) q.den ≡ moment_text epoch q
unfolding moment_text
text_is epoch q h = rw h refl

stamp_part : (q : Ratio) (d : Civil) (clock : ℕ) (p : SaysPart (part_text (part_numerator q) q.den) (part_numerator q) q.den) → over (pos (stamp_for d clock (part_of p.o)).clock.part.numerator) (stamp_for d clock (part_of p.o)).clock.part.denominator ≡ over (pos (part_numerator q)) q.den
unfolding stamp_for
stamp_part q d s p = part_is (part_numerator q) q.den (part_of p.o) (den_pos q) p.is

-- the text of an instant in the years 0001 to 9999 denotes that instant
pub moment_plain : (epoch : ℤ) (q : Ratio) → Fits q → HasDate epoch q → (s : Stamp) × moment (moment_text epoch q) s × (q ≡ instant epoch s)
unfolding second_text
moment_plain epoch q fits date =
    let n = second_of epoch q in
    let day = int_div_euclid n (pos 86400) in
    let clock = unsigned_abs (int_rem_euclid n (pos 86400)) in
    let its = date_there day (second_day n date) in
    let lt = rest_lt n 86400 (omega arith) in
    let p = part_said (part_numerator q) q.den (rest_lt q.num q.den (den_pos q)) fits.den_fits in
    let s = stamp_for (date_of day) clock (part_of p.o) in
    let same : seconds s ≡ n = seconds_are (date_of day) clock (part_of p.o) day n its.same (euclid_is n 86400 (omega arith)) in
    let years : is_in_years s ≡ true = ap is_year_second same ∙ date in
    let said = stamp_said (date_of day) clock (part_numerator q) q.den its.there lt p years in
    let e : q ≡ instant epoch s = stamp_instant epoch q (date_of day) clock p same in
    (s, subst (λ (t : Text). moment t s) (text_is epoch q date) said, e)
  where
    stamp_instant : (epoch : ℤ) (q : Ratio) (d : Civil) (clock : ℕ) (p : SaysPart (part_text (part_numerator q) q.den) (part_numerator q) q.den) → seconds (stamp_for d clock (part_of p.o)) ≡ second_of epoch q → q ≡ instant epoch (stamp_for d clock (part_of p.o))
    stamp_instant epoch q d clock p same = instant_is epoch q (stamp_for d clock (part_of p.o)) same (stamp_part q d clock p)

pub moment_again : (epoch : ℤ) (q : Ratio) → Fits q → HasDate epoch q → Lit (moments epoch) (moment_text epoch q) (Ok q)
moment_again epoch q fits date =
    let m = moment_plain epoch q fits date in
    (m.0, within_said (moment_text epoch q) m.0 m.1, (λ x. x), (λ no. no (subst Fits m.2 fits)), (λ x. x), m.2)
