-- The reader of moments accepts exactly the texts of moments.
use Rattle.std.{specs.Prelude.{◌||◌, nat_eq}, proofs.Common.{◌≡◌, ℕ, suc, [], ◌∷◌, Bool, true, false, Option, None, refl, arith, rules, codes}, proofs.lemmas.Bool.{eqb-true}}
use Rattle.mob_language.specs.Language.{Text, Language, ◌▷◌, Maybe, Means, Where, Word, OneOf, behind, is_blank, is_digit, is_number_sign}
use Rattle.mob_language.specs.Readers.{TextReader, then_at, maybe_at, word_at, behind_at}
use Rattle.mob_language.proofs.Exact.{Exact, Stops, then_exact, maybe_exact, means_exact, where_exact, one_exact, word_exact, many_stops}
use Rattle.mob_language.proofs.Heads.{NoHead, Apart, Nothing, HasByte, exact_less, stops_less, stops_both, then_head, word_then_head, one_then_head, or_head, maybe_head, means_head, where_head}
use Rattle.mob_language.proofs.Heads.{word_head, one_head, many_head, one_nothing, word_nothing, then_nothing, means_nothing, where_nothing, or_nothing, then_stops, after_any, maybe_stops, or_stops}
use Rattle.mob_language.proofs.Heads.{then_byte, means_byte, where_byte, then_byte_stops, byte_head, one_byte, or_byte}
use Rattle.mob_numeral.{specs.declared.numeral.Figures.{Figures}, specs.Blanks.{some_blanks, some_blanks_at}, specs.Figures.{digits}, specs.NumberReaders.{digits_at}}
use Rattle.mob_numeral.{proofs.SomeBlanks.{some_blanks_exact, some_blanks_byte}, proofs.NumberExact.{digits_base, left, right}, proofs.WholeTexts.{sign_blank, no_figures}}
use Rattle.mob_scalar.{specs.declared.stamp.Part.{Part}, specs.declared.stamp.Offset.{Offset}, specs.Calendar.{has_count, number_in, fixed, civil_of, is_civil, date}}
use Rattle.mob_scalar.specs.CalendarReaders.{fixed_at, dash_at, date_at}
use Rattle.mob_scalar.specs.Moment.{is_below, two_digits_below, point_part, is_point_part, fraction_part, is_fraction_part, part, clock_of, clock, offset_of, utc, is_z, zone, is_t, gap, time_of, time}
use Rattle.mob_scalar.specs.Moment.{stamp_of, is_in_years, moment}
use Rattle.mob_scalar.specs.MomentReaders.{two_digits_below_at, colon_at, decimals_at, below_at, quotient_at, second_part_at, seconds_at, clock_at, z_at, hours_at, zone_at, t_at, gap_at, time_at}
use Rattle.mob_scalar.specs.MomentReaders.{moment_at}

same : (c : ℕ) → is_digit c ≡ false → is_digit c ≡ false
same c e = e

-- a byte with which a time of day may go on
abbrev pub clock_on : ℕ → Bool
clock_on c = is_digit c || (nat_eq c 58 || (nat_eq c 46 || nat_eq c 40))

-- a byte with which a moment may go on
abbrev pub moment_on : ℕ → Bool
moment_on c = clock_on c || (is_z c || is_number_sign c)

clock_digit : (c : ℕ) → clock_on c ≡ false → is_digit c ≡ false
clock_digit c e = left (is_digit c) (nat_eq c 58 || (nat_eq c 46 || nat_eq c 40)) e

clock_rest : (c : ℕ) → clock_on c ≡ false → (nat_eq c 58 || (nat_eq c 46 || nat_eq c 40)) ≡ false
clock_rest c e = right (is_digit c) (nat_eq c 58 || (nat_eq c 46 || nat_eq c 40)) e

clock_colon : (c : ℕ) → clock_on c ≡ false → nat_eq c 58 ≡ false
clock_colon c e = left (nat_eq c 58) (nat_eq c 46 || nat_eq c 40) (clock_rest c e)

clock_point : (c : ℕ) → clock_on c ≡ false → nat_eq c 46 ≡ false
clock_point c e = left (nat_eq c 46) (nat_eq c 40) (right (nat_eq c 58) (nat_eq c 46 || nat_eq c 40) (clock_rest c e))

clock_bracket : (c : ℕ) → clock_on c ≡ false → nat_eq c 40 ≡ false
clock_bracket c e = right (nat_eq c 46) (nat_eq c 40) (right (nat_eq c 58) (nat_eq c 46 || nat_eq c 40) (clock_rest c e))

moment_clock : (c : ℕ) → moment_on c ≡ false → clock_on c ≡ false
moment_clock c e = left (clock_on c) (is_z c || is_number_sign c) e

moment_z : (c : ℕ) → moment_on c ≡ false → is_z c ≡ false
moment_z c e = left (is_z c) (is_number_sign c) (right (clock_on c) (is_z c || is_number_sign c) e)

moment_sign : (c : ℕ) → moment_on c ≡ false → is_number_sign c ≡ false
moment_sign c e = right (is_z c) (is_number_sign c) (right (clock_on c) (is_z c || is_number_sign c) e)

z_apart : Apart is_z clock_on
z_apart c e = search rules

sign_apart : Apart is_number_sign clock_on
sign_apart c e = search rules

sign_z : Apart is_number_sign is_z
sign_z c e = search rules

blank_digit : Apart is_blank is_digit
blank_digit c e = search rules

t_digit : Apart is_t is_digit
t_digit c e = search rules

t_blank : Apart is_t is_blank
t_blank c e = search rules

digit_blank : Apart is_digit is_blank
digit_blank c e = search rules

fixed_exact : (k : ℕ) → Exact (fixed k) (fixed_at k) (Stops is_digit)
unfolding fixed_at
fixed_exact k = means_exact number_in (where_exact (has_count k) digits_base)

marked_exact : (w : ℕ) (ws : Text) {A : Type 0} {l : Language A} {r : TextReader A} {F : Text → Type 0} → Exact l r F → Exact (behind (w ∷ ws) l) (behind_at (w ∷ ws) r) F
marked_exact w ws {A} p = means_exact (λ (v : Unit × A). v.1) (after_any (word_exact (w ∷ ws)) p)

marked_head : (w : ℕ) (ws : Text) {A : Type 0} (l : Language A) (test : ℕ → Bool) → test w ≡ false → NoHead (behind (w ∷ ws) l) test
marked_head w ws l test h = means_head (word_then_head w ws test h)

marked_none : (w : ℕ) (ws : Text) {A : Type 0} (r : TextReader A) → Nothing (behind_at (w ∷ ws) r) (λ c. nat_eq c w)
marked_none w ws {A} r = means_nothing (λ (v : Unit × A). v.1) (then_nothing r (word_nothing w ws (λ c. nat_eq c w) (self w)))
  where
    self : (n : ℕ) → nat_eq n n ≡ true
    self n = search rules

dash_exact : Exact (behind (codes "-") (fixed 2)) dash_at (Stops is_digit)
unfolding dash_at
dash_exact = marked_exact 45 [] (fixed_exact 2)

pub date_exact : Exact date date_at (Stops is_digit)
unfolding date_at
date_exact = where_exact is_civil (means_exact civil_of (then_stops (fixed_exact 4)
    (then_stops dash_exact dash_exact same (marked_head 45 [] (fixed 2) is_digit refl)) same
    (then_head (marked_head 45 [] (fixed 2) is_digit refl) (marked_head 45 [] (fixed 2) is_digit refl))))

two_digits_below_exact : (k : ℕ) → Exact (two_digits_below k) (two_digits_below_at k) (Stops is_digit)
unfolding two_digits_below_at
two_digits_below_exact k = where_exact (is_below k) (fixed_exact 2)

colon_exact : Exact (behind (codes ":") (two_digits_below 60)) colon_at (Stops is_digit)
unfolding colon_at
colon_exact = marked_exact 58 [] (two_digits_below_exact 60)

point : Language Part
point = Means point_part (Where is_point_part (behind (codes ".") digits))

quotient : Language Part
quotient = Means fraction_part (Where is_fraction_part (behind (codes "(") (digits ▷ (behind (codes "/") digits ▷ Word (codes ")")))))

point_exact : Exact point decimals_at (Stops clock_on)
unfolding point decimals_at
point_exact = exact_less (means_exact point_part (where_exact is_point_part (marked_exact 46 [] digits_base))) (stops_less clock_on is_digit clock_digit)

quotient_exact : Exact quotient quotient_at (Stops clock_on)
unfolding quotient quotient_at below_at
quotient_exact = means_exact fraction_part (where_exact is_fraction_part (marked_exact 40 [] (then_stops digits_base
    (then_stops (marked_exact 47 [] digits_base) (exact_less (word_exact (codes ")")) (λ rest after. tt)) clock_digit (word_head (codes ")") is_digit refl))
    clock_digit (then_head (marked_head 47 [] digits is_digit refl) (word_head (codes ")") is_digit refl)))))

is_point : ℕ → Bool
is_point c = nat_eq c 46

point_none : Nothing decimals_at is_point
unfolding decimals_at is_point
point_none = means_nothing point_part (where_nothing is_point_part (marked_none 46 [] digits_at))

quotient_none : Nothing quotient_at (λ c. nat_eq c 40)
unfolding quotient_at below_at
quotient_none = means_nothing fraction_part (where_nothing is_fraction_part (marked_none 40 [] (then_at digits_at (then_at (behind_at (codes "/") digits_at) (word_at (codes ")"))))))

quotient_head : (test : ℕ → Bool) → test 40 ≡ false → NoHead quotient test
unfolding quotient
quotient_head test h = means_head (where_head (marked_head 40 [] (digits ▷ (behind (codes "/") digits ▷ Word (codes ")"))) test h))

part_exact : Exact part second_part_at (Stops clock_on)
unfolding second_part_at point quotient is_point
part_exact = or_stops point_exact quotient_exact point_none (quotient_head is_point refl) clock_point

part_none : Nothing second_part_at clock_on
unfolding second_part_at is_point
part_none = or_nothing (λ rest s. point_none rest (stops_less clock_on is_point clock_point rest s)) (λ rest s. quotient_none rest (stops_less clock_on (λ c. nat_eq c 40) clock_bracket rest s))

part_head : NoHead part is_digit
unfolding point quotient
part_head = or_head (means_head (where_head (marked_head 46 [] digits is_digit refl))) (quotient_head is_digit refl)

seconds_language : Language (ℕ × Option Part)
seconds_language = behind (codes ":") (two_digits_below 60 ▷ Maybe part)

seconds_exact : Exact seconds_language seconds_at (Stops clock_on)
unfolding seconds_language seconds_at
seconds_exact = marked_exact 58 [] (then_stops (two_digits_below_exact 60) (maybe_stops part_exact part_none) clock_digit (maybe_head part_head))

seconds_none : Nothing seconds_at clock_on
unfolding seconds_at
seconds_none = λ rest s. marked_none 58 [] (then_at (two_digits_below_at 60) (maybe_at second_part_at)) rest (stops_less clock_on (λ c. nat_eq c 58) clock_colon rest s)

seconds_head : NoHead seconds_language is_digit
unfolding seconds_language
seconds_head = marked_head 58 [] (two_digits_below 60 ▷ Maybe part) is_digit refl

clock_exact : Exact clock clock_at (Stops clock_on)
unfolding clock_at seconds_language
clock_exact = means_exact clock_of (then_stops (two_digits_below_exact 24)
    (then_stops colon_exact (maybe_stops seconds_exact seconds_none) clock_digit (maybe_head seconds_head)) clock_digit
    (then_head (marked_head 58 [] (two_digits_below 60) is_digit refl) (maybe_head seconds_head)))

z_language : Language Offset
z_language = Means (λ (c : ℕ). utc) (OneOf is_z)

hours_language : Language Offset
hours_language = Means offset_of (OneOf is_number_sign ▷ (two_digits_below 16 ▷ Maybe (behind (codes ":") (two_digits_below 60))))

z_exact : Exact z_language z_at (Stops moment_on)
unfolding z_language z_at
z_exact = exact_less (means_exact (λ (c : ℕ). utc) (one_exact is_z)) (λ rest after. tt)

moment_digit : (c : ℕ) → moment_on c ≡ false → is_digit c ≡ false
moment_digit c e = clock_digit c (moment_clock c e)

colon_none : Nothing colon_at moment_on
unfolding colon_at
colon_none = λ rest s. marked_none 58 [] (two_digits_below_at 60) rest (stops_less moment_on (λ c. nat_eq c 58) (λ c e. clock_colon c (moment_clock c e)) rest s)

hours_exact : Exact hours_language hours_at (Stops moment_on)
unfolding hours_language hours_at
hours_exact = means_exact offset_of (after_any (one_exact is_number_sign) (then_stops (two_digits_below_exact 16)
    (maybe_stops (exact_less colon_exact (stops_less moment_on is_digit moment_digit)) colon_none) moment_digit
    (maybe_head (marked_head 58 [] (two_digits_below 60) is_digit refl))))

z_none : Nothing z_at is_z
unfolding z_at
z_none = means_nothing (λ (c : ℕ). utc) (one_nothing is_z)

hours_none : Nothing hours_at is_number_sign
unfolding hours_at
hours_none = means_nothing offset_of (then_nothing (then_at (two_digits_below_at 16) (maybe_at colon_at)) (one_nothing is_number_sign))

hours_head : (test : ℕ → Bool) → Apart is_number_sign test → NoHead hours_language test
unfolding hours_language
hours_head test h = means_head (one_then_head is_number_sign test h)

zone_exact : Exact zone zone_at (Stops moment_on)
unfolding zone_at z_language hours_language
zone_exact = or_stops z_exact hours_exact z_none (hours_head is_z sign_z) moment_z

zone_none : Nothing zone_at moment_on
unfolding zone_at
zone_none = or_nothing (λ rest s. z_none rest (stops_less moment_on is_z moment_z rest s)) (λ rest s. hours_none rest (stops_less moment_on is_number_sign moment_sign rest s))

zone_head : NoHead zone clock_on
unfolding hours_language
zone_head = or_head (means_head (one_head z_apart)) (hours_head clock_on sign_apart)

blanks_language : Language Unit
blanks_language = some_blanks

blanks_exact : Exact blanks_language some_blanks_at (Stops is_blank)
unfolding blanks_language
blanks_exact = some_blanks_exact

blanks_none : Nothing some_blanks_at is_blank
unfolding some_blanks_at
blanks_none rest s = rw (many_stops is_blank rest s) refl

gap_exact : Exact gap gap_at (Stops is_blank)
unfolding gap_at t_at blanks_language
gap_exact = or_stops blanks_exact (exact_less (means_exact (λ (c : ℕ). tt) (one_exact is_t)) (λ rest after. tt)) blanks_none (means_head (one_head t_blank)) (λ c e. e)

pub fixed_byte : (k : ℕ) → HasByte (fixed (suc k))
fixed_byte k text v said e = no_count k said.meant said.said.holds (no_figures text said.meant said.said.said e)
  where
    no_count : (n : ℕ) (f : Figures) → has_count (suc n) f ≡ true → f.count ≡ 0 → ⊥
    no_count n f h z = let e = eqb-true f.count (suc n) h in absurd (omega (arith, e, z))

clock_byte : HasByte clock
clock_byte = means_byte clock_of (then_byte _ (where_byte (is_below 24) (fixed_byte 1)))

fixed_head : (k : ℕ) → NoHead (fixed k) is_blank
fixed_head k = means_head (where_head (means_head (where_head (many_head digit_blank))))

clock_head : NoHead clock is_blank
unfolding seconds_language
clock_head = means_head (then_head (where_head (fixed_head 2)) (then_head (marked_head 58 [] (two_digits_below 60) is_blank refl) (maybe_head (marked_head 58 [] (two_digits_below 60 ▷ Maybe part) is_blank refl))))

z_no_blank : Apart is_z is_blank
z_no_blank c e = search rules

zone_no_blank : NoHead zone is_blank
unfolding hours_language
zone_no_blank = or_head (means_head (one_head z_no_blank)) (hours_head is_blank sign_blank)

time_exact : Exact time time_at (Stops moment_on)
unfolding time_at
time_exact = means_exact time_of (then_byte_stops gap_exact
    (then_stops clock_exact (maybe_stops zone_exact zone_none) moment_clock (maybe_head zone_head))
    (then_head clock_head (maybe_head zone_no_blank)) (then_byte (Maybe zone) clock_byte))

blanks_byte : HasByte blanks_language
unfolding blanks_language
blanks_byte = some_blanks_byte

time_head : NoHead time is_digit
unfolding blanks_language
time_head = means_head (byte_head (clock ▷ Maybe zone) (or_head (means_head (where_head (many_head blank_digit))) (means_head (one_head t_digit))) (or_byte blanks_byte (means_byte (λ (c : ℕ). tt) (one_byte is_t))))

-- a moment may come before this rest
pub record Closes (rest : Text) : Type 0 where
  pub stops : Stops moment_on rest
  pub no_time : time_at rest ≡ None

pub moment_exact : Exact moment moment_at Closes
unfolding moment_at
moment_exact = where_exact is_in_years (means_exact stamp_of (then_exact date_exact
    (exact_less (maybe_exact {G = Closes} time_exact (λ rest h. h.no_time)) (λ rest h. (h.stops, h)))
    (λ text rest v said after. stops_both is_digit text rest (maybe_head time_head text v said) (stops_less moment_on is_digit moment_digit rest after.stops))))

pub nothing_closes : Closes []
unfolding time_at gap_at some_blanks_at t_at
nothing_closes = record { stops = tt; no_time = refl }
