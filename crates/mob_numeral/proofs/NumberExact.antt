-- The reader of numbers accepts exactly the texts of numbers.
use Rattle.std.{specs.Prelude.{◌||◌, nat_eq}, proofs.Common.{◌≡◌, ℕ, [], Bool, true, false, refl, rules, codes}}
use Rattle.mob_language.specs.Language.{Language, ◌▷◌, Maybe, Means, behind, is_digit, is_number_sign, is_exponent_letter}
use Rattle.mob_language.proofs.Exact.{Exact, Stops, means_exact, where_exact, one_exact, word_exact, many_exact}
use Rattle.mob_language.proofs.Heads.{NoHead, Apart, Nothing, exact_less, stops_less, then_head, word_then_head, one_then_head, or_head, maybe_head, means_head, where_head, many_head, one_nothing}
use Rattle.mob_language.proofs.Heads.{word_nothing, then_nothing, means_nothing, then_stops, after_any, maybe_stops, or_stops}
use Rattle.mob_numeral.{specs.declared.numeral.Figures.{Figures}, specs.declared.numeral.Exponent.{Exponent}, specs.declared.numeral.Tail.{Tail}, specs.declared.numeral.Tail.TheVariants.{Over}}
use Rattle.mob_numeral.{specs.Figures.{are_few_digits, figures, digits}, specs.Number.{is_minus, is_power, exponent_of, decimal_of, is_numeral, numeral_of, number_sign, power, exponent, tail, number}}
use Rattle.mob_numeral.specs.NumberReaders.{digits_at, sign_at, power_at, exponent_at, over_at, point_at, decimal_at, tail_at, numeral_at}

-- a byte with which a number may go on
abbrev pub continues : ℕ → Bool
continues c = is_digit c || (is_number_sign c || (is_exponent_letter c || (nat_eq c 46 || nat_eq c 47)))

pub left : (a b : Bool) → (a || b) ≡ false → a ≡ false
left true b e = e
left false b e = refl

pub right : (a b : Bool) → (a || b) ≡ false → b ≡ false
right true b e = absurd cc
right false b e = e

less_digit : (c : ℕ) → continues c ≡ false → is_digit c ≡ false
less_digit c e = left (is_digit c) (is_number_sign c || (is_exponent_letter c || (nat_eq c 46 || nat_eq c 47))) e

less_sign : (c : ℕ) → continues c ≡ false → is_number_sign c ≡ false
less_sign c e = left (is_number_sign c) (is_exponent_letter c || (nat_eq c 46 || nat_eq c 47)) (right (is_digit c) (is_number_sign c || (is_exponent_letter c || (nat_eq c 46 || nat_eq c 47))) e)

less_more : (c : ℕ) → continues c ≡ false → (is_exponent_letter c || (nat_eq c 46 || nat_eq c 47)) ≡ false
less_more c e = right (is_number_sign c) (is_exponent_letter c || (nat_eq c 46 || nat_eq c 47)) (right (is_digit c) (is_number_sign c || (is_exponent_letter c || (nat_eq c 46 || nat_eq c 47))) e)

less_e : (c : ℕ) → continues c ≡ false → is_exponent_letter c ≡ false
less_e c e = left (is_exponent_letter c) (nat_eq c 46 || nat_eq c 47) (less_more c e)

less_point : (c : ℕ) → continues c ≡ false → nat_eq c 46 ≡ false
less_point c e = left (nat_eq c 46) (nat_eq c 47) (right (is_exponent_letter c) (nat_eq c 46 || nat_eq c 47) (less_more c e))

less_slash : (c : ℕ) → continues c ≡ false → nat_eq c 47 ≡ false
less_slash c e = right (nat_eq c 46) (nat_eq c 47) (right (is_exponent_letter c) (nat_eq c 46 || nat_eq c 47) (less_more c e))

is_slash : ℕ → Bool
is_slash c = nat_eq c 47

digit_no_sign : Apart is_digit is_number_sign
digit_no_sign c e = search rules

e_no_digit : Apart is_exponent_letter is_digit
e_no_digit c e = search rules

e_no_sign : Apart is_exponent_letter is_number_sign
e_no_sign c e = search rules

digits_exact : Exact digits digits_at (Stops continues)
unfolding digits_at
digits_exact = exact_less (means_exact figures (where_exact are_few_digits (many_exact is_digit))) (stops_less continues is_digit less_digit)

pub sign_exact : Exact number_sign sign_at (Stops is_number_sign)
unfolding sign_at
sign_exact = means_exact is_minus (maybe_stops (exact_less (one_exact is_number_sign) (λ rest after. tt)) (one_nothing is_number_sign))

pub no_sign : NoHead digits is_number_sign
no_sign = means_head (where_head (many_head digit_no_sign))

power_exact : Exact power power_at (Stops continues)
unfolding power_at
power_exact = where_exact is_power (means_exact exponent_of (then_stops sign_exact digits_exact less_sign no_sign))

exponent_exact : Exact exponent exponent_at (Stops continues)
unfolding exponent_at
exponent_exact = means_exact (λ (v : ℕ × Exponent). v.1) (after_any (one_exact is_exponent_letter) power_exact)

over_exact : Exact (Means Over (behind (codes "/") digits)) over_at (Stops continues)
unfolding over_at
over_exact = means_exact Over (means_exact (λ (v : Unit × Figures). v.1) (after_any (word_exact (codes "/")) digits_exact))

-- a point, or a byte with which digits go on
point_on : ℕ → Bool
point_on c = is_digit c || nat_eq c 46

pub digits_base : Exact digits digits_at (Stops is_digit)
unfolding digits_at
digits_base = means_exact figures (where_exact are_few_digits (many_exact is_digit))

point_base : Exact (behind (codes ".") digits) point_at (Stops point_on)
unfolding point_at point_on
point_base = exact_less (means_exact (λ (v : Unit × Figures). v.1) (after_any (word_exact (codes ".")) digits_base)) (stops_less point_on is_digit (λ c. left (is_digit c) (nat_eq c 46)))

point_none : Nothing point_at point_on
unfolding point_at point_on
point_none = λ rest s. means_nothing (λ (v : Unit × Figures). v.1) (then_nothing digits_at (word_nothing 46 [] (λ c. nat_eq c 46) refl)) rest (stops_less point_on (λ c. nat_eq c 46) (λ c. right (is_digit c) (nat_eq c 46)) rest s)

exponent_none : Nothing exponent_at continues
unfolding exponent_at
exponent_none = λ rest s. means_nothing (λ (v : ℕ × Exponent). v.1) (then_nothing power_at (one_nothing is_exponent_letter)) rest (stops_less continues is_exponent_letter less_e rest s)

e_no_point : Apart is_exponent_letter point_on
unfolding point_on
e_no_point c e = search rules

e_no_slash : Apart is_exponent_letter is_slash
unfolding is_slash
e_no_slash c e = search rules

less_point_on : (c : ℕ) → continues c ≡ false → point_on c ≡ false
unfolding point_on
less_point_on c e = rw (less_digit c e) (less_point c e)

exponent_head : (test : ℕ → Bool) → Apart is_exponent_letter test → NoHead exponent test
exponent_head test h = means_head (one_then_head is_exponent_letter test h)

decimal : Language Tail
decimal = Means decimal_of (Maybe (behind (codes ".") digits) ▷ Maybe exponent)

decimal_exact : Exact decimal decimal_at (Stops continues)
unfolding decimal_at decimal
decimal_exact = means_exact decimal_of (then_stops (maybe_stops point_base point_none) (maybe_stops exponent_exact exponent_none) less_point_on (maybe_head (exponent_head point_on e_no_point)))

over_none : Nothing over_at is_slash
unfolding over_at is_slash
over_none = means_nothing Over (means_nothing (λ (v : Unit × Figures). v.1) (then_nothing digits_at (word_nothing 47 [] (λ c. nat_eq c 47) refl)))

decimal_head : (test : ℕ → Bool) → test 46 ≡ false → Apart is_exponent_letter test → NoHead decimal test
unfolding decimal
decimal_head test p h = means_head (then_head (maybe_head (means_head (word_then_head 46 [] test p))) (maybe_head (exponent_head test h)))

pub tail_exact : Exact tail tail_at (Stops continues)
unfolding tail_at decimal is_slash
tail_exact = or_stops over_exact decimal_exact over_none (decimal_head is_slash refl e_no_slash) less_slash

pub tail_head : (test : ℕ → Bool) → test 46 ≡ false → test 47 ≡ false → Apart is_exponent_letter test → NoHead tail test
unfolding decimal
tail_head test p q h = or_head (means_head (means_head (word_then_head 47 [] test q))) (decimal_head test p h)

pub number_exact : Exact number numeral_at (Stops continues)
unfolding numeral_at
number_exact = where_exact is_numeral (means_exact numeral_of (then_stops sign_exact (then_stops digits_base tail_exact less_digit (tail_head is_digit refl refl e_no_digit)) less_sign (then_head no_sign (tail_head is_number_sign refl refl e_no_sign))))
