-- Numbers below 100 in two digits, and below 1000 digit by digit.
use Rattle.std.{specs.Fmt.{decimal}, proofs.Common.{◌≡◌, ◌∙◌, ◌<◌, ◌≤◌, ◌+◌, ◌-◌, ◌/◌, ◌%◌, ◌++◌, ◌∷◌, [], ℕ, ap, sym, append_assoc, length, replicate, codes, arith}}
use Rattle.std.proofs.lemmas.Fmt.{decimal_digit, decimal_step}
use Rattle.mob_language.specs.Language.{Text}
use Rattle.mob_scalar.specs.MomentText.{padded}

pub one_padded : (n : ℕ) → n < 10 → padded 2 n ≡ codes "0" ++ decimal n
unfolding padded
one_padded n small = ap (λ (t : Text). replicate (2 - length t) 48 ++ decimal n) (decimal_digit n small)

-- a zero, followed by a number below 10
pub behind_zero : (n : ℕ) (old zero now : Text) → n < 10 → zero ≡ old ++ codes "0" → now ≡ zero ++ decimal n → now ≡ old ++ padded 2 n
behind_zero n old zero now small before added =
    added ∙ ap (λ (t : Text). t ++ decimal n) before ∙ append_assoc old (codes "0") (decimal n) ∙ ap (λ (t : Text). old ++ t) (sym (one_padded n small))

pub two_digits : (n : ℕ) → 10 ≤ n → n < 100 → decimal n ≡ (48 + n / 10) ∷ (48 + n % 10) ∷ []
two_digits n least most = decimal_step n least (omega arith) ∙ ap (λ (t : Text). t ++ (48 + n % 10) ∷ []) (decimal_digit (n / 10) (omega arith))

pub two_padded : (n : ℕ) → 10 ≤ n → n < 100 → padded 2 n ≡ decimal n
unfolding padded
two_padded n least most = ap (λ (t : Text). replicate (2 - length t) 48 ++ decimal n) (two_digits n least most)

pub three_digits : (n : ℕ) → 100 ≤ n → n < 1000 → decimal n ≡ (48 + n / 10 / 10) ∷ (48 + n / 10 % 10) ∷ (48 + n % 10) ∷ []
three_digits n least most =
    decimal_step n (omega arith) (omega arith) ∙ ap (λ (t : Text). t ++ (48 + n % 10) ∷ []) (two_digits (n / 10) (omega arith) (omega arith))
