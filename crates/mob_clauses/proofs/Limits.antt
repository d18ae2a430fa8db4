-- A text of 1 to 18 digits is read as its number.
use Rattle.std.{specs.Prelude.{nat_le}, specs.List.{list_all}, specs.Char.{is_ascii_digit, digit_value}, specs.Result.{result_ok}}
use Rattle.std.specs.Str.Parse.{AllDigits, IsNumeral, digits_value, ParsesUnsigned, without_leading_plus}
use Rattle.std.proofs.Common.{◌≡◌, ◌∙◌, ◌<◌, ◌≤◌, ◌^◌, ◌&&◌, refl, sym, ap, subst, ℕ, List, [], ◌∷◌, Bool, true, false, length, Some, None, Result, Ok, Err, cond, arith, lit<}
use Rattle.std.{proofs.lemmas.Bool.{and_parts, leb-true}, proofs.lemmas.Bool.Decides.{nat_tests}, proofs.lemmas.Int.Digits.{digits_value-lt}}
use Rattle.std.{proofs.lemmas.Str.Parse.{digit_at, without_leading_plus_none}, proofs.Math.Nat.{pow-le-pow_right}}
use Rattle.mob_clauses.specs.Keys.{is_limit, limit_value}

digit_small : (c : ℕ) → is_ascii_digit c ≡ true → digit_value c < 10
digit_small c h = grind (arith, nat_tests)

all_digits : (bs : List ℕ) → list_all is_ascii_digit bs ≡ true → AllDigits 10 bs
all_digits [] h = tt
all_digits (c ∷ cs) h = let parts = and_parts (is_ascii_digit c) (list_all is_ascii_digit cs) h in (digit_small c parts.0, all_digits cs parts.1)

module _ (bs : List ℕ) (h : is_limit bs ≡ true) where
  front : (list_all is_ascii_digit bs && nat_le 1 (length bs)) ≡ true
  front = (and_parts (list_all is_ascii_digit bs && nat_le 1 (length bs)) (nat_le (length bs) 18) h).0

  digits : AllDigits 10 bs
  digits = all_digits bs (and_parts (list_all is_ascii_digit bs) (nat_le 1 (length bs)) front).0

  some : 1 ≤ length bs
  some = leb-true 1 (length bs) (and_parts (list_all is_ascii_digit bs) (nat_le 1 (length bs)) front).1

  few : length bs ≤ 18
  few = leb-true (length bs) 18 (and_parts (list_all is_ascii_digit bs && nat_le 1 (length bs)) (nat_le (length bs) 18) h).1

  no_plus : without_leading_plus bs ≡ bs
  no_plus = let r = digit_at bs 0 digits some in without_leading_plus_none bs (λ e. absurd (omega (arith, r)))

  small : digits_value 10 bs < 10 ^ 18
  small = let own : digits_value 10 bs < 10 ^ length bs = digits_value-lt 10 bs digits in let below : 10 ^ length bs ≤ 10 ^ 18 = pow-le-pow_right {n = 10} (lit< tt) few in omega (arith, own, below)

  fits : digits_value 10 bs < 2 ^ 64
  fits = omega (arith, small)

  numeral : IsNumeral 10 bs
  numeral = (some, digits)

  value : limit_value bs ≡ Some (digits_value 10 bs)
  value = ap (λ b. cond b (Some (digits_value 10 bs)) None) h

  pub limit_parsed : {E : Type 0} (r : Result ℕ E) → ParsesUnsigned 64 10 bs r → result_ok r ≡ limit_value bs
  limit_parsed (Ok n) p = ap (λ v. Some v) (p.1 ∙ ap (digits_value 10) no_plus) ∙ sym value
  limit_parsed (Err e) p = absurd (p (subst (λ ds. IsNumeral 10 ds) (sym no_plus) numeral, subst (λ ds. digits_value 10 ds < 2 ^ 64) (sym no_plus) fits))

-- that number is below 10 to the 18th
pub limit_small : (text : List ℕ) (n : ℕ) → limit_value text ≡ Some n → n < 10 ^ 18
limit_small text n h = by (is_limit text) refl h
  where
    by : (b : Bool) → is_limit text ≡ b → cond b (Some (digits_value 10 text)) None ≡ Some n → n < 10 ^ 18
    by true is so = let same : digits_value 10 text ≡ n = cc in subst (λ k. k < 10 ^ 18) same (small text is)
    by false is so = absurd (cc)
