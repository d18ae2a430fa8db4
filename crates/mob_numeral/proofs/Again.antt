-- The printed text of a number denotes that number.
use Rattle.std.{specs.Prelude.{nat_eq, Ok}, specs.Int.{IsInRange}, specs.Fmt.{decimal, signed_decimal}, specs.Str.Parse.{AllDigits}}
use Rattle.std.proofs.Common.{◌≡◌, ℕ, ◌^◌, ◌<◌, ◌≤◌, [], ◌∷◌, ◌++◌, length, Bool, true, false, cond, Some, None, ℤ, pos, negsuc, nat_abs, refl, sym, ap, subst, ◌∙◌, append_assoc, arith, rules, codes}
use Rattle.std.{proofs.Common.{inl, inr}, proofs.lemmas.Bool.{eqb-true}, proofs.lemmas.List.{append-nil}, proofs.lemmas.Fmt.{decimal_is_IsNumeral, length-decimal-le}}
use Rattle.std.proofs.lemmas.Str.Parse.{digit_from_value}
use Rattle.mob_ratio.{specs.Ratio.{Ratio, over}, proofs.RatioLemmas.{over-self, den_pos}}
use Rattle.mob_frac.{specs.Fits.{Fits}, specs.Signed.{signed}}
use Rattle.mob_language.{specs.Language.{Text, is_digit}, proofs.Heads.{within_said}}
use Rattle.mob_numeral.{specs.declared.numeral.Figures.{Figures}, specs.declared.numeral.Tail.{Tail}, specs.declared.numeral.Tail.TheVariants.{Over, Decimal}, specs.declared.numeral.Numeral.{Numeral}}
use Rattle.mob_numeral.{specs.Figures.{are_few_digits, digits, AreFigures}, specs.Number.{numeral_of, has_digits, number_sign, tail, number}, specs.NumberValue.{numeral_value}}
use Rattle.mob_numeral.{specs.NumberText.{number_text}, specs.Verdict.{Lit}, specs.Numbers.{numbers, whole_numbers}}

digit_test : (c : ℕ) → IsInRange 48 57 c → is_digit c ≡ true
digit_test c h = search rules

pub are_figures : (ds : Text) → AllDigits 10 ds → AreFigures ds
are_figures [] h = tt
are_figures (c ∷ cs) h = (digit_test c (digit_from_value c h.0), are_figures cs h.1)

pub few_digits_test : (ds : Text) → length ds ≤ 36 → are_few_digits ds ≡ true
few_digits_test ds h = search rules

unfoldable pub size_of : ℕ → Figures
size_of n = record { value = n; count = length (decimal n) }

pub digits_said : (n : ℕ) → n < 2 ^ 62 → digits (decimal n) (size_of n)
unfolding size_of
digits_said n h =
    let is = decimal_is_IsNumeral n (omega (arith, h)) in
    let len = length-decimal-le 19 n (omega arith) (omega (arith, h)) (omega (arith, h)) in
    record {
      meant = decimal n;
      said = record { said = record { is = refl; each = are_figures (decimal n) is.0.1 }; holds = few_digits_test (decimal n) (omega (arith, len)) };
      is = ap (λ (v : ℕ). record { value = v; count = length (decimal n) }) (sym is.1);
    }

is_negative : ℤ → Bool
is_negative (pos n) = false
is_negative (negsuc n) = true

front_of : ℤ → Text
front_of (pos n) = []
front_of (negsuc n) = 45 ∷ []

sign_said : (z : ℤ) → number_sign (front_of z) (is_negative z)
unfolding is_negative front_of
sign_said (pos n) = record { meant = None; said = refl; is = refl }
sign_said (negsuc n) = record { meant = Some 45; said = (refl, refl); is = refl }

text_is : (z : ℤ) → signed_decimal z ≡ front_of z ++ decimal (nat_abs z)
unfolding front_of
text_is (pos n) = refl
text_is (negsuc n) = refl

value_is : (z : ℤ) → signed (is_negative z) (nat_abs z) ≡ z
unfolding is_negative
value_is (pos n) = refl
value_is (negsuc n) = refl

number_said : (z : ℤ) (back : Text) (t : Tail) → nat_abs z < 2 ^ 62 → tail back t → has_digits (size_of (nat_abs z)) t ≡ true
    → number (signed_decimal z ++ back) (numeral_of (is_negative z, (size_of (nat_abs z), t)))
number_said z back t h said enough = record {
  said = record {
    meant = (is_negative z, (size_of (nat_abs z), t));
    said = record {
      front = front_of z;
      back = decimal (nat_abs z) ++ back;
      whole = ap (λ (s : Text). s ++ back) (text_is z) ∙ append_assoc (front_of z) (decimal (nat_abs z)) back;
      first = sign_said z;
      second = record { front = decimal (nat_abs z); back = back; whole = refl; first = digits_said (nat_abs z) h; second = said };
    };
    is = refl;
  };
  holds = enough;
}

pub nonempty : (n : ℕ) → n < 2 ^ 62 → 0 < length (decimal n)
nonempty n h = (decimal_is_IsNumeral n (omega (arith, h))).0.0

enough_whole : (n : ℕ) → n < 2 ^ 62 → has_digits (size_of n) (Decimal None None) ≡ true
unfolding size_of
enough_whole n h =
    let a = nonempty n h in
    let b = length-decimal-le 19 n (omega arith) (omega (arith, h)) (omega (arith, h)) in
    tests (length (decimal n)) a (omega (arith, b))
  where
    tests : (k : ℕ) → 0 < k → k ≤ 36 → has_digits (record { value = n; count = k }) (Decimal None None) ≡ true
    tests k p q = search rules

enough_over : (n d : ℕ) → n < 2 ^ 62 → 0 < d → has_digits (size_of n) (Over (size_of d)) ≡ true
unfolding size_of
enough_over n d h p = tests (length (decimal n)) d (nonempty n h) p
  where
    tests : (k m : ℕ) → 0 < k → 0 < m → has_digits (record { value = n; count = k }) (Over (record { value = m; count = length (decimal d) })) ≡ true
    tests k m p q = search rules

nothing_said : tail [] (Decimal None None)
nothing_said = inr (record { meant = (None, None); said = record { front = []; back = []; whole = refl; first = refl; second = refl }; is = refl })

over_said : (d : ℕ) → d < 2 ^ 62 → tail (codes "/" ++ decimal d) (Over (size_of d))
over_said d h = inl (record {
  meant = size_of d;
  said = record { meant = (tt, size_of d); said = record { front = codes "/"; back = decimal d; whole = refl; first = refl; second = digits_said d h }; is = refl };
  is = refl;
})

record Says (text : Text) (z : ℤ) (d : ℕ) : Type 0 where
  numeral : Numeral
  said : number text numeral
  is : numeral_value numeral ≡ over z d

number_says : (b : Bool) (z : ℤ) (d : ℕ) → nat_eq d 1 ≡ b → nat_abs z < 2 ^ 62 → d < 2 ^ 62 → 0 < d → Says (cond b (signed_decimal z) (signed_decimal z ++ (codes "/" ++ decimal d))) z d
unfolding numeral_value size_of
number_says true z d e h k p = record {
  numeral = numeral_of (is_negative z, (size_of (nat_abs z), Decimal None None));
  said = subst (λ (s : Text). number s (numeral_of (is_negative z, (size_of (nat_abs z), Decimal None None)))) (append-nil (signed_decimal z)) (number_said z [] (Decimal None None) h nothing_said (enough_whole (nat_abs z) h));
  is = ap (λ (n : ℕ). over (signed (is_negative z) n) 1) (omega arith) ∙ ap (λ (y : ℤ). over y 1) (value_is z) ∙ ap (λ (n : ℕ). over z n) (sym (eqb-true d 1 e));
}
number_says false z d e h k p = record {
  numeral = numeral_of (is_negative z, (size_of (nat_abs z), Over (size_of d)));
  said = number_said z (codes "/" ++ decimal d) (Over (size_of d)) h (over_said d k) (enough_over (nat_abs z) d h p);
  is = ap (λ (y : ℤ). over y d) (value_is z);
}

pub number_plain : (q : Ratio) → Fits q → (n : Numeral) × number (number_text q) n × (q ≡ numeral_value n)
number_plain q f =
    let s = number_says (nat_eq q.den 1) q.num q.den refl f.num_fits f.den_fits (den_pos q) in
    (s.numeral, s.said, sym (s.is ∙ over-self q))

pub number_again : (q : Ratio) → Fits q → Lit numbers (number_text q) (Ok q)
number_again q f =
    let n = number_plain q f in
    (n.0, within_said (number_text q) n.0 n.1, (λ x. x), (λ no. no (subst Fits n.2 f)), (λ x. x), n.2)

pub whole_again : (q : Ratio) → Fits q → q.den ≡ 1 → Lit whole_numbers (number_text q) (Ok q)
whole_again q f one =
    let n = number_plain q f in
    (n.0, within_said (number_text q) n.0 n.1, (λ x. x), (λ no. no (subst Fits n.2 f)), (λ no. no (subst (λ (x : Ratio). x.den ≡ 1) n.2 one)), n.2)
