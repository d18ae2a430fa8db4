-- Each gap and each token lies within the text, and each token has at least one byte.
use Rattle.std.{specs.Prelude.{◌==◌, IfSome, option_map, take_while, not}, specs.List.{prefix_len}}
use Rattle.std.proofs.Common.{◌≡◌, ◌<◌, ◌≤◌, ◌+◌, ◌∙◌, inl, inr, ℕ, zero, suc, List, [], ◌∷◌, length, drop, length-drop, Bool, true, false, cond, Option, Some, None, refl, sym, ap, subst, arith}
use Rattle.std.{proofs.lemmas.List.{length-take}, proofs.lemmas.List.Sums.{take_while-cons}, proofs.lemmas.Bool.{cases_Bool, or_left}}
use Rattle.mob_chars.{specs.declared.token.TokenKind.{TokenKind}, specs.declared.token.TokenKind.TheVariants.{Word, Number, Str, Sign}}
use Rattle.mob_chars.specs.Scan.{is_letter, is_word, is_point, is_quote, begins_digit, begins_number, word_length, digits_length, fraction_length, mantissa_length, with_digits, power_length}
use Rattle.mob_chars.{specs.Scan.{exponent_length, number_length, quoted_length, string_length, begins_comment, comment_length, gap_length}, specs.Signs.{signs, sign_length}, specs.Tokens.{token_at}}
use Rattle.mob_chars.proofs.Longest.{first_is_longest, first_fits}
use Rattle.mob_language.specs.Language.{is_blank, is_digit, is_number_sign, is_exponent_letter}

abbrev pub Within : ℕ → Option ℕ → Type 0
Within m o = IfSome o (λ n. (0 < n) × (n ≤ m))

taken_upto : (p : ℕ → Bool) (l : List ℕ) → length (take_while p l) ≤ length l
taken_upto p l = omega (arith, length-take (prefix_len p l) l)

taken_first : (p : ℕ → Bool) (b : ℕ) (l : List ℕ) → p b ≡ true → 0 < length (take_while p (b ∷ l))
taken_first p b l h = let long : length (take_while p (b ∷ l)) ≡ suc (length (take_while p l)) = ap length (take_while-cons p b l ∙ ap (λ v. cond v (b ∷ take_while p l) []) h) in omega (arith, long)

cond_upto : (b : Bool) (x y m : ℕ) → x ≤ m → y ≤ m → cond b x y ≤ m
cond_upto true x y m h k = h
cond_upto false x y m h k = k

fraction_upto : (l : List ℕ) → fraction_length l ≤ length l
fraction_upto [] = omega arith
fraction_upto (b ∷ l) = cond_upto (is_point b) (1 + digits_length l) 0 (length (b ∷ l)) (omega (arith, taken_upto is_digit l)) (omega arith)

mantissa_upto : (l : List ℕ) → mantissa_length l ≤ length l
mantissa_upto l = omega (arith, taken_upto is_digit l, fraction_upto (drop (digits_length l) l), length-drop (digits_length l) l)

digits_upto : (k n m : ℕ) → k + n ≤ m → with_digits k n ≤ m
digits_upto k n m h = cond_upto (n == 0) 0 (k + n) m (omega arith) h

power_upto : (l : List ℕ) → power_length l ≤ length l + 1
power_upto [] = omega arith
power_upto (b ∷ l) = cond_upto (is_number_sign b) (with_digits 2 (digits_length l)) (with_digits 1 (digits_length (b ∷ l))) (length (b ∷ l) + 1)
    (digits_upto 2 (digits_length l) (length (b ∷ l) + 1) (omega (arith, taken_upto is_digit l))) (digits_upto 1 (digits_length (b ∷ l)) (length (b ∷ l) + 1) (omega (arith, taken_upto is_digit (b ∷ l))))

exponent_upto : (l : List ℕ) → exponent_length l ≤ length l
exponent_upto [] = omega arith
exponent_upto (b ∷ l) = cond_upto (is_exponent_letter b) (power_length l) 0 (length (b ∷ l)) (omega (arith, power_upto l)) (omega arith)

number_upto : (l : List ℕ) → number_length l ≤ length l
number_upto l = omega (arith, mantissa_upto l, exponent_upto (drop (mantissa_length l) l), length-drop (mantissa_length l) l)

-- a mantissa that begins with a point has at least the byte of that point
point_first : (b : ℕ) (l : List ℕ) (n : ℕ) → n ≡ digits_length (b ∷ l) → is_point b ≡ true → 0 < n + fraction_length (drop n (b ∷ l))
point_first b l zero e h = let P : Bool → Type 0 = λ v. 0 < 0 + cond v (1 + digits_length l) 0 in subst P (sym h) (omega arith)
point_first b l (suc n) e h = omega arith

number_first : (b : ℕ) (l : List ℕ) → begins_number (b ∷ l) ≡ true → 0 < number_length (b ∷ l)
number_first b l h = elim (cases_Bool (is_point b)) [
  | inl yes_ ↦ omega (arith, point_first b l (digits_length (b ∷ l)) refl yes_)
  | inr no_ ↦ omega (arith, taken_first is_digit b l (sym (ap (λ v. cond v (begins_digit l) (is_digit b)) no_) ∙ h))
]

more_within : (k m : ℕ) (o : Option ℕ) → Within m o → Within (k + m) (option_map (λ n. k + n) o)
more_within k m None h = tt
more_within k m (Some n) h = (omega (arith, h.0), omega (arith, h.1))

cond_within : (b : Bool) (m : ℕ) (x y : Option ℕ) → Within m x → Within m y → Within m (cond b x y)
cond_within true m x y h k = h
cond_within false m x y h k = k

wider : (k m : ℕ) (o : Option ℕ) → k ≡ m → Within k o → Within m o
wider k m o e h = let P : ℕ → Type 0 = λ n. Within n o in subst P e h

quoted_within : (l : List ℕ) → Within (length l) (quoted_length l)
quoted_within [] = tt
quoted_within (b ∷ []) = cond_within (is_quote b) (length (b ∷ [])) (Some 1) None (omega arith, omega arith) tt
quoted_within (b ∷ c ∷ l) = cond_within (is_quote b) (length (b ∷ c ∷ l)) (cond (is_quote c) (option_map (λ n. 2 + n) (quoted_length l)) (Some 1)) (option_map (λ n. 1 + n) (quoted_length (c ∷ l)))
    (cond_within (is_quote c) (length (b ∷ c ∷ l)) (option_map (λ n. 2 + n) (quoted_length l)) (Some 1) (wider (2 + length l) (length (b ∷ c ∷ l)) (option_map (λ n. 2 + n) (quoted_length l)) (omega arith) (more_within 2 (length l) (quoted_length l) (quoted_within l))) (omega arith, omega arith))
    (wider (1 + length (c ∷ l)) (length (b ∷ c ∷ l)) (option_map (λ n. 1 + n) (quoted_length (c ∷ l))) (omega arith) (more_within 1 (length (c ∷ l)) (quoted_length (c ∷ l)) (quoted_within (c ∷ l))))

string_within : (l : List ℕ) → Within (length l) (string_length l)
string_within [] = tt
string_within (b ∷ l) = wider (1 + length l) (length (b ∷ l)) (option_map (λ n. 1 + n) (quoted_length l)) (omega arith) (more_within 1 (length l) (quoted_length l) (quoted_within l))

sign_within : (l : List ℕ) → Within (length l) (sign_length l)
unfolding sign_length
sign_within l = let P : Option ℕ → Type 0 = Within (length l) in subst P (first_is_longest signs l refl) (first_fits signs l refl)

abbrev TokenWithin : ℕ → Option (TokenKind × ℕ) → Type 0
TokenWithin m o = IfSome o (λ x. (0 < x.1) × (x.1 ≤ m))

of_kind : (k : TokenKind) (m : ℕ) (o : Option ℕ) → Within m o → TokenWithin m (option_map (λ n. (k, n)) o)
of_kind k m None h = tt
of_kind k m (Some n) h = h

either_within : (b : Bool) (m : ℕ) (x y : Option (TokenKind × ℕ)) → (b ≡ true → TokenWithin m x) → TokenWithin m y → TokenWithin m (cond b x y)
either_within true m x y h k = h refl
either_within false m x y h k = k

pub token_within : (l : List ℕ) → IfSome (token_at l) (λ x. (0 < x.1) × (x.1 ≤ length l))
token_within [] = tt
token_within (b ∷ l) =
    let m = length (b ∷ l) in
    let s = option_map (λ n. (Sign, n)) (sign_length (b ∷ l)) in
    let q = cond (is_quote b) (option_map (λ n. (Str, n)) (string_length (b ∷ l))) s in
    let n = cond (begins_number (b ∷ l)) (Some (Number, number_length (b ∷ l))) q in
    either_within (is_letter b) m (Some (Word, word_length (b ∷ l))) n (λ h. (taken_first is_word b l (or_left (is_letter b) (is_digit b) h), taken_upto is_word (b ∷ l)))
    (either_within (begins_number (b ∷ l)) m (Some (Number, number_length (b ∷ l))) q (λ h. (number_first b l h, number_upto (b ∷ l)))
    (either_within (is_quote b) m (option_map (λ n. (Str, n)) (string_length (b ∷ l))) s (λ h. of_kind Str m (string_length (b ∷ l)) (string_within (b ∷ l)))
    (of_kind Sign m (sign_length (b ∷ l)) (sign_within (b ∷ l)))))

pub gap_upto : (l : List ℕ) → gap_length l ≤ length l
gap_upto [] = omega arith
gap_upto (b ∷ l) = cond_upto (begins_comment (b ∷ l)) (comment_length (b ∷ l)) (cond (is_blank b) 1 0) (length (b ∷ l)) (taken_upto (λ b. not (b == 10)) (b ∷ l)) (cond_upto (is_blank b) 1 0 (length (b ∷ l)) (omega arith) (omega arith))
