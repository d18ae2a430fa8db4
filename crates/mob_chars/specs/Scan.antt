-- The blanks, comments, words, numbers and strings at the front of a text, and their lengths in
-- bytes.
use Rattle.std.specs.Prelude.{◌==◌, ◌+◌, ◌&&◌, ◌||◌, ℕ, List, [], ◌∷◌, length, drop, Bool, false, not, cond, nat_le, option_map, Option, Some, None, take_while}
use Rattle.mob_language.specs.Language.{is_blank, is_digit, is_number_sign, is_exponent_letter}

-- a letter of either case, or `_`
abbrev pub is_letter : ℕ → Bool
is_letter b = (nat_le 97 b && nat_le b 122) || (nat_le 65 b && nat_le b 90) || (b == 95)

abbrev pub is_word : ℕ → Bool
is_word b = is_letter b || is_digit b

abbrev pub is_quote : ℕ → Bool
is_quote b = b == 39

abbrev pub is_point : ℕ → Bool
is_point b = b == 46

-- the letters, digits and `_` at the front
abbrev pub word_length : List ℕ → ℕ
word_length l = length (take_while is_word l)

abbrev pub digits_length : List ℕ → ℕ
digits_length l = length (take_while is_digit l)

abbrev pub begins_digit : List ℕ → Bool
begins_digit [] = false
begins_digit (b ∷ l) = is_digit b

-- a number begins with a digit, or with a point and a digit
abbrev pub begins_number : List ℕ → Bool
begins_number [] = false
begins_number (b ∷ l) = cond (is_point b) (begins_digit l) (is_digit b)

-- a point and the digits after it
abbrev pub fraction_length : List ℕ → ℕ
fraction_length [] = 0
fraction_length (b ∷ l) = cond (is_point b) (1 + digits_length l) 0

-- digits with at most one point
abbrev pub mantissa_length : List ℕ → ℕ
mantissa_length l = digits_length l + fraction_length (drop (digits_length l) l)

-- the length of a mark and the digits after it, if there is a digit; else 0
abbrev pub with_digits : ℕ → ℕ → ℕ
with_digits mark digits = cond (digits == 0) 0 (mark + digits)

-- after the letter of an exponent: an optional sign and at least one digit
abbrev pub power_length : List ℕ → ℕ
power_length [] = 0
power_length (b ∷ l) = cond (is_number_sign b) (with_digits 2 (digits_length l)) (with_digits 1 (digits_length (b ∷ l)))

-- an exponent: `e` or `E`, an optional sign and at least one digit
abbrev pub exponent_length : List ℕ → ℕ
exponent_length [] = 0
exponent_length (b ∷ l) = cond (is_exponent_letter b) (power_length l) 0

-- a number: digits with at most one point, then an optional exponent
abbrev pub number_length : List ℕ → ℕ
number_length l = mantissa_length l + exponent_length (drop (mantissa_length l) l)

-- after an opening quote: the length up to and including the closing quote, which is the first
-- quote that is not one of a pair
abbrev pub quoted_length : List ℕ → Option ℕ
quoted_length [] = None
quoted_length (b ∷ []) = cond (is_quote b) (Some 1) None
quoted_length (b ∷ c ∷ l) =
    cond (is_quote b) (cond (is_quote c) (option_map (λ n. 2 + n) (quoted_length l)) (Some 1)) (option_map (λ n. 1 + n) (quoted_length (c ∷ l)))

-- a string with both its quotes
abbrev pub string_length : List ℕ → Option ℕ
string_length [] = None
string_length (b ∷ l) = option_map (λ n. 1 + n) (quoted_length l)

-- the length of a comment, up to the next line feed
abbrev pub comment_length : List ℕ → ℕ
comment_length l = length (take_while (λ b. not (b == 10)) l)

-- two minus signs begin a comment
abbrev pub begins_comment : List ℕ → Bool
begins_comment [] = false
begins_comment (a ∷ []) = false
begins_comment (a ∷ b ∷ l) = (a == 45) && (b == 45)

-- the length of the blank or comment at the front; 0 if there is none
abbrev pub gap_length : List ℕ → ℕ
gap_length [] = 0
gap_length (b ∷ l) = cond (begins_comment (b ∷ l)) (comment_length (b ∷ l)) (cond (is_blank b) 1 0)
