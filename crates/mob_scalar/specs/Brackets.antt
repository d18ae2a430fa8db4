-- Brackets, braces and commas, with blanks beside them.
--
-- Blanks may be on both sides of each sign outside numbers, moments and quoted values.
use Rattle.std.specs.Prelude.{ℕ, List, [], ◌∷◌, ◌++◌, codes, Bool, ◌||◌, nat_eq}
use Rattle.mob_language.{specs.Language.{Text, Language, ◌▷◌, Means, Word, OneOf, blanks, spaced, in_middle}, specs.Readers.{TextReader, then_at, means_at, word_at, one_at, blanks_at, spaced_at}}

abbrev pub comma : Language (Unit {0})
comma = spaced (codes ",")

abbrev pub is_open : ℕ → Bool
is_open c = nat_eq c 91 || nat_eq c 40

abbrev pub is_close : ℕ → Bool
is_close c = nat_eq c 93 || nat_eq c 41

-- an opening bracket, which blanks may follow
abbrev pub opening : Language ℕ
opening = Means (λ (v : ℕ × Text). v.0) (OneOf is_open ▷ blanks)

-- a closing bracket
abbrev pub closing : Language ℕ
closing = Means (λ (v : Text × ℕ). v.1) (blanks ▷ OneOf is_close)

-- a text in braces
abbrev pub within_braces : {A : Type 0} → Language A → Language A
within_braces l = Means in_middle ((Word (codes "{") ▷ blanks) ▷ (l ▷ (blanks ▷ Word (codes "}"))))

-- ---- their printed texts

-- the texts, separated by commas and spaces
abbrev pub with_commas : List Text → Text
with_commas [] = []
with_commas (x ∷ []) = x
with_commas (x ∷ y ∷ ys) = x ++ codes ", " ++ with_commas (y ∷ ys)

abbrev pub in_braces : Text → Text
in_braces text = codes "{" ++ text ++ codes "}"

-- the texts after the first one, each after a comma and a space
abbrev pub more_texts : {A : Type 0} → (A → Text) → List A → Text
more_texts text [] = []
more_texts text (x ∷ xs) = codes ", " ++ text x ++ more_texts text xs

-- ---- the readers of these languages

unfoldable pub comma_at : TextReader (Unit {0})
comma_at = spaced_at (codes ",")

unfoldable pub opening_at : TextReader ℕ
opening_at = means_at (λ (v : ℕ × Text). v.0) (then_at (one_at is_open) blanks_at)

unfoldable pub closing_at : TextReader ℕ
closing_at = means_at (λ (v : Text × ℕ). v.1) (then_at blanks_at (one_at is_close))

unfoldable pub open_brace_at : TextReader (Unit {0} × Text)
open_brace_at = then_at (word_at (codes "{")) blanks_at

unfoldable pub close_brace_at : TextReader (Text × Unit {0})
close_brace_at = then_at blanks_at (word_at (codes "}"))
