-- Readers from the left, one for each way to build a language.
--
-- A reader takes a text and returns the value of a prefix and the rest after it, or None. It reads
-- as far as it can. A reader on lists lies between a language, which says what a text means, and
-- the code, which scans the bytes: `proofs/` shows that each reader reads exactly the texts of its
-- language, and the code returns what the reader does.
use Rattle.std.{specs.Prelude.{ℕ, zero, suc, List, [], ◌∷◌, length, Bool, true, false, cond, Option, Some, None, nat_eq}, specs.Char.{to_ascii_lowercase}}
use Rattle.mob_language.specs.Language.{Text, is_blank, in_middle}

abbrev pub TextReader : Type 0 → Type 0
TextReader A = Text → Option (A × Text)

infixl 10 ◌>>=◌
-- continue with the value that was read, if any
abbrev pub ◌>>=◌ : {A B : Type 0} → Option A → (A → Option B) → Option B
None >>= f = None
(Some a) >>= f = f a

-- the first, then the second
abbrev pub then_at : {A B : Type 0} → TextReader A → TextReader B → TextReader (A × B)
then_at r s text = r text >>= λ x. s x.1 >>= λ y. Some ((x.0, y.0), y.1)

abbrev pub else_at : {A : Type 0} → Option A → Option A → Option A
else_at None o = o
else_at (Some a) o = Some a

-- the first, or the second if the first reads nothing
abbrev pub or_at : {A : Type 0} → TextReader A → TextReader A → TextReader A
or_at r s text = else_at (r text) (s text)

abbrev pub maybe_of : {A : Type 0} → Text → Option (A × Text) → Option (Option A × Text)
maybe_of text None = Some (None, text)
maybe_of text (Some x) = Some (Some x.0, x.1)

-- a text of the language, or nothing
abbrev pub maybe_at : {A : Type 0} → TextReader A → TextReader (Option A)
maybe_at r text = maybe_of text (r text)

-- f of the value that was read
abbrev pub means_at : {A B : Type 0} → (A → B) → TextReader A → TextReader B
means_at f r text = r text >>= λ x. Some (f x.0, x.1)

-- the value that was read, if it passes the test
abbrev pub text_where : {A : Type 0} → (A → Bool) → TextReader A → TextReader A
text_where test r text = r text >>= λ x. cond (test x.0) (Some x) None

-- a word
abbrev pub word_at : Text → TextReader (Unit {0})
word_at [] text = Some (tt, text)
word_at (w ∷ ws) [] = None
word_at (w ∷ ws) (c ∷ cs) = cond (nat_eq c w) (word_at ws cs) None

-- a word in upper or lower case
abbrev pub any_case_at : Text → TextReader (Unit {0})
any_case_at [] text = Some (tt, text)
any_case_at (w ∷ ws) [] = None
any_case_at (w ∷ ws) (c ∷ cs) = cond (nat_eq (to_ascii_lowercase c) w) (any_case_at ws cs) None

-- one byte that passes the test
abbrev pub one_at : (ℕ → Bool) → TextReader ℕ
one_at test [] = None
one_at test (c ∷ cs) = cond (test c) (Some (c, cs)) None

abbrev pub grown : Bool → ℕ → Text → Text × Text → Text × Text
grown true c cs parts = (c ∷ parts.0, parts.1)
grown false c cs parts = ([], c ∷ cs)

-- the longest prefix of bytes that pass the test, and the rest
abbrev pub split_while : (ℕ → Bool) → Text → Text × Text
split_while test [] = ([], [])
split_while test (c ∷ cs) = grown (test c) c cs (split_while test cs)

abbrev pub many_at : (ℕ → Bool) → TextReader Text
many_at test text = Some (split_while test text)

abbrev pub ended : {A : Type 0} → A × Text → Option A
ended (a, []) = Some a
ended (a, c ∷ cs) = None

-- the whole text
abbrev pub all_of : {A : Type 0} → TextReader A → Text → Option A
all_of r text = r text >>= ended

-- the text after an item: nothing more, or a separator and further items
abbrev pub more_items : {A : Type 0} → A → Text → Option (Unit {0} × Text) → (Text → Option (List A × Text)) → Option (List A × Text)
more_items v rest None read = Some (v ∷ [], rest)
more_items v rest (Some y) read = read y.1 >>= λ z. Some (v ∷ z.0, z.1)

-- a list with another language's texts as separators, of at most `most` items
unfoldable pub items_at : {A : Type 0} → ℕ → TextReader A → TextReader (Unit {0}) → TextReader (List A)
items_at zero r s text = None
items_at (suc most) r s text = r text >>= λ x. more_items x.0 x.1 (s x.1) (items_at most r s)

-- a list with another language's texts as separators; no list has more items than the text has
-- bytes, plus one
unfoldable pub separated_at : {A : Type 0} → TextReader A → TextReader (Unit {0}) → TextReader (List A)
separated_at r s text = items_at (suc (length text)) r s text

-- a text after a word
abbrev pub behind_at : {A : Type 0} → Text → TextReader A → TextReader A
behind_at word r = means_at (λ (v : Unit {0} × _). v.1) (then_at (word_at word) r)

abbrev pub blanks_at : TextReader Text
blanks_at = many_at is_blank

-- a sign with blanks around it
abbrev pub spaced_at : Text → TextReader (Unit {0})
spaced_at sign = means_at (λ (v : Text × (Unit {0} × Text)). tt) (then_at blanks_at (then_at (word_at sign) blanks_at))

-- a text with blanks before and after it
abbrev pub within_blanks_at : {A : Type 0} → TextReader A → TextReader A
within_blanks_at r = means_at in_middle (then_at blanks_at (then_at r blanks_at))
