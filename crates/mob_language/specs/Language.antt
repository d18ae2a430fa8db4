-- Languages of texts.
--
-- A language says which texts belong to it, and which value each of them denotes. It is a relation
-- between a text and a value, so a definition built from these words is the meaning of a text and
-- prescribes no way of reading it. The words are those of a grammar:
--
--     l ▷ m             a text of l followed by a text of m; it denotes the pair of the two values
--     l ∣ m             a text of l, or a text of m
--     Maybe l           a text of l, or nothing at all
--     Word w            the word w alone
--     AnyCase w         the word w, with each letter in either case
--     OneOf test        one byte that passes the test; it denotes that byte
--     ManyOf test       any number of bytes that all pass the test; it denotes these bytes
--     Separated l s     one or more texts of l, with a text of s between neighbours; it denotes the
--                       list of the values
--     behind w l        the word w followed by a text of l; it denotes the value of the latter
--     Means f l         a text of l; if it denotes a there, it denotes f a here
--     Where test l      a text of l whose value passes the test
use Rattle.std.{specs.Prelude.{◌≡◌, ℕ, List, [], ◌∷◌, ◌++◌, map, Bool, true, ◌&&◌, ◌||◌, nat_le, nat_eq, Option, Some, None, ◌⊎◌}, specs.Char.{to_ascii_lowercase}}

-- a text as the list of its bytes
abbrev pub Text : Type 0
Text = List ℕ

-- the text denotes the value
abbrev pub Language : Type 0 → Type 1
Language A = Text → A → Type 0

infixr 5 ◌▷◌
infixr 4 ◌∣◌
-- a text of the first, followed by a text of the second
pub record ◌▷◌ {A B : Type 0} (l : Language A) (m : Language B) (text : Text) (v : A × B) : Type 0 where
  pub front : Text
  pub back : Text
  pub whole : text ≡ front ++ back
  pub first : l front v.0
  pub second : m back v.1

-- a text of the first, or a text of the second
abbrev pub ◌∣◌ : {A : Type 0} → Language A → Language A → Language A
(l ∣ m) text v = l text v ⊎ m text v

-- a text of the language, or nothing
abbrev pub Maybe : {A : Type 0} → Language A → Language (Option A)
Maybe l text None = text ≡ []
Maybe l text (Some a) = l text a

-- a text that denotes a in the language denotes f a
pub record Means {A B : Type 0} (f : A → B) (l : Language A) (text : Text) (v : B) : Type 0 where
  pub meant : A
  pub said : l text meant
  pub is : v ≡ f meant

-- a text whose value passes the test
pub record Where {A : Type 0} (test : A → Bool) (l : Language A) (text : Text) (v : A) : Type 0 where
  pub said : l text v
  pub holds : test v ≡ true

-- this word alone
abbrev pub Word : Text → Language (Unit {0})
Word word text v = text ≡ word

-- the text with each capital letter made lower case
abbrev pub in_lower_case : Text → Text
in_lower_case text = map to_ascii_lowercase text

-- a word in upper or lower case; `word` is written in lower case
abbrev pub AnyCase : Text → Language (Unit {0})
AnyCase word text v = in_lower_case text ≡ word

-- one byte that passes the test
abbrev pub OneOf : (ℕ → Bool) → Language ℕ
OneOf test text c = (text ≡ c ∷ []) × (test c ≡ true)

-- each of the bytes passes the test
abbrev pub AreAll : (ℕ → Bool) → Text → Type 0
AreAll test [] = Unit {0}
AreAll test (c ∷ cs) = (test c ≡ true) × AreAll test cs

-- any number of bytes that all pass the test
pub record ManyOf (test : ℕ → Bool) (text : Text) (v : Text) : Type 0 where
  pub is : text ≡ v
  pub each : AreAll test v

-- one or more texts, with a text of another language between neighbours
abbrev pub Separated : {A : Type 0} → Language A → Language (Unit {0}) → Language (List A)
Separated l s text [] = ⊥
Separated l s text (v ∷ []) = l text v
Separated l s text (v ∷ w ∷ vs) = (x : Text) × (y : Text) × (z : Text) × (text ≡ x ++ (y ++ z)) × l x v × s y tt × Separated l s z (w ∷ vs)

-- a word followed by a text of the language
abbrev pub behind : {A : Type 0} → Text → Language A → Language A
behind word l = Means (λ (v : Unit {0} × _). v.1) (Word word ▷ l)

-- a blank is a space, a tab, a carriage return or a line feed
abbrev pub is_blank : ℕ → Bool
is_blank c = nat_eq c 32 || (nat_eq c 9 || (nat_eq c 13 || nat_eq c 10))

-- a digit
abbrev pub is_digit : ℕ → Bool
is_digit c = nat_le 48 c && nat_le c 57

-- the sign of a number: a plus or a minus
abbrev pub is_number_sign : ℕ → Bool
is_number_sign c = nat_eq c 43 || nat_eq c 45

-- the letter of an exponent
abbrev pub is_exponent_letter : ℕ → Bool
is_exponent_letter c = nat_eq c 101 || nat_eq c 69

-- any number of blanks
abbrev pub blanks : Language Text
blanks = ManyOf is_blank

-- a sign with any number of blanks around it
abbrev pub spaced : Text → Language (Unit {0})
spaced sign = Means (λ (v : Text × (Unit {0} × Text)). tt) (blanks ▷ (Word sign ▷ blanks))

-- the middle of three
abbrev pub in_middle : {A B C : Type 0} → A × (B × C) → B
in_middle v = v.1.0

-- a text with any number of blanks before and after it
abbrev pub within_blanks : {A : Type 0} → Language A → Language A
within_blanks l = Means in_middle (blanks ▷ (l ▷ blanks))
