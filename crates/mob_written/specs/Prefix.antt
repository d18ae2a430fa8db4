-- The prefixes of a temporal literal.
--
-- `Interp=Step;` says that the sequences of the literal have step interpolation. `SRID=0;` changes
-- nothing. A type admits both, one or none of them. Each admitted prefix may occur once, in any
-- order and any letter case, with blanks on both sides of its semicolon. A prefix belongs to the
-- whole literal and not to its first value. So what follows the prefixes does not begin with the
-- first letter of one that is still allowed.
use Rattle.std.{specs.Prelude.{◌≡◌, ℕ, List, [], ◌∷◌, ◌++◌, codes, Bool, true, false, ◌&&◌, ◌||◌, not, cond, nat_eq, Option, Some, None}, specs.Char.{to_ascii_lowercase}}
use Rattle.mob_language.{specs.Language.{Text, Language}, specs.Readers.{TextReader, ◌>>=◌}}
use Rattle.mob_points.specs.Points.{heading, srid_word, heading_at}
use Rattle.mob_written.specs.declared.written.Prefixes.{Prefixes}

pub data Prefix : Type 0 where
  interpolation : Prefix
  reference : Prefix

-- the word before the semicolon
abbrev pub prefix_word : Prefix → Text
prefix_word interpolation = codes "interp=step"
prefix_word reference = srid_word

abbrev pub prefix_of : Prefix → Language (Unit {0} × Unit {0})
prefix_of p = heading (prefix_word p)

-- the prefixes that a type admits: `Interp=Step;` unless its courses are steady, and `SRID=0;` if
-- it has a reference system
abbrev pub admitted : Bool → Bool → Prefixes
admitted steady has_srid = record { step = not steady; srid = has_srid }

abbrev pub admits : Prefixes → Prefix → Bool
admits a interpolation = a.step
admits a reference = a.srid

-- the allowed prefixes without this one
abbrev pub without_text : Prefix → Prefixes → Prefixes
without_text interpolation a = record { step = false; srid = a.srid }
without_text reference a = record { step = a.step; srid = false }

-- the prefixes still allowed after these
abbrev pub remaining : Prefixes → List Prefix → Prefixes
remaining a [] = a
remaining a (p ∷ said) = remaining (without_text p a) said

-- admitted prefixes, one after another, each at most once
abbrev pub ArePrefixes : Prefixes → Text → List Prefix → Type 0
ArePrefixes a text [] = text ≡ []
ArePrefixes a text (p ∷ said) = (front : Text) × (back : Text) × (text ≡ front ++ back) × (admits a p ≡ true) × prefix_of p front (tt, tt) × ArePrefixes (without_text p a) back said

-- one of them is `Interp=Step;`
abbrev pub says_step : List Prefix → Bool
says_step [] = false
says_step (interpolation ∷ said) = true
says_step (reference ∷ said) = says_step said

-- the first letter of an admitted prefix, in either case
abbrev pub is_first : ℕ → Bool → ℕ → Bool
is_first letter admitted c = nat_eq (to_ascii_lowercase c) letter && admitted

abbrev pub begins_prefix : Prefixes → ℕ → Bool
begins_prefix a c = is_first 105 a.step c || is_first 115 a.srid c

-- ---- the readers of these languages

unfoldable pub prefix_at : Prefix → TextReader (Unit {0} × Unit {0})
prefix_at p = heading_at (prefix_word p)

abbrev pub with_left : Prefixes → Option ((Unit {0} × Unit {0}) × Text) → Option (Prefixes × Text)
with_left left None = None
with_left left (Some x) = Some (left, x.1)

-- one prefix, if its first letter is at the front, and those that are still allowed
unfoldable pub one_prefix_at : Prefixes → TextReader Prefixes
one_prefix_at a [] = Some (a, [])
one_prefix_at a (c ∷ cs) = cond (is_first 105 a.step c) (with_left (without_text interpolation a) (prefix_at interpolation (c ∷ cs))) (cond (is_first 115 a.srid c) (with_left (without_text reference a) (prefix_at reference (c ∷ cs))) (Some (a, c ∷ cs)))

-- all prefixes, of which there are at most two
unfoldable pub prefixes_at : Prefixes → TextReader Prefixes
prefixes_at a text = one_prefix_at a text >>= λ x. one_prefix_at x.0 x.1
