-- The signs of the language.
use Rattle.std.{specs.Prelude.{ℕ, List, [], ◌∷◌, length, cond, max, nat_eq, Option, Some, None, codes}, specs.List.{starts_with}}

-- the signs, those of three characters first, then those of two and of one
abbrev pub signs : List (List ℕ)
signs =
    codes "#<>" ∷ codes "#<=" ∷ codes "#>=" ∷ codes "?<>" ∷ codes "?<=" ∷ codes "?>=" ∷ codes "%<>" ∷ codes "%<=" ∷ codes "%>=" ∷ codes "<->" ∷ codes "|=|"
    ∷ codes "#=" ∷ codes "#<" ∷ codes "#>" ∷ codes "?=" ∷ codes "?<" ∷ codes "?>" ∷ codes "%=" ∷ codes "%<" ∷ codes "%>"
    ∷ codes "<>" ∷ codes "!=" ∷ codes "<=" ∷ codes ">=" ∷ codes "||" ∷ codes "&&" ∷ codes "::"
    ∷ codes "=" ∷ codes "<" ∷ codes ">" ∷ codes "+" ∷ codes "-" ∷ codes "*" ∷ codes "/" ∷ codes "&" ∷ codes "|" ∷ codes "~"
    ∷ codes "(" ∷ codes ")" ∷ codes "," ∷ codes ";" ∷ codes "." ∷ []

-- the greater of a length and an optional length
abbrev pub longer : ℕ → Option ℕ → Option ℕ
longer n None = Some n
longer n (Some m) = Some (max n m)

-- the length of the longest of these signs that is at the front of a text
abbrev pub longest_sign : List (List ℕ) → List ℕ → Option ℕ
longest_sign [] l = None
longest_sign (s ∷ ss) l = cond (starts_with nat_eq l s) (longer (length s) (longest_sign ss l)) (longest_sign ss l)

-- the length of the first of these signs that is at the front of a text
abbrev pub first_sign : List (List ℕ) → List ℕ → Option ℕ
first_sign [] l = None
first_sign (s ∷ ss) l = cond (starts_with nat_eq l s) (Some (length s)) (first_sign ss l)

-- the length of the longest sign at the front of a text
unfoldable pub sign_length : List ℕ → Option ℕ
sign_length l = longest_sign signs l
