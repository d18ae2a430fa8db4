-- How tokens lie in their text: in order, with only blanks and comments between them.
use Rattle.std.specs.Prelude.{◌≡◌, ◌+◌, ◌<◌, ◌≤◌, ◌++◌, ℕ, List, [], ◌∷◌, length, drop, true, Some, None, Ok, Err}
use Rattle.mob_chars.{specs.declared.token.TokenKind.{TokenKind}, specs.declared.token.Token.{Token}, specs.Scan.{begins_comment, comment_length, gap_length}}
use Rattle.mob_chars.specs.Tokens.{token_at, token, end_at, tokens_of}
use Rattle.mob_language.specs.Language.{is_blank}

-- `Leads p l ts q m`: the tokens ts lead from the place p, at which the rest of the text is l, to
-- the place q, at which it is m. Blanks and comments may be before, between and after them.
pub data Leads : ℕ → List ℕ → List Token → ℕ → List ℕ → Type 0 where
  here : {p : ℕ} {l : List ℕ} → Leads p l [] p l
  blank : {p q b : ℕ} {l m : List ℕ} {ts : List Token} → is_blank b ≡ true → Leads (p + 1) l ts q m → Leads p (b ∷ l) ts q m
  comment : {p q : ℕ} {l m : List ℕ} {ts : List Token} → begins_comment l ≡ true
      → Leads (p + comment_length l) (drop (comment_length l) l) ts q m → Leads p l ts q m
  next : {p q n : ℕ} {l m : List ℕ} {k : TokenKind} {ts : List Token} → gap_length l ≡ 0 → token_at l ≡ Some (k, n)
      → Leads (p + n) (drop n l) ts q m → Leads p l (token k p n ∷ ts) q m

-- the tokens of a whole text: they lead to its end, and the last one marks that end
pub record IsLaid (text : List ℕ) (ts : List Token) : Type 0 where
  pub all : List Token
  pub parts : ts ≡ all ++ end_at (length text) ∷ []
  pub leads : Leads 0 text all (length text) []

-- a text that goes on with no gap and no token: at a character that begins none, or at a string
-- that is not closed
pub record BeginsNone (l : List ℕ) : Type 0 where
  pub goes_on : 0 < length l
  pub no_gap : gap_length l ≡ 0
  pub no_token : token_at l ≡ None

-- a text whose tokens lead to a place at which no token begins
pub record IsStuck (text : List ℕ) (place : ℕ) : Type 0 where
  pub before : List Token
  pub rest : List ℕ
  pub leads : Leads 0 text before place rest
  pub none_begins : BeginsNone rest

-- Between the places p and e the tokens are in order: each begins at or after the end of the one
-- before.
abbrev pub InTextOrder : ℕ → ℕ → List Token → Type 0
InTextOrder p e [] = p ≤ e
InTextOrder p e (t ∷ ts) = (p ≤ t.from) × (t.from ≤ t.to) × InTextOrder t.to e ts

-- the tokens of a text lie in it as `IsLaid` says
abbrev pub TokensAreLaid : Type 0
TokensAreLaid = (text : List ℕ) (ts : List Token) → tokens_of text ≡ Ok ts → IsLaid text ts

-- a text without tokens has tokens up to the place of its fault, and none begins there
abbrev pub FaultsAreStuck : Type 0
FaultsAreStuck = (text : List ℕ) (place : ℕ) → tokens_of text ≡ Err place → IsStuck text place

-- the tokens of a text are in order and do not overlap
abbrev pub TokensAreInOrder : Type 0
TokensAreInOrder = (text : List ℕ) (ts : List Token) → tokens_of text ≡ Ok ts → InTextOrder 0 (length text) ts
