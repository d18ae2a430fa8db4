-- The tokens of a text.
use Rattle.std.specs.Prelude.{◌≡◌, ◌+◌, ◌-◌, ℕ, zero, suc, List, [], ◌∷◌, cond, Option, Some, None, option_map, Result, Ok, Err}
use Rattle.mob_chars.{specs.declared.token.TokenKind.{TokenKind}, specs.declared.token.TokenKind.TheVariants.{Word, Number, Str, Sign, End}, specs.declared.token.Token.{Token}}
use Rattle.mob_chars.{specs.Scan.{is_letter, is_quote, begins_number, word_length, number_length, string_length, gap_length}, specs.Signs.{sign_length}}
use Rattle.mob_list.{specs.declared.fault.Fault.{Fault}, specs.declared.fault.Fault.TheVariants.{Because, NoMemory}}

-- The kind and the length of the token at the front of a text. A letter begins a word; a digit, or
-- a point and a digit, a number; a quote a string; everything else is the longest sign. None if
-- there is no such sign or the string is not closed.
abbrev pub token_at : List ℕ → Option (TokenKind × ℕ)
token_at [] = None
token_at (b ∷ l) =
    cond (is_letter b) (Some (Word, word_length (b ∷ l)))
    (cond (begins_number (b ∷ l)) (Some (Number, number_length (b ∷ l)))
    (cond (is_quote b) (option_map (λ n. (Str, n)) (string_length (b ∷ l)))
    (option_map (λ n. (Sign, n)) (sign_length (b ∷ l)))))

-- a token of n bytes at the place p
abbrev pub token : TokenKind → ℕ → ℕ → Token
token k p n = record { kind = k; from = p; to = p + n }

-- the end of a text
abbrev pub end_at : ℕ → Token
end_at p = record { kind = End; from = p; to = p }

-- a token in front of the others
abbrev pub before_others : Token → Result (List Token) ℕ → Result (List Token) ℕ
before_others t (Ok ts) = Ok (t ∷ ts)
before_others t (Err p) = Err p

-- What is at the place p: a gap, a token, or neither, in which case the text has no tokens. The
-- other bytes of a gap or token are skipped. `others p k` are the tokens from the place p on, after
-- k more bytes are skipped.
abbrev pub from_place : (ℕ → ℕ → Result (List Token) ℕ) → ℕ → ℕ → Option (TokenKind × ℕ) → Result (List Token) ℕ
from_place others p (suc gap) at_front = others (p + 1) gap
from_place others p zero None = Err p
from_place others p zero (Some x) = before_others (token x.0 p x.1) (others (p + 1) (x.1 - 1))

-- The tokens of a text whose first byte is at the place p, after its first k bytes are skipped; or
-- the place at which no token begins. The last token marks the end of the text.
unfoldable pub tokens_from : List ℕ → ℕ → ℕ → Result (List Token) ℕ
tokens_from [] p k = Ok (end_at p ∷ [])
tokens_from (b ∷ l) p zero = from_place (tokens_from l) p (gap_length (b ∷ l)) (token_at (b ∷ l))
tokens_from (b ∷ l) p (suc k) = tokens_from l (p + 1) k

-- the tokens of a text, or the first place at which none begins: that of a character, or of the
-- quote of a string that is not closed
abbrev pub tokens_of : List ℕ → Result (List Token) ℕ
tokens_of text = tokens_from text 0 0

-- why a text has no tokens: none begins at that place, or an allocation failed
abbrev pub IsLexFault : List ℕ → Fault ℕ → Type 0
IsLexFault text (Because place) = tokens_of text ≡ Err place
IsLexFault text NoMemory = Unit {0}
