-- Characters and their escapes.
use Rattle.std.specs.Prelude.{nat_lt}
use Rattle.std.proofs.Common.{◌≡◌, ℕ, ◌+◌, ◌/◌, ◌%◌, ◌<◌, ◌≤◌, [], ◌∷◌, ◌++◌, Bool, true, false, cond, refl, sym, ap, ◌∙◌, append_assoc, append-nil, arith, rules, codes, encode_utf8}
use Rattle.mob_language.specs.Language.{Text}
use Rattle.mob_scalar.specs.Quoted.{is_escaped, escaped, quoted_text}
use lib.Utf8.{encode}

pub escaped-append : (a b : Text) → escaped (a ++ b) ≡ escaped a ++ escaped b
escaped-append [] b = refl
escaped-append (c ∷ cs) b = by_escape (is_escaped c) (escaped-append cs b)
  where
    by_escape : (e : Bool) → escaped (cs ++ b) ≡ escaped cs ++ escaped b → cond e (92 ∷ c ∷ escaped (cs ++ b)) (c ∷ escaped (cs ++ b)) ≡ cond e (92 ∷ c ∷ escaped cs) (c ∷ escaped cs) ++ escaped b
    by_escape true h = ap (λ (t : Text). 92 ∷ c ∷ t) h
    by_escape false h = ap (λ (t : Text). c ∷ t) h

high : (b : ℕ) → 128 ≤ b → is_escaped b ≡ false
high b h = search rules

kept : (b : ℕ) (bs : Text) → is_escaped b ≡ false → escaped bs ≡ bs → escaped (b ∷ bs) ≡ b ∷ bs
kept b bs e h = rw (e, h) refl

pub escape_none : (c : ℕ) → is_escaped c ≡ false → escaped (encode_utf8 c) ≡ encode_utf8 c
unfolding encode
escape_none c e = by_size (nat_lt c 128) (nat_lt c 2048) (nat_lt c 65536)
  where
    two : (a b : ℕ) → 128 ≤ a → 128 ≤ b → escaped (a ∷ b ∷ []) ≡ a ∷ b ∷ []
    two a b h k = kept a (b ∷ []) (high a h) (kept b [] (high b k) refl)

    three : (a b d : ℕ) → 128 ≤ a → 128 ≤ b → 128 ≤ d → escaped (a ∷ b ∷ d ∷ []) ≡ a ∷ b ∷ d ∷ []
    three a b d h k m = kept a (b ∷ d ∷ []) (high a h) (two b d k m)

    by_size : (p q r : Bool) → escaped (cond p (c ∷ []) (cond q ((192 + c / 64) ∷ (128 + c % 64) ∷ []) (cond r ((224 + c / 4096) ∷ (128 + c / 64 % 64) ∷ (128 + c % 64) ∷ []) ((240 + c / 262144) ∷ (128 + c / 4096 % 64) ∷ (128 + c / 64 % 64) ∷ (128 + c % 64) ∷ []))))
        ≡ cond p (c ∷ []) (cond q ((192 + c / 64) ∷ (128 + c % 64) ∷ []) (cond r ((224 + c / 4096) ∷ (128 + c / 64 % 64) ∷ (128 + c % 64) ∷ []) ((240 + c / 262144) ∷ (128 + c / 4096 % 64) ∷ (128 + c / 64 % 64) ∷ (128 + c % 64) ∷ [])))
    by_size true q r = kept c [] e refl
    by_size false true r = two (192 + c / 64) (128 + c % 64) (omega arith) (omega arith)
    by_size false false true = three (224 + c / 4096) (128 + c / 64 % 64) (128 + c % 64) (omega arith) (omega arith) (omega arith)
    by_size false false false = kept (240 + c / 262144) ((128 + c / 4096 % 64) ∷ (128 + c / 64 % 64) ∷ (128 + c % 64) ∷ []) (high (240 + c / 262144) (omega arith)) (three (128 + c / 4096 % 64) (128 + c / 64 % 64) (128 + c % 64) (omega arith) (omega arith) (omega arith))

small : (c : ℕ) → is_escaped c ≡ true → c < 128
small c e = search rules

one_byte : (c : ℕ) → c < 128 → encode_utf8 c ≡ c ∷ []
unfolding encode
one_byte c h = search rules

pub escape_one : (c : ℕ) → is_escaped c ≡ true → escaped (encode_utf8 c) ≡ 92 ∷ encode_utf8 c
escape_one c e = rw (one_byte c (small c e), e) refl

-- a character is written, and the rest is shorter by it
pub escape_step : (old new one rest left : Text) → new ≡ old ++ escaped one → rest ≡ one ++ left → new ++ escaped left ≡ old ++ escaped rest
escape_step old new one rest left e h =
    ap (λ (t : Text). t ++ escaped left) e ∙ append_assoc old (escaped one) (escaped left) ∙ ap (λ (t : Text). old ++ t) (sym (escaped-append one left) ∙ ap escaped (sym h))

-- the quotes before and after the value
pub quoted_end : (old begun into value rest : Text) → begun ≡ old ++ codes "\"" → into ++ escaped rest ≡ begun ++ escaped value → rest ≡ [] → into ++ codes "\"" ≡ old ++ quoted_text value
unfolding quoted_text
quoted_end old begun into value rest b e n =
    let all : into ≡ begun ++ escaped value = sym (append-nil into) ∙ ap (λ (t : Text). into ++ escaped t) (sym n) ∙ e in
    ap (λ (t : Text). t ++ codes "\"") (all ∙ ap (λ (t : Text). t ++ escaped value) b ∙ append_assoc old (codes "\"") (escaped value)) ∙ append_assoc old (34 ∷ escaped value) (codes "\"")
