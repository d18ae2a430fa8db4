-- A word in any letter case, letter by letter.
use Rattle.std.{proofs.Common.{◌≡◌, ℕ, ◌<◌, length, drop, [], ◌∷◌, Option, None, refl, sym, ◌∙◌, arith}, proofs.Math.Seq.{drop-cons}}
use Rattle.mob_language.{specs.Language.{Text}, specs.Readers.{any_case_at}}

-- a word that is longer than the rest of the text
pub word_left : (word : Text) (i : ℕ) (rest bytes : Text) → i < length word → length rest < 1 → any_case_at (drop i word) rest ≡ any_case_at word bytes → ◌≡◌ {A = Option (Unit {0} × Text)} None (any_case_at word bytes)
word_left word i [] bytes h short e = sym (rw (drop-cons word i 0 h) refl) ∙ e
word_left word i (c ∷ cs) bytes h short e = absurd (omega (arith, short))
