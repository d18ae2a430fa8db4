-- Bools and values of a ttext may come before a sign with blanks beside it, such as the @ of a
-- temporal text.
use Rattle.std.{specs.Char.{is_ascii_alphabetic}, proofs.Common.{◌∷◌, ◌++◌, refl, rules, codes}}
use Rattle.mob_language.{specs.Language.{Text, is_blank, spaced}, proofs.Exact.{Stops}, proofs.Heads.{Apart}}
use Rattle.mob_numeral.proofs.BeforeSign.{signed_of, stops_before}
use Rattle.mob_scalar.proofs.QuotedExact.{Behind}

-- bools
pub truth_before_at : (text rest : Text) (u : Unit {0}) → spaced (codes "@") text u → Stops is_ascii_alphabetic (text ++ rest)
truth_before_at = stops_before is_ascii_alphabetic blank_letter 64 refl
  where
    blank_letter : Apart is_blank is_ascii_alphabetic
    blank_letter c e = search rules

-- values of a ttext
pub text_value_before_at : (text rest : Text) (u : Unit {0}) → spaced (codes "@") text u → Behind (text ++ rest)
text_value_before_at text rest u said =
    let s = signed_of 64 text rest u said in
    record { blanks = s.blanks; more = 64 ∷ s.after; is = s.is; each = s.each; stops = refl }
