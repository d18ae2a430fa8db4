-- Numbers may come before a sign with blanks beside it, such as the @ of a temporal text.
use Rattle.std.proofs.Common.{◌≡◌, ℕ, [], ◌∷◌, ◌++◌, Bool, false, refl, sym, ap, subst, ◌∙◌, append_assoc, rules, codes}
use Rattle.mob_language.{specs.Language.{Text, AreAll, is_blank, spaced}, proofs.Exact.{Stops}, proofs.Heads.{Apart}}
use Rattle.mob_numeral.proofs.NumberExact.{continues}

-- blanks, the sign, and what follows it
pub record Signed (sign : ℕ) (text rest : Text) : Type 0 where
  pub blanks : Text
  pub after : Text
  pub is : text ++ rest ≡ blanks ++ (sign ∷ after)
  pub each : AreAll is_blank blanks

pub signed_of : (sign : ℕ) (text rest : Text) (u : Unit {0}) → spaced (sign ∷ []) text u → Signed sign text rest
signed_of sign text rest u said =
    let s = said.said in
    let k : s.back ≡ sign ∷ s.second.back = s.second.whole ∙ ap (λ (m : Text). m ++ s.second.back) s.second.first in
    record {
      blanks = s.front;
      after = s.second.back ++ rest;
      is = ap (λ (t : Text). t ++ rest) s.whole ∙ append_assoc s.front s.back rest ∙ ap (λ (t : Text). s.front ++ (t ++ rest)) k;
      each = subst (AreAll is_blank) (sym s.first.is) s.first.each;
    }

blanks_stop_at : (test : ℕ → Bool) → Apart is_blank test → (bs rest : Text) → AreAll is_blank bs → Stops test rest → Stops test (bs ++ rest)
blanks_stop_at test h [] rest each stops = stops
blanks_stop_at test h (b ∷ bs) rest each stops = h b each.0

pub stops_before : (test : ℕ → Bool) → Apart is_blank test → (sign : ℕ) → test sign ≡ false → (text rest : Text) (u : Unit {0}) → spaced (sign ∷ []) text u → Stops test (text ++ rest)
stops_before test h sign e text rest u said =
    let s = signed_of sign text rest u said in
    subst (Stops test) (sym s.is) (blanks_stop_at test h s.blanks (sign ∷ s.after) s.each e)

-- numbers
pub number_before_at : (text rest : Text) (u : Unit {0}) → spaced (codes "@") text u → Stops continues (text ++ rest)
number_before_at = stops_before continues blank_stops 64 refl
  where
    blank_stops : Apart is_blank continues
    blank_stops c e = search rules
