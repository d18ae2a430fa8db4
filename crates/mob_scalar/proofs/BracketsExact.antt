-- Brackets, braces, commas and lists with commas are read exactly, and may follow a moment.
use Rattle.std.{specs.Prelude.{nat_eq}, proofs.Common.{◌≡◌, ℕ, [], ◌∷◌, ◌++◌, Bool, true, false, None, refl, sym, ap, subst, ◌∙◌, append_assoc, rules, codes}}
use Rattle.mob_language.specs.Language.{Text, Language, ◌▷◌, Word, AreAll, Separated, blanks, is_blank}
use Rattle.mob_language.proofs.Exact.{Exact, Stops, Any, then_exact, means_exact, word_exact, one_exact, many_exact, many_again}
use Rattle.mob_language.proofs.Heads.{NoHead, Apart, HasByte, front_nil, stops_less, byte_stops, byte_head, means_head, one_head, then_byte, means_byte, then_byte_stops, one_byte, word_byte, spaced_exact}
use Rattle.mob_numeral.proofs.WholeTexts.{back_nil}
use Rattle.mob_scalar.{specs.Brackets.{comma, is_close, opening, is_open, closing, comma_at, opening_at, closing_at, open_brace_at, close_brace_at}, proofs.MomentExact.{Closes}}
use Rattle.mob_scalar.proofs.Closing.{Ends, sign_closes}

close_blank : Apart is_close is_blank
close_blank c e = search rules

pub comma_exact : Exact comma comma_at (Stops is_blank)
unfolding comma_at
comma_exact = spaced_exact 44 [] refl

pub opening_exact : Exact opening opening_at (Stops is_blank)
unfolding opening_at
opening_exact = means_exact (λ (v : ℕ × Text). v.0) (then_exact {F = Any} (one_exact is_open) (many_exact is_blank) (λ text rest v said after. tt))

open_blank : Apart is_open is_blank
open_blank c e = search rules

pub opening_blank : NoHead opening is_blank
opening_blank = means_head (byte_head blanks (one_head open_blank) (one_byte is_open))

pub opening_byte : HasByte opening
opening_byte = means_byte (λ (v : ℕ × Text). v.0) (then_byte blanks (one_byte is_open))

pub closing_exact : Exact closing closing_at Any
unfolding closing_at
closing_exact = means_exact (λ (v : Text × ℕ). v.1) (then_byte_stops (many_exact is_blank) (one_exact is_close) (one_head close_blank) (one_byte is_close))

pub comma_byte : HasByte comma
comma_byte = means_byte (λ (v : Text × (Unit {0} × Text)). tt) (λ text v said e.
    then_byte blanks (word_byte 44 []) said.back v.1 said.second (back_nil said.front said.back (sym said.whole ∙ e)))

pub head_less : {A : Type 0} {l : Language A} {test some : ℕ → Bool} → ((c : ℕ) → test c ≡ false → some c ≡ false) → NoHead l test → NoHead l some
head_less {test = test} {some = some} less h text v said = stops_less test some less text (h text v said)

-- a list begins with the first byte of its first entry
pub list_head : {A : Type 0} (l : Language A) (s : Language (Unit {0})) (test : ℕ → Bool) → NoHead l test → HasByte l → NoHead (Separated l s) test
list_head l s test h k text [] said = absurd said
list_head l s test h k text (i ∷ []) said = h text i said
list_head l s test h k text (i ∷ j ∷ is) said = subst (Stops test) (sym said.3) (byte_stops test said.0 (said.1 ++ said.2) (h said.0 i said.4) (k said.0 i said.4))

pub list_byte : {A : Type 0} (l : Language A) (s : Language (Unit {0})) → HasByte l → HasByte (Separated l s)
list_byte l s k text [] said e = absurd said
list_byte l s k text (i ∷ []) said e = k text i said e
list_byte l s k text (i ∷ j ∷ is) said e = k said.0 i said.4 (front_nil said.0 (said.1 ++ said.2) (sym said.3 ∙ e))

-- the bytes that end a list of entries
pub record ListEnds (rest : Text) : Type 0 where
  pub closes : Closes rest
  pub no_comma : comma_at rest ≡ None

-- blanks, a byte, and what follows
signed_is : (text rest bs back mark after : Text) (c : ℕ) → text ≡ bs ++ back → back ≡ mark ++ after → mark ≡ c ∷ [] → text ++ rest ≡ bs ++ (c ∷ (after ++ rest))
signed_is text rest bs back mark after c e f g =
    let k : back ≡ c ∷ after = f ∙ ap (λ (m : Text). m ++ after) g in
    ap (λ (t : Text). t ++ rest) e ∙ append_assoc bs back rest ∙ ap (λ (t : Text). bs ++ (t ++ rest)) k

comma_ends : Ends 44
comma_ends = record { moment = refl; blank = refl; digit = refl; t = refl }

pub comma_closes : (y rest : Text) → comma y tt → Closes (y ++ rest)
comma_closes y rest said =
    let s = said.said in
    subst Closes (sym (signed_is y rest s.front s.back s.second.front s.second.back 44 s.whole s.second.whole s.second.first))
    (sign_closes s.front 44 (s.second.back ++ rest) (subst (AreAll is_blank) (sym s.first.is) s.first.each) comma_ends)

no_comma_at : (bs : Text) (c : ℕ) (cs : Text) → AreAll is_blank bs → is_blank c ≡ false → nat_eq c 44 ≡ false → comma_at (bs ++ (c ∷ cs)) ≡ None
unfolding comma_at
no_comma_at bs c cs each h k = rw (many_again is_blank bs (c ∷ cs) each h, k) refl

-- a sign that ends a list, with blanks before it
pub sign_ends : (bs : Text) (c : ℕ) (cs : Text) → AreAll is_blank bs → Ends c → nat_eq c 44 ≡ false → ListEnds (bs ++ (c ∷ cs))
sign_ends bs c cs each h k = record { closes = sign_closes bs c cs each h; no_comma = no_comma_at bs c cs each h.blank k }

close_ends : (c : ℕ) → is_close c ≡ true → Ends c
close_ends c e = record { moment = search rules; blank = search rules; digit = search rules; t = search rules }

close_no_comma : (c : ℕ) → is_close c ≡ true → nat_eq c 44 ≡ false
close_no_comma c e = search rules

pub closing_ends : (text rest : Text) (c : ℕ) → closing text c → ListEnds (text ++ rest)
closing_ends text rest c said =
    let s = said.said in
    let d = said.meant.1 in
    let is : text ++ rest ≡ s.front ++ (d ∷ rest) = ap (λ (t : Text). t ++ rest) s.whole ∙ append_assoc s.front s.back rest ∙ ap (λ (t : Text). s.front ++ (t ++ rest)) s.second.0 in
    subst ListEnds (sym is) (sign_ends s.front d rest (subst (AreAll is_blank) (sym s.first.is) s.first.each) (close_ends d s.second.1) (close_no_comma d s.second.1))

pub open_brace_exact : Exact (Word (codes "{") ▷ blanks) open_brace_at (Stops is_blank)
unfolding open_brace_at
open_brace_exact = then_exact {F = Any} (word_exact (codes "{")) (many_exact is_blank) (λ text rest v said after. tt)

pub close_brace_exact : Exact (blanks ▷ Word (codes "}")) close_brace_at Any
unfolding close_brace_at
close_brace_exact = then_byte_stops (many_exact is_blank) (word_exact (codes "}")) (word_blank) (word_byte 125 [])
  where
    word_blank : NoHead (Word (codes "}")) is_blank
    word_blank text v said = subst (Stops is_blank) (sym said) refl

brace_ends : Ends 125
brace_ends = record { moment = refl; blank = refl; digit = refl; t = refl }

pub close_brace_ends : (text rest : Text) (v : Text × Unit {0}) → (blanks ▷ Word (codes "}")) text v → ListEnds (text ++ rest)
close_brace_ends text rest v s =
    let is : text ++ rest ≡ s.front ++ (125 ∷ rest) = ap (λ (t : Text). t ++ rest) s.whole ∙ append_assoc s.front s.back rest ∙ ap (λ (t : Text). s.front ++ (t ++ rest)) s.second in
    subst ListEnds (sym is) (sign_ends s.front 125 rest (subst (AreAll is_blank) (sym s.first.is) s.first.each) brace_ends refl)

-- the rest does not begin with a comma
abbrev pub NoComma : Text → Type 0
NoComma rest = comma_at rest ≡ None
