-- Texts of numbers with blanks at both ends are read exactly.
use Rattle.std.{proofs.Common.{◌≡◌, ℕ, [], ◌∷◌, ◌++◌, length, Bool, true, false, Option, Some, None, refl, sym, ap, subst, ◌∙◌, rules, arith, codes, inl, inr}, proofs.lemmas.Bool.Decides.{nat_tests}}
use Rattle.mob_language.{specs.Language.{Text, Language, Maybe, behind, is_blank, within_blanks, is_digit, is_number_sign, is_exponent_letter}, specs.Readers.{within_blanks_at}}
use Rattle.mob_language.proofs.Exact.{Exact, Stops, means_exact}
use Rattle.mob_language.proofs.Heads.{NoHead, Apart, HasByte, front_nil, IsEnd, then_head, means_head, maybe_head, where_head, one_head, many_head, means_byte, within_exact, blanks_stop}
use Rattle.mob_numeral.{specs.declared.numeral.Figures.{Figures}, specs.declared.numeral.Exponent.{Exponent}, specs.declared.numeral.Tail.{Tail}, specs.declared.numeral.Tail.TheVariants.{Decimal}}
use Rattle.mob_numeral.{specs.declared.numeral.Numeral.{Numeral}, specs.Figures.{digits}, specs.Number.{number, tail, has_digits}, specs.NumberReaders.{numeral_at}}
use Rattle.mob_numeral.{specs.Fitting.{fitting_value, number_value, number_value_at}, proofs.NumberExact.{number_exact, continues, tail_head}}

-- the part between the blanks
pub record Inner {A : Type 0} (l : Language A) (v : A) : Type 0 where
  pub text : Text
  pub said : l text v

pub inner_of : {A : Type 0} {l : Language A} (text : Text) (v : A) → within_blanks l text v → Inner l v
inner_of {l = l} text v w = record { text = w.said.second.front; said = subst (l w.said.second.front) (sym w.is) w.said.second.first }

pub blank_stops : Apart is_blank continues
blank_stops c e = search rules

-- a number does not begin with a byte with which none of its parts begins
pub number_head : (test : ℕ → Bool) → Apart is_number_sign test → Apart is_digit test → test 46 ≡ false → test 47 ≡ false → Apart is_exponent_letter test → NoHead number test
number_head test s d p q e = where_head (means_head (then_head (means_head (maybe_head (one_head s)))
    (then_head (means_head (where_head (many_head d))) (tail_head test p q e))))

pub sign_blank : Apart is_number_sign is_blank
sign_blank c e = search rules

digit_blank : Apart is_digit is_blank
digit_blank c e = search rules

e_blank : Apart is_exponent_letter is_blank
e_blank c e = search rules

pub back_nil : (a b : Text) → a ++ b ≡ [] → b ≡ []
back_nil [] b h = h
back_nil (c ∷ cs) b h = absurd cc

pub no_figures : (text : Text) (f : Figures) → digits text f → text ≡ [] → f.count ≡ 0
no_figures text f d e = ap (λ (x : Figures). x.count) d.is ∙ ap length (sym d.said.said.is ∙ e)

not_enough : (w : Figures) (e : Option Exponent) → w.count ≡ 0 → has_digits w (Decimal None e) ≡ true → ⊥
not_enough w e z h = zero_not (w.count) z h
  where
    zero_not : (k : ℕ) → k ≡ 0 → has_digits (record { value = w.value; count = k }) (Decimal None e) ≡ true → ⊥
    zero_not k z h = grind (arith, nat_tests)

begun : (w : ℕ) (a b : Text) → a ≡ w ∷ [] → a ++ b ≡ [] → ⊥
begun w a b e h = cons_nil (ap (λ (t : Text). t ++ b) (sym e) ∙ h)
  where
    cons_nil : (w ∷ []) ++ b ≡ [] → ⊥
    cons_nil k = absurd cc

no_tail : (text : Text) (t : Tail) (w : Figures) → tail text t → text ≡ [] → w.count ≡ 0 → has_digits w t ≡ true → ⊥
no_tail text t w said e z h = elim said [
  | inl o ↦ begun 47 o.said.said.front o.said.said.back o.said.said.first (sym o.said.said.whole ∙ e)
  | inr d ↦ no_part d.said.front d.meant.0 d.meant.1 d.said.first (front_nil d.said.front d.said.back (sym d.said.whole ∙ e)) (subst (λ (x : Tail). has_digits w x ≡ true) d.is h)
]
  where
    no_part : (part : Text) (o : Option Figures) (x : Option Exponent) → Maybe (behind (codes ".") digits) part o → part ≡ [] → has_digits w (Decimal o x) ≡ true → ⊥
    no_part part None x said n k = not_enough w x z k
    no_part part (Some f) x said n k = begun 46 said.said.front said.said.back said.said.first (sym said.said.whole ∙ n)

pub number_byte : HasByte number
number_byte text v said e =
    let m = said.said in
    let s = m.said in
    let b = back_nil s.front s.back (sym s.whole ∙ e) in
    let d = front_nil s.second.front s.second.back (sym s.second.whole ∙ b) in
    let t = back_nil s.second.front s.second.back (sym s.second.whole ∙ b) in
    no_tail s.second.back m.meant.1.1 m.meant.1.0 s.second.second t (no_figures s.second.front m.meant.1.0 s.second.first d)
    (subst (λ (x : Numeral). has_digits x.digits x.tail ≡ true) m.is said.holds)

pub number_blank : NoHead number is_blank
number_blank = number_head is_blank sign_blank digit_blank refl refl e_blank

pub number_value_exact : Exact number_value number_value_at (Stops continues)
unfolding number_value_at
number_value_exact = means_exact fitting_value number_exact

pub number_value_blank : NoHead number_value is_blank
number_value_blank = means_head number_blank

pub number_value_byte : HasByte number_value
number_value_byte = means_byte fitting_value number_byte

pub number_whole : Exact (within_blanks number) (within_blanks_at numeral_at) IsEnd
number_whole = within_exact number_exact number_blank number_byte (blanks_stop continues blank_stops)
