-- A number whose text has a digit other than 0, before any exponent and any slash, is not 0.
use Rattle.std.{specs.Prelude.{◌⊎◌, ◌||◌, not, nat_eq, take_while}, specs.List.{list_any}, specs.Char.{digit_value}, specs.Str.Parse.{digits_value, digits_value_after}}
use Rattle.std.proofs.Common.{◌≡◌, ◌≢◌, ℕ, ◌+◌, ◌*◌, ◌^◌, ◌<◌, ◌≤◌, [], ◌∷◌, ◌++◌, Bool, true, false, cond, Option, Some, None, ℤ, pos, nat_abs, refl, sym, ap, subst, ◌∙◌, mul-pos, arith, rules}
use Rattle.std.{proofs.Common.{codes, inl, inr}, proofs.lemmas.List.Sums.{take_while-cons}, proofs.lemmas.Bool.{or_cases, or_right, both_ways}}
use Rattle.mob_ratio.{specs.Ratio.{Ratio, over}, proofs.Clear.{eq_zero, one_positive}, proofs.IntRing.{linear, products}, proofs.RatioLemmas.{over-self, over-same, den_pos}}
use Rattle.mob_frac.{specs.Signed.{signed}, proofs.Shares.{abs-signed}}
use Rattle.mob_language.{specs.Language.{Text, Maybe, AreAll, behind, is_blank, is_digit, is_exponent_letter, is_number_sign, within_blanks}, specs.NonZero.{is_figure, has_figure}}
use Rattle.mob_numeral.{specs.declared.numeral.Figures.{Figures}, specs.declared.numeral.Exponent.{Exponent}, specs.declared.numeral.Tail.{Tail}}
use Rattle.mob_numeral.{specs.declared.numeral.Tail.TheVariants.{Over, Decimal}, specs.declared.numeral.Numeral.{Numeral}, specs.Figures.{digits, AreFigures}}
use Rattle.mob_numeral.{specs.Number.{count_of, has_digits, number_sign, exponent, tail, number}, specs.NumberValue.{value_in, up_of, down_of, value_of, numeral_value}}
use Rattle.mob_numeral.{proofs.Bounded.{bottom_positive}, proofs.Digits.{digit_is}, proofs.Powers.{ten_pos}}

-- neither a letter of an exponent nor a slash, so that the search for a figure goes on
abbrev pub goes_on : ℕ → Bool
goes_on c = not (is_exponent_letter c || nat_eq c 47)

-- the effect of the first byte
figure_first : (c : ℕ) (cs : Text) → has_figure (c ∷ cs) ≡ cond (goes_on c) (is_figure c || has_figure cs) false
figure_first c cs = ap (list_any is_figure) (take_while-cons goes_on c cs) ∙ picked (goes_on c)
  where
    picked : (b : Bool) → list_any is_figure (cond b (c ∷ take_while goes_on cs) []) ≡ cond b (is_figure c || has_figure cs) false
    picked true = refl
    picked false = refl

figure_on : (c : ℕ) (cs : Text) → goes_on c ≡ true → has_figure (c ∷ cs) ≡ (is_figure c || has_figure cs)
figure_on c cs e = figure_first c cs ∙ ap (λ (b : Bool). cond b (is_figure c || has_figure cs) false) e

figure_stops : (c : ℕ) (cs : Text) → goes_on c ≡ false → has_figure (c ∷ cs) ≡ false
figure_stops c cs e = figure_first c cs ∙ ap (λ (b : Bool). cond b (is_figure c || has_figure cs) false) e

-- bytes that do not end the search: the figure is among them or after them
pub figure_within : (p : ℕ → Bool) → ((c : ℕ) → p c ≡ true → goes_on c ≡ true) → (front rest : Text) → AreAll p front → has_figure (front ++ rest) ≡ true
    → (list_any is_figure front ≡ true) ⊎ (has_figure rest ≡ true)
figure_within p on [] rest each h = inr h
figure_within p on (c ∷ cs) rest each h = elim (or_cases (is_figure c) (has_figure (cs ++ rest)) (sym (figure_on c (cs ++ rest) (on c each.0)) ∙ h)) [
  | inl e ↦ inl (ap (λ (b : Bool). b || list_any is_figure cs) e)
  | inr e ↦ elim (figure_within p on cs rest each.1 e) [
    | inl f ↦ inl (or_right (is_figure c) (list_any is_figure cs) f)
    | inr f ↦ inr f
  ]
]

no_figure_in : (p : ℕ → Bool) → ((c : ℕ) → p c ≡ true → is_figure c ≡ false) → (front : Text) → AreAll p front → list_any is_figure front ≡ false
no_figure_in p less [] each = refl
no_figure_in p less (c ∷ cs) each = ap (λ (b : Bool). b || list_any is_figure cs) (less c each.0) ∙ no_figure_in p less cs each.1

-- bytes that neither end the search nor are figures: the figure is after them
pub figure_behind : (p : ℕ → Bool) → ((c : ℕ) → p c ≡ true → goes_on c ≡ true) → ((c : ℕ) → p c ≡ true → is_figure c ≡ false)
    → (front rest : Text) → AreAll p front → has_figure (front ++ rest) ≡ true → has_figure rest ≡ true
figure_behind p on less front rest each h = elim (figure_within p on front rest each h) [
  | inl e ↦ absurd (both_ways (list_any is_figure front) (no_figure_in p less front each) e)
  | inr e ↦ e
]

-- the rest has no figure: the figure is before it
pub figure_before : (front rest : Text) → has_figure rest ≡ false → has_figure (front ++ rest) ≡ true → has_figure front ≡ true
figure_before [] rest none h = absurd (both_ways (has_figure rest) none h)
figure_before (c ∷ cs) rest none h = kept (goes_on c) (is_figure c) (has_figure cs) (sym (figure_first c (cs ++ rest)) ∙ h) (figure_before cs rest none) (figure_first c cs)
  where
    kept : (on is some : Bool) → cond on (is || has_figure (cs ++ rest)) false ≡ true → (has_figure (cs ++ rest) ≡ true → some ≡ true)
        → has_figure (c ∷ cs) ≡ cond on (is || some) false → has_figure (c ∷ cs) ≡ true
    kept true true some k inner e = e
    kept true false some k inner e = e ∙ inner k
    kept false is some k inner e = absurd (both_ways false refl k)

blank_on : (c : ℕ) → is_blank c ≡ true → goes_on c ≡ true
blank_on c e = search rules

blank_less : (c : ℕ) → is_blank c ≡ true → is_figure c ≡ false
blank_less c e = search rules

sign_on : (c : ℕ) → is_number_sign c ≡ true → goes_on c ≡ true
sign_on c e = search rules

sign_less : (c : ℕ) → is_number_sign c ≡ true → is_figure c ≡ false
sign_less c e = search rules

digit_on : (c : ℕ) → is_digit c ≡ true → goes_on c ≡ true
digit_on c e = search rules

e_stops : (c : ℕ) → is_exponent_letter c ≡ true → goes_on c ≡ false
e_stops c e = search rules

figure_least : (c : ℕ) → is_figure c ≡ true → 49 ≤ c
figure_least c e = search rules

-- blanks have no figure
blanks_less : (text : Text) → AreAll is_blank text → has_figure text ≡ false
blanks_less [] each = refl
blanks_less (c ∷ cs) each = figure_on c cs (blank_on c each.0) ∙ ap (λ (b : Bool). b || has_figure cs) (blank_less c each.0) ∙ blanks_less cs each.1

-- further digits keep a value above 0
value_grows : (n : ℕ) (ds : Text) → 0 < n → 0 < digits_value_after 10 n ds
value_grows n [] h = h
value_grows n (c ∷ cs) h = value_grows (n * 10 + digit_value c) cs (omega (arith, h))

value_after : (n : ℕ) (ds : Text) → AreFigures ds → list_any is_figure ds ≡ true → 0 < digits_value_after 10 n ds
value_after n [] each h = absurd cc
value_after n (c ∷ cs) each h = elim (or_cases (is_figure c) (list_any is_figure cs) h) [
  | inl e ↦ value_grows (n * 10 + digit_value c) cs (let a = figure_least c e in let b = digit_is c each.0 in omega (arith, a, b))
  | inr e ↦ value_after (n * 10 + digit_value c) cs each.1 e
]

-- digits with a figure have a value greater than 0
pub figure_value : (ds : Text) → AreFigures ds → list_any is_figure ds ≡ true → 0 < digits_value 10 ds
figure_value ds each h = value_after 0 ds each h

-- a figure in digits and the text after them: the value of the digits is greater than 0, or the
-- figure is after them
pub digits_figure : (text rest : Text) (f : Figures) → digits text f → has_figure (text ++ rest) ≡ true → (0 < f.value) ⊎ (has_figure rest ≡ true)
digits_figure text rest f d h =
    let ds = d.meant in
    let each = d.said.said.each in
    elim (figure_within is_digit digit_on ds rest each (subst (λ (t : Text). has_figure (t ++ rest) ≡ true) d.said.said.is h)) [
      | inl e ↦ inl (subst (λ (x : Figures). 0 < x.value) (sym d.is) (figure_value ds each e))
      | inr e ↦ inr e
    ]

sign_figure : (text rest : Text) (b : Bool) → number_sign text b → has_figure (text ++ rest) ≡ true → has_figure rest ≡ true
sign_figure text rest b s h = of_sign s.meant s.said
  where
    of_sign : (o : Option ℕ) → Maybe (λ (t : Text) (c : ℕ). (t ≡ c ∷ []) × (is_number_sign c ≡ true)) text o → has_figure rest ≡ true
    of_sign None e = subst (λ (t : Text). has_figure (t ++ rest) ≡ true) e h
    of_sign (Some c) k = figure_behind is_number_sign sign_on sign_less (c ∷ []) rest (k.1, tt) (subst (λ (t : Text). has_figure (t ++ rest) ≡ true) k.0 h)

-- an optional exponent has no figure before its letter
exponent_less : (text : Text) (o : Option Exponent) → Maybe exponent text o → has_figure text ≡ true → ⊥
exponent_less text None e h = both_ways (has_figure text) (ap has_figure e) h
exponent_less text (Some x) k h = both_ways (has_figure text)
    (ap has_figure (k.said.whole ∙ ap (λ (t : Text). t ++ k.said.back) k.said.first.0) ∙ figure_stops k.meant.0 k.said.back (e_stops k.meant.0 k.said.first.1)) h

abbrev HasPart : Tail → Type 0
HasPart (Over denominator) = ⊥
HasPart (Decimal part raised) = 0 < value_in part

part_figure : (front back : Text) (o : Option Figures) (x : Option Exponent) → Maybe (behind (codes ".") digits) front o → Maybe exponent back x
    → has_figure (front ++ back) ≡ true → 0 < value_in o
part_figure front back None x said raised h = absurd (exponent_less back x raised (subst (λ (t : Text). has_figure (t ++ back) ≡ true) said h))
part_figure front back (Some f) x said raised h =
    let e : front ≡ 46 ∷ said.said.back = said.said.whole ∙ ap (λ (t : Text). t ++ said.said.back) said.said.first in
    elim (digits_figure said.said.back back said.meant.1 said.said.second (sym (figure_on 46 (said.said.back ++ back) refl) ∙ subst (λ (t : Text). has_figure (t ++ back) ≡ true) e h)) [
      | inl k ↦ subst (λ (y : Figures). 0 < y.value) (sym said.is) k
      | inr k ↦ absurd (exponent_less back x raised k)
    ]

tail_figure : (text : Text) (t : Tail) → tail text t → has_figure text ≡ true → HasPart t
tail_figure text t said h = elim said [
  | inl o ↦ absurd (both_ways (has_figure text)
      (ap has_figure (o.said.said.whole ∙ ap (λ (x : Text). x ++ o.said.said.back) o.said.said.first) ∙ figure_stops 47 o.said.said.back refl) h)
  | inr d ↦ subst HasPart (sym d.is)
      (part_figure d.said.front d.said.back d.meant.0 d.meant.1 d.said.first d.said.second (subst (λ (x : Text). has_figure x ≡ true) d.said.whole h))
]

-- a quotient is 0 only if the dividend is 0
pub over_nonzero : (z : ℤ) (d : ℕ) → 0 < d → z ≢ pos 0 → (over z d).num ≢ pos 0
over_nonzero z d p ne e =
    let q = over z d in
    let zero_is : over z d ≡ over (pos 0) 1 = sym (over-self q) ∙ ap (λ (n : ℤ). over n q.den) e ∙ over-same (pos 0) (pos 0) q.den 1 (den_pos q) one_positive (simp products (omega (arith, linear))) in
    ne ((eq_zero z d p).0 zero_is)

pub signed_nonzero : (negative : Bool) (n : ℕ) → 0 < n → signed negative n ≢ pos 0
signed_nonzero negative n h e = let z = sym (abs-signed negative n) ∙ ap nat_abs e in omega (arith, h, z)

value_nonzero : (negative : Bool) (whole : Figures) (t : Tail) → has_digits whole t ≡ true → (0 < whole.value) ⊎ HasPart t → (value_of negative whole t).num ≢ pos 0
value_nonzero negative whole (Over denominator) there h = over_nonzero (signed negative whole.value) denominator.value (bottom_positive whole denominator there)
    (signed_nonzero negative whole.value (elim h [ inl a ↦ a | inr b ↦ absurd b ]))
value_nonzero negative whole (Decimal part raised) there h =
    let p = ten_pos (count_of part) in
    let joined : 0 < whole.value * 10 ^ count_of part + value_in part = elim h [
      | inl a ↦ sum_front (whole.value * 10 ^ count_of part) (value_in part) (mul-pos a p)
      | inr b ↦ sum_back (whole.value * 10 ^ count_of part) (value_in part) b
    ] in
    over_nonzero _ _ (ten_pos (count_of part + down_of raised)) (signed_nonzero negative _ (mul-pos joined (ten_pos (up_of raised))))
  where
    sum_front : (x y : ℕ) → 0 < x → 0 < x + y
    sum_front x y k = omega (arith, k)

    sum_back : (x y : ℕ) → 0 < y → 0 < x + y
    sum_back x y k = omega (arith, k)

number_nonzero : (text : Text) (n : Numeral) → number text n → has_figure text ≡ true → (numeral_value n).num ≢ pos 0
unfolding numeral_value
number_nonzero text n k h =
    let s = k.said.said in
    let behind_sign = sign_figure s.front s.back k.said.meant.0 s.first (subst (λ (t : Text). has_figure t ≡ true) s.whole h) in
    let value : (0 < k.said.meant.1.0.value) ⊎ HasPart k.said.meant.1.1 = elim (digits_figure s.second.front s.second.back k.said.meant.1.0 s.second.first
    (subst (λ (t : Text). has_figure t ≡ true) s.second.whole behind_sign)) [
      | inl a ↦ inl a
      | inr b ↦ inr (tail_figure s.second.back k.said.meant.1.1 s.second.second b)
    ] in
    value_nonzero n.negative n.digits n.tail k.holds (subst (λ (x : Numeral). (0 < x.digits.value) ⊎ HasPart x.tail) (sym k.said.is) value)

pub within_nonzero : (text : Text) (n : Numeral) → within_blanks number text n → has_figure text ≡ true → (numeral_value n).num ≢ pos 0
within_nonzero text n w h =
    let s = w.said in
    let front = subst (λ (t : Text). AreAll is_blank t) (sym s.first.is) s.first.each in
    let back = subst (λ (t : Text). AreAll is_blank t) (sym s.second.second.is) s.second.second.each in
    let inner = figure_behind is_blank blank_on blank_less s.front s.back front (subst (λ (t : Text). has_figure t ≡ true) s.whole h) in
    let alone = figure_before s.second.front s.second.back (blanks_less s.second.back back) (subst (λ (t : Text). has_figure t ≡ true) s.second.whole inner) in
    number_nonzero s.second.front n (subst (number s.second.front) (sym w.is) s.second.first) alone

pub figures_nonzero : (text : Text) (n : Numeral) (q : Ratio) → has_figure text ≡ true → within_blanks number text n → q ≡ numeral_value n → q.num ≢ pos 0
figures_nonzero text n q h w is = subst (λ (x : Ratio). x.num ≢ pos 0) (sym is) (within_nonzero text n w h)
