-- Readers never add to the remaining tokens.
use Rattle.std.proofs.Common.{◌≡◌, ◌≤◌, ◌+◌, ◌∙◌, ◌⊎◌, inl, inr, ℕ, List, [], ◌∷◌, length, true, false, Ok, refl, sym, arith}
use Rattle.std.proofs.lemmas.Bool.{cases_Bool}
use Rattle.mob_grammar.{specs.declared.mark.Mark.{Mark}, specs.Symbols.{PlacedSymbol, is_sign}, specs.Expressions.{disjunction, Phrase}, specs.Forms.{Production, Sort, Form, Derives}}
use Rattle.mob_grammar.{specs.Reading.{TokenReader, if_mark, expression_at, read}, proofs.Forms.{fits, form_read}, proofs.Steps.{if_there, if_not}, proofs.Tells.{Lawful}}
use Rattle.mob_grammar.proofs.Same.{shrinks, lawful_expression}

abbrev pub Shrinks : {A : Type 0} → TokenReader A → Type 0
Shrinks {A} s = (l r : List PlacedSymbol) (x : A) → s l ≡ Ok (x, r) → length r ≤ length l

-- a production whose reader is lawful
pub lawful_shrinks : {A : Type 0} (F : Production A) (s : TokenReader A) → ((n : ℕ) → Lawful F n s) → Shrinks s
lawful_shrinks F s law l r x h = shrinks F (length l + 1) s (law (length l + 1)) l (omega arith) x r h

if_by : {A : Type 0} (m : Mark) (s z : TokenReader A) → Shrinks s → Shrinks z → (t : PlacedSymbol) (l r : List PlacedSymbol) (x : A) → (is_sign m t ≡ true) ⊎ (is_sign m t ≡ false) → if_mark m s z (t ∷ l) ≡ Ok (x, r) → length r ≤ length (t ∷ l)
if_by m s z f g t l r x (inl here) h = omega (arith, f l r x (sym (if_there m s z t l here) ∙ h))
if_by m s z f g t l r x (inr none_there) h = g (t ∷ l) r x (sym (if_not m s z (t ∷ l) none_there) ∙ h)

pub if_shrinks : {A : Type 0} (m : Mark) (s z : TokenReader A) → Shrinks s → Shrinks z → Shrinks (if_mark m s z)
if_shrinks m s z f g [] r x h = g [] r x (sym (if_not m s z [] refl) ∙ h)
if_shrinks m s z f g (t ∷ l) r x h = if_by m s z f g t l r x (cases_Bool (is_sign m t)) h

pub expression_shrinks : Shrinks expression_at
expression_shrinks = lawful_shrinks (Phrase disjunction) expression_at lawful_expression

-- a form that fits
pub form_shrinks : {a : Sort} (f : Form a) → fits f ≡ true → Shrinks (read f)
form_shrinks f h = lawful_shrinks (Derives f) (read f) (form_read f h).lawful
