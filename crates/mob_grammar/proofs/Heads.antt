-- What an expression begins with, and what ends one.
use Rattle.std.{proofs.Common.{rules, inl, inr, ◌≡◌, ◌==◌, ◌<◌, ℕ, List, [], ◌∷◌, Bool, true, false, cond, refl, sym, ap, ◌∙◌, arith}, proofs.lemmas.Bool.{eqb-true, cases_Bool}}
use Rattle.mob_ast.{specs.Trees.{Tree}, specs.declared.types.TypeWord.{TypeWord}}
use Rattle.mob_grammar.{specs.declared.mark.Mark.{Mark}, specs.declared.mark.Mark.TheVariants.{Not, Tilde, Plus, Minus}, specs.Marks.{is, strength}}
use Rattle.mob_grammar.specs.TokenKinds.{TokenKinds, of_mark, names, only_kind, only_mark, expression_heads, expression_continues}
use Rattle.mob_grammar.specs.Symbols.{Symbol, fixed, name, number, quoted, PlacedSymbol, sign, kind, among, begins, starts, symbol_strength}
use Rattle.mob_grammar.specs.Expressions.{Rank, disjunction, conjunction, negation, nullness, comparison, other, complement, sum, product, signed, cast, primary, prefixes, Phrase, TypeName, plain}
use Rattle.mob_grammar.specs.Expressions.{inner, up, chain, prefixed, is_null, is_not_null, compared, cast_to, a_number, a_string, is_true, is_false, a_null, a_literal, a_call, a_column}
use Rattle.mob_grammar.{specs.Expressions.{a_table_column, in_brackets}, proofs.Steps.{token_is}}

-- a mark outside the set is not the first token, if that is in the set
pub not_this : (m : Mark) (k : TokenKinds) → k (of_mark m) ≡ false → (l : List PlacedSymbol) → begins (among k) l ≡ true → starts m l ≡ false
not_this m k h [] b = refl
not_this m k h (t ∷ l) b = elim (cases_Bool (starts m (t ∷ l))) [
  | inl one ↦ absurd (cc (sym b ∙ ap (among k) (token_is m t one) ∙ h))
  | inr none_there ↦ none_there
]

itself : (m : Mark) (p : ℕ) (u : List PlacedSymbol) → starts m (sign m p ∷ u) ≡ true
itself m p u = search rules

pub begins_mark : (m : Mark) {l u : List PlacedSymbol} {p : ℕ} → l ≡ sign m p ∷ u → begins (among (only_mark m)) l ≡ true
begins_mark m {u = u} {p = p} e = ap (starts m) e ∙ itself m p u

pub type_begins : {l r : List PlacedSymbol} {t : TypeWord} → TypeName l t r → begins (among (only_kind names)) l ≡ true
type_begins plain = refl
type_begins inner = refl

not_begins : (g : Mark) → is g Not ≡ true → expression_heads (of_mark g) ≡ true
not_begins Not h = refl
not_begins _ h = absurd (cc h)

tilde_begins : (g : Mark) → is g Tilde ≡ true → expression_heads (of_mark g) ≡ true
tilde_begins Tilde h = refl
tilde_begins _ h = absurd (cc h)

plus_begins : (g : Mark) → (strength g == 8) ≡ true → expression_heads (of_mark g) ≡ true
plus_begins Plus h = refl
plus_begins Minus h = refl
plus_begins _ h = absurd (cc h)

prefix_begins : (k : Rank) (x : Symbol) (p : ℕ) → prefixes k (record { symbol = x; place = p }) ≡ true → expression_heads (kind x) ≡ true
prefix_begins k (name n) p h = refl
prefix_begins k (number n) p h = refl
prefix_begins k (quoted s) p h = refl
prefix_begins negation (fixed g) p h = not_begins g h
prefix_begins complement (fixed g) p h = tilde_begins g h
prefix_begins signed (fixed g) p h = plus_begins g h
prefix_begins disjunction (fixed g) p h = absurd (cc h)
prefix_begins conjunction (fixed g) p h = absurd (cc h)
prefix_begins nullness (fixed g) p h = absurd (cc h)
prefix_begins comparison (fixed g) p h = absurd (cc h)
prefix_begins other (fixed g) p h = absurd (cc h)
prefix_begins sum (fixed g) p h = absurd (cc h)
prefix_begins product (fixed g) p h = absurd (cc h)
prefix_begins cast (fixed g) p h = absurd (cc h)
prefix_begins primary (fixed g) p h = absurd (cc h)

pub phrase_begins : {k : Rank} {l r : List PlacedSymbol} {e : Tree} → Phrase k l e r → begins (among expression_heads) l ≡ true
phrase_begins (up d) = phrase_begins d
phrase_begins (chain a c b) = phrase_begins a
phrase_begins (prefixed {k = k} {t = t} c a) = prefix_begins k t.symbol t.place c
phrase_begins (is_null a) = phrase_begins a
phrase_begins (is_not_null a) = phrase_begins a
phrase_begins (compared a c b) = phrase_begins a
phrase_begins (cast_to a t) = phrase_begins a
phrase_begins a_number = refl
phrase_begins a_string = refl
phrase_begins is_true = refl
phrase_begins is_false = refl
phrase_begins a_null = refl
phrase_begins (a_literal plain) = refl
phrase_begins (a_literal inner) = refl
phrase_begins (a_call es) = refl
phrase_begins a_column = refl
phrase_begins a_table_column = refl
phrase_begins (in_brackets a) = refl

strong : (n : ℕ) → cond (cond (n == 0) false true) true false ≡ false → n ≡ 0
strong n h = eqb-true n 0 (not (n == 0) h) where
  not : (b : Bool) → cond (cond b false true) true false ≡ false → b ≡ true
  not true h = refl
  not false h = absurd (cc h)

pub loose_symbol : (x : Symbol) → expression_continues (kind x) ≡ false → symbol_strength x < 1
loose_symbol (fixed g) h = omega (arith, strong (strength g) h)
loose_symbol (name n) h = omega arith
loose_symbol (number n) h = omega arith
loose_symbol (quoted s) h = absurd (cc h)
