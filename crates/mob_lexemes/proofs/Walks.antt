-- The walk along a script in the two ways to stand: outside the statements with expressions, where
-- nothing is counted, and inside one, at the beginning of an expression.
use Rattle.std.proofs.Common.{◌≡◌, ◌==◌, ◌≤◌, ◌⊎◌, ◌↔◌, inl, inr, ℕ, List, [], ◌∷◌, Bool, true, false, cond, refl, sym, ap, subst, ◌∙◌, arith}
use Rattle.std.proofs.lemmas.Bool.{cases_Bool}
use Rattle.mob_ast.{specs.declared.types.TypeWord.{TypeWord}, specs.Trees.{Tree}}
use Rattle.mob_grammar.{specs.declared.mark.Mark.{Mark}, specs.declared.mark.Mark.TheVariants.{Select, Delete, Dot, Times, Open, Close, Semicolon}, specs.Marks.{is}}
use Rattle.mob_grammar.specs.Symbols.{Symbol, fixed, name, number, quoted, PlacedSymbol, sign, identifier, is_mark, is_sign, is_string_symbol, starts, is_literal}
use Rattle.mob_grammar.{specs.Expressions.{disjunction, Phrase, TypeName, plain, inner}, proofs.Steps.{token_is}}
use Rattle.mob_lexemes.{specs.declared.heavy.TokenStanding.{TokenStanding}, specs.Weights.{outside, is_function, counts, mark_counts}}
use Rattle.mob_lexemes.{specs.Heavy.{begins_expressions, ends, selects_after, no_call_after, standing_after, is_heavy}, specs.Weighed.{phrase_weight}}
use Rattle.mob_lexemes.proofs.Walked.{Light, at, behind, quiet, never, name_quiet, Clear, along, column_is}
use Rattle.mob_grammar.specs.Symbols as grammar

-- ---- outside SELECT and DELETE nothing is counted
idle_counts : (s : TokenStanding) → s.selects ≡ false → (x : Symbol) (l : List PlacedSymbol) → counts s x l ≡ false
idle_counts s h (fixed m) l = ap (λ b. cond b (mark_counts m) false) h
idle_counts s h (name n) l = ap (λ b. cond b (is_function s.no_call l) false) h
idle_counts s h (number n) l = refl
idle_counts s h (quoted c) l = refl

idle_heavy : (s : TokenStanding) → s.selects ≡ false → (x : Symbol) (l : List PlacedSymbol) → is_heavy s x l ≡ false
idle_heavy s h x l = ap (λ b. cond (s.weight == 256) b false) (idle_counts s h x l) ∙ never (s.weight == 256)

-- a word that begins a statement with expressions
abbrev pub starts_counting : Symbol → Bool
starts_counting (fixed m) = begins_expressions m
starts_counting (name n) = false
starts_counting (number n) = false
starts_counting (quoted c) = false

abbrev pub is_start : PlacedSymbol → Bool
is_start t = starts_counting t.symbol

start_symbol : (x : Symbol) → starts_counting x ≡ true → is_mark Select x ≡ false → is_mark Delete x ≡ true
start_symbol (fixed m) h a = sym (ap (λ b. cond b true (is m Delete)) a) ∙ h
start_symbol (name n) h a = absurd (cc h)
start_symbol (number n) h a = absurd (cc h)
start_symbol (quoted c) h a = absurd (cc h)

pub start_is : (t : PlacedSymbol) → is_start t ≡ true → (t ≡ sign Select t.place) ⊎ (t ≡ sign Delete t.place)
start_is t h = elim (cases_Bool (is_sign Select t)) [ inl a ↦ inl (token_is Select t a) | inr a ↦ inr (token_is Delete t (start_symbol t.symbol h a)) ]

idle_after : (x : Symbol) → starts_counting x ≡ false → selects_after false x ≡ false
idle_after (fixed m) h = ap (λ b. cond b true (cond (is m Semicolon) false false)) h ∙ never (is m Semicolon)
idle_after (name n) h = refl
idle_after (number n) h = refl
idle_after (quoted c) h = refl

-- there the position does not matter
idle_same : (s z : TokenStanding) (l : List PlacedSymbol) → s.selects ≡ false → z.selects ≡ false → Light s l → Light z l
idle_same s z [] hs hz k = tt
idle_same s z (t ∷ l) hs hz k =
    (idle_heavy z hz t.symbol l, by (cases_Bool (is_start t)) (λ h. idle_same (standing_after s t.symbol l) (standing_after z t.symbol l) l (ap (λ b. selects_after b t.symbol) hs ∙ idle_after t.symbol h) (ap (λ b. selects_after b t.symbol) hz ∙ idle_after t.symbol h) k.1))
  where
    selects : {q : PlacedSymbol} → q ≡ sign Select q.place → standing_after s q.symbol l ≡ standing_after z q.symbol l
    selects e = ap (λ q. standing_after s q.symbol l) e ∙ sym (ap (λ q. standing_after z q.symbol l) e)

    deletes : {q : PlacedSymbol} → q ≡ sign Delete q.place → standing_after s q.symbol l ≡ standing_after z q.symbol l
    deletes e = ap (λ q. standing_after s q.symbol l) e ∙ sym (ap (λ q. standing_after z q.symbol l) e)

    by : (is_start t ≡ true) ⊎ (is_start t ≡ false) → (is_start t ≡ false → Light (standing_after z t.symbol l) l) → Light (standing_after z t.symbol l) l
    by (inl h) f = elim (start_is t h) [ inl e ↦ subst (λ y. Light y l) (selects e) k.1 | inr e ↦ subst (λ y. Light y l) (deletes e) k.1 ]
    by (inr h) f = f h

-- nothing is counted between two places
pub record Same (s : TokenStanding) (l r : List PlacedSymbol) : Type 0 where
  pub there : Light s l → Light s r
  pub back : Light s r → Light s l

pub follow : {s : TokenStanding} {l m r : List PlacedSymbol} → Same s l m → Same s m r → Same s l r
follow a b = record { there = λ k. b.there (a.there k); back = λ k. a.back (b.back k) }

pub same_tokens : {s : TokenStanding} {l r : List PlacedSymbol} → l ≡ r → Same s l r
same_tokens {s = s} {l = l} e = subst (λ k. Same s l k) e record { there = λ k. k; back = λ k. k }

pub skip : (t : PlacedSymbol) (l : List PlacedSymbol) → is_start t ≡ false → Same outside (t ∷ l) l
skip t l h = record {
  there = λ k. idle_same (standing_after outside t.symbol l) outside l (idle_after t.symbol h) refl k.1;
  back = λ k. (refl, idle_same outside (standing_after outside t.symbol l) l refl (idle_after t.symbol h) k);
}

-- the first token of l begins no expressions, and m follows it
pub skip_at : {t : PlacedSymbol} {l m : List PlacedSymbol} → l ≡ t ∷ m → is_start t ≡ false → Same outside l m
skip_at {t = t} {m = m} e h = follow (same_tokens e) (skip t m h)

pub type_skips : (l : List PlacedSymbol) (t : TypeWord) (r : List PlacedSymbol) → TypeName l t r → Same outside l r
type_skips _ _ r (plain {n = n} {p = p}) = skip (identifier n p) r refl
type_skips _ _ r (inner {n = n} {v = v} {p = p} {q = q} {o = o} {s = s}) =
    follow (skip (identifier n p) (sign Open q ∷ identifier v o ∷ sign Close s ∷ r) refl) (follow (skip (sign Open q) (identifier v o ∷ sign Close s ∷ r) refl) (follow (skip (identifier v o) (sign Close s ∷ r) refl) (skip (sign Close s) r refl)))

-- ---- after an expression of a SELECT: a word that no expression has, a comma, a `;` or nothing
pub record IsStop (x : Symbol) : Type 0 where
  mark : Mark
  is_mark : x ≡ fixed mark
  quiet_mark : mark_counts mark ≡ false
  ends_all : (v : ℕ) → ends (at 0 v) (fixed mark) ≡ true
  no_bracket : is mark Open ≡ false

unfoldable pub Stops : List PlacedSymbol → Type 0
Stops [] = Unit {0}
Stops (t ∷ l) = IsStop t.symbol

clear : (l : List PlacedSymbol) → Stops l → Clear l
unfolding Stops
clear [] h = record { no_bracket = refl; no_string = refl }
clear (t ∷ l) h = record { no_bracket = ap (grammar.is_mark Open) h.is_mark ∙ h.no_bracket; no_string = ap is_string_symbol h.is_mark }

-- there the count so far does not matter
pub reset : (v : ℕ) (l : List PlacedSymbol) → Stops l → Light (at 0 v) l ↔ Light (at 0 0) l
unfolding Stops
reset v [] h = ((λ k. tt), (λ k. tt))
reset v (t ∷ l) h = let f = to_stand v in let g = to_stand 0 in ((λ k. g.1 (f.0 k)), (λ k. f.1 (g.0 k)))
  where
    stands : TokenStanding
    stands = record { selects = selects_after true (fixed h.mark); depth = 0; weight = 0; no_call = no_call_after (fixed h.mark) }

    heavy : (w : ℕ) → is_heavy (at 0 w) t.symbol l ≡ false
    heavy w = ap (λ x. is_heavy (at 0 w) x l) h.is_mark ∙ ap (λ b. cond (w == 256) b false) h.quiet_mark ∙ never (w == 256)

    next : (w : ℕ) → standing_after (at 0 w) t.symbol l ≡ stands
    next w = ap (λ x. standing_after (at 0 w) x l) h.is_mark ∙ rw (h.ends_all w) refl

    to_stand : (w : ℕ) → Light (at 0 w) (t ∷ l) ↔ Light stands l
    to_stand w = quiet (at 0 w) stands t l (heavy w) (next w)

pub stop : (m : Mark) → mark_counts m ≡ false → ((v : ℕ) → ends (at 0 v) (fixed m) ≡ true) → is m Open ≡ false → IsStop (fixed m)
stop m a b c = record { mark = m; is_mark = refl; quiet_mark = a; ends_all = b; no_bracket = c }

-- ---- the parts of a SELECT in which nothing is counted
pub pass : {t : PlacedSymbol} {l r : List PlacedSymbol} → l ≡ t ∷ r → is_heavy (at 0 0) t.symbol r ≡ false → standing_after (at 0 0) t.symbol r ≡ at 0 0 → Same (at 0 0) l r
pass {t = t} {r = r} e h k = let q = quiet (at 0 0) (at 0 0) t r h k in follow (same_tokens e) record { there = q.0; back = q.1 }

pub pass_name : {n : List ℕ} {p : ℕ} {l r : List PlacedSymbol} → l ≡ identifier n p ∷ r → starts Open r ≡ false → Same (at 0 0) l r
pass_name {n = n} {p = p} {r = r} e h = let q = name_quiet false 0 0 n p r (column_is r h) in follow (same_tokens e) record { there = q.0; back = q.1 }

-- a column of GROUP BY
pub dot_calm : {p o : ℕ} {n : List ℕ} {l k u : List PlacedSymbol} → l ≡ sign Dot p ∷ k → k ≡ identifier n o ∷ u → Same (at 0 0) l u
dot_calm {p = p} {o = o} {n = n} {u = u} e f =
    let a = quiet (at 0 0) (behind true 0 0) (sign Dot p) (identifier n o ∷ u) refl refl in
    let b = name_quiet true 0 0 n o u refl in
    follow (same_tokens (e ∙ ap (λ v. sign Dot p ∷ v) f)) record { there = λ k. b.0 (a.0 k); back = λ k. a.1 (b.1 k) }

star_no_literal : (o s : ℕ) (u : List PlacedSymbol) → is_literal (sign Times o ∷ (sign Close s ∷ u)) ≡ false
star_no_literal o s [] = refl
star_no_literal o s (t ∷ u) = refl

pub count_calm : (p q o s : ℕ) (n : List ℕ) (u : List PlacedSymbol) → Stops u → Same (at 0 0) (identifier n p ∷ (sign Open q ∷ (sign Times o ∷ (sign Close s ∷ u)))) u
count_calm p q o s n u h =
    let a = quiet (at 0 0) (at 0 1) (identifier n p) (sign Open q ∷ (sign Times o ∷ (sign Close s ∷ u))) refl (ap (λ b. record { selects = true; depth = 0; weight = cond (cond b false true) 1 0; no_call = false }) (star_no_literal o s u)) in
    let b = quiet (at 0 1) (at 1 2) (sign Open q) (sign Times o ∷ (sign Close s ∷ u)) refl refl in
    let c = quiet (at 1 2) (at 1 3) (sign Times o) (sign Close s ∷ u) refl refl in
    let d = quiet (at 1 3) (at 0 3) (sign Close s) u refl refl in
    let g = reset 3 u h in
    record { there = λ k. g.0 (d.0 (c.0 (b.0 (a.0 k)))); back = λ k. a.1 (b.1 (c.1 (d.1 (g.1 k)))) }

-- ---- the parts with expressions: they are light, and what follows them
pub record Walks (A : Type 0) (s : TokenStanding) (l r : List PlacedSymbol) : Type 0 where
  pub there : Light s l → A × Light s r
  pub back : A → Light s r → Light s l

pub walks_then : {A : Type 0} {s : TokenStanding} {l m r : List PlacedSymbol} → Walks A s l m → Same s m r → Walks A s l r
walks_then a b = record { there = λ k. let h = a.there k in (h.0, b.there h.1); back = λ h k. a.back h (b.back k) }

pub then_walks : {A : Type 0} {s : TokenStanding} {l m r : List PlacedSymbol} → Same s l m → Walks A s m r → Walks A s l r
then_walks a b = record { there = λ k. b.there (a.there k); back = λ h k. a.back (b.back h k) }

pub none_walks : {s : TokenStanding} {l r : List PlacedSymbol} → Same s l r → Walks (Unit {0}) s l r
none_walks a = record { there = λ k. (tt, a.there k); back = λ h k. a.back k }

pub both_walk : {A B : Type 0} {s : TokenStanding} {l m r : List PlacedSymbol} → Walks A s l m → Walks B s m r → Walks (A × B) s l r
both_walk a b = record { there = λ k. let h = a.there k in let i = b.there h.1 in ((h.0, i.0), i.1); back = λ h k. a.back h.0 (b.back h.1 k) }

pub expression_walks : {l m : List PlacedSymbol} {t : Tree} (d : Phrase disjunction l t m) → Stops m → Walks (phrase_weight d ≤ 256) (at 0 0) l m
expression_walks {m = m} d s =
    let f = along d 0 0 (phrase_weight d) (omega arith) (omega arith) (clear m s) in
    let g = reset (phrase_weight d) m s in
    record { there = λ k. let h = f.0 k in (h.0, g.0 h.1); back = λ h k. f.1 (h, g.1 k) }
