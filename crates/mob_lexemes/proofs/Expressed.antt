-- Each run of tokens that is counted as one expression is an expression of the grammar: one proof
-- for all forms.
use Rattle.std.{specs.Prelude.{codes}, proofs.Common.{◌≡◌, ◌==◌, ◌⊎◌, ◌↔◌, inl, inr, ℕ, List, [], ◌∷◌, Bool, true, false, cond, refl, sym, ap, subst, ◌∙◌}, proofs.lemmas.Bool.{eqb-true}}
use Rattle.mob_ast.specs.Trees.{StatementParts}
use Rattle.mob_grammar.{specs.declared.mark.Mark.{Mark}, specs.declared.mark.Mark.TheVariants.{Select, Delete, Dot, Times, Open, Semicolon}, specs.Marks.{is}}
use Rattle.mob_grammar.specs.TokenKinds.{TokenKinds, of_mark, names, numbers, strings, only_mark, ◌∪◌, where_so, kinds_in}
use Rattle.mob_grammar.specs.Symbols.{Symbol, fixed, name, number, quoted, PlacedSymbol, sign, identifier, kind, among, begins, starts}
use Rattle.mob_grammar.specs.Forms.{Listed, single, several, Sort, Meaning, Form, built, mark, a_name, a_number, a_string, a_type, an_expression, a_count_or_expression, made, both, behind, ended}
use Rattle.mob_grammar.{specs.Forms.{choice, either, separated, Derives}, specs.Reading.{nullable, heads}}
use Rattle.mob_grammar.specs.Scripts.{string_form, signed_form, number_form, typed_form, const_form, row_form, column_type_form, create_table_form, indexed_form, create_index_form, create_form, insert_form}
use Rattle.mob_grammar.specs.Scripts.{header_form, format_form, delimiter_form, options_form, copy_form, some_name_form, second_name_form, entry_form, joined_form, joins_form, source_form}
use Rattle.mob_grammar.specs.Scripts.{sources_form, from_form, alias_form, item_form, direction_form, key_form, distinct_form, where_form, group_column_form, by_form, group_form, order_form}
use Rattle.mob_grammar.{specs.Scripts.{limit_form, ordering_form, select_form, delete_form, explain_form, statement_form, Statement}, proofs.Forms.{begun}, proofs.Heads.{begins_mark, not_this}}
use Rattle.mob_grammar.{proofs.Marks.{same_mark}, proofs.Sets.{both_true, second_alone, not_true, begins_left, begins_right, begins_where, lies_at}}
use Rattle.mob_lexemes.{specs.declared.heavy.TokenStanding.{TokenStanding}, specs.Weights.{outside, mark_counts}, specs.Heavy.{begins_expressions, ends, standing_after}}
use Rattle.mob_lexemes.{specs.Weighed.{AllLight, HasLightExpressions, ExpressionsAreTheGrammars}, proofs.Walked.{Light, at, quiet, none_light}}
use Rattle.mob_lexemes.proofs.Walks.{start_is, Same, follow, same_tokens, skip, skip_at, type_skips, IsStop, Stops, reset, stop, pass, pass_name, dot_calm, count_calm, Walks, walks_then, then_walks}
use Rattle.mob_lexemes.proofs.Walks.{none_walks, both_walk, expression_walks}

-- at the beginning of an expression, after so many counted tokens
abbrev is_at : ℕ → TokenStanding → Bool
is_at w s = cond s.selects (cond (s.depth == 0) (cond (s.weight == w) (cond s.no_call false true) false) false) false

-- a mark of a SELECT that is not counted, and one that is
abbrev is_quiet : Mark → Bool
is_quiet m = is_at 0 (standing_after (at 0 0) (fixed m) [])

abbrev is_counted : Mark → Bool
is_counted m = is_at 1 (standing_after (at 0 0) (fixed m) [])

-- what ends an expression
abbrev stop_kinds : TokenKinds
stop_kinds (of_mark m) = cond (mark_counts m) false (cond (is m Open) false (ends (at 0 0) (fixed m)))
stop_kinds names = false
stop_kinds numbers = false
stop_kinds strings = false

-- a name, as after a point
abbrev is_dotted : {a : Sort} → Form a → Bool
is_dotted a_name = true
is_dotted (made h f) = is_dotted f
is_dotted _ = false

-- In a SELECT nothing is counted outside the expressions of the form, if one of the kinds k follows
-- it.
abbrev is_calm : {a : Sort} → Form a → TokenKinds → Bool
is_calm (built a v) k = true
is_calm (mark m) k = cond (is_quiet m) true (cond (is_counted m) (kinds_in k stop_kinds) false)
is_calm a_name k = cond (k (of_mark Open)) false true
is_calm a_number k = true
is_calm a_string k = true
is_calm a_type k = false
is_calm an_expression k = kinds_in k stop_kinds
is_calm a_count_or_expression k = kinds_in k stop_kinds
is_calm (made h f) k = is_calm f k
is_calm (both f g) k = cond (is_calm f (heads g ∪ where_so (nullable g) k)) (is_calm g k) false
is_calm (behind m f) k = cond (is_quiet m) (is_calm f k) false
is_calm (ended f m) k = cond (is_quiet m) (is_calm f (only_mark m)) false
is_calm (choice m f g) k = cond (cond (is m Dot) (is_dotted f) (cond (is_quiet m) (is_calm f k) false)) (is_calm g k) false
is_calm (either f g) k = cond (is_calm f k) (is_calm g k) false
is_calm (separated m f) k = cond (is_quiet m) (is_calm f (only_mark m ∪ k)) false

-- what ends a statement
abbrev end_kinds : TokenKinds
end_kinds = only_mark Semicolon

-- Outside SELECT and DELETE the form has no expression. If it is the last of a statement, one of
-- them may begin in it.
abbrev is_skipped : Bool → {a : Sort} → Form a → Bool
is_skipped last (built a v) = true
is_skipped last (mark m) = cond (begins_expressions m) false true
is_skipped last a_name = true
is_skipped last a_number = true
is_skipped last a_string = true
is_skipped last a_type = true
is_skipped last an_expression = false
is_skipped last a_count_or_expression = false
is_skipped last (made h f) = is_skipped last f
is_skipped last (both f g) = cond (is_skipped false f) (is_skipped last g) false
is_skipped last (behind m f) = cond (begins_expressions m) (cond last (is_calm f end_kinds) false) (is_skipped last f)
is_skipped last (ended f m) = cond (begins_expressions m) false (is_skipped false f)
is_skipped last (choice m f g) = cond (cond (begins_expressions m) (cond last (is_calm f end_kinds) false) (is_skipped last f)) (is_skipped last g) false
is_skipped last (either f g) = cond (is_skipped last f) (is_skipped last g) false
is_skipped last (separated m f) = cond (begins_expressions m) false (is_skipped false f)

-- ---- in a SELECT
-- one of the kinds follows, or nothing
abbrev Behind : TokenKinds → List PlacedSymbol → Type 0
Behind k r = (r ≡ []) ⊎ (begins (among k) r ≡ true)

at_is : (w : ℕ) (s : TokenStanding) → is_at w s ≡ true → s ≡ at 0 w
at_is w s h =
    let a = both_true s.selects _ h in
    let b = both_true (s.depth == 0) _ a.1 in
    let c = both_true (s.weight == w) _ b.1 in
    all_four s.selects s.depth s.weight s.no_call a.0 (eqb-true s.depth 0 b.0) (eqb-true s.weight w c.0) (not_true s.no_call c.1)
  where
    all_four : (a : Bool) (b c : ℕ) (d : Bool) → a ≡ true → b ≡ 0 → c ≡ w → d ≡ false → ◌≡◌ {A = TokenStanding} (record { selects = a; depth = b; weight = c; no_call = d }) (at 0 w)
    all_four a b c d e f g i = rw (e, f, g, i) refl

quiet_pass : (m : Mark) → is_quiet m ≡ true → {p : ℕ} {l r : List PlacedSymbol} → l ≡ sign m p ∷ r → Same (at 0 0) l r
quiet_pass m h e = pass e refl (at_is 0 (standing_after (at 0 0) (fixed m) []) h)

counted_pass : (m : Mark) → is_counted m ≡ true → {p : ℕ} {l r : List PlacedSymbol} → l ≡ sign m p ∷ r → Stops r → Same (at 0 0) l r
counted_pass m h {p = p} {r = r} e s =
    let f = quiet (at 0 0) (at 0 1) (sign m p) r refl (at_is 1 (standing_after (at 0 0) (fixed m) []) h) in
    let g = reset 1 r s in
    follow (same_tokens e) record { there = λ k. g.0 (f.0 k); back = λ k. f.1 (g.1 k) }

stop_mark : (m : Mark) → stop_kinds (of_mark m) ≡ true → IsStop (fixed m)
stop_mark m h = by (mark_counts m) refl h where
  by : (b : Bool) → mark_counts m ≡ b → cond b false (cond (is m Open) false (ends (at 0 0) (fixed m))) ≡ true → IsStop (fixed m)
  by true e k = absurd (cc k)
  by false e k = let n = second_alone (is m Open) _ k in stop m e (λ v. n.1) n.0

stop_symbol : (x : Symbol) → stop_kinds (kind x) ≡ true → IsStop x
stop_symbol (fixed m) h = stop_mark m h
stop_symbol (name n) h = absurd (cc h)
stop_symbol (number n) h = absurd (cc h)
stop_symbol (quoted s) h = absurd (cc h)

stops_behind : (k : TokenKinds) → kinds_in k stop_kinds ≡ true → (r : List PlacedSymbol) → Behind k r → Stops r
unfolding Stops
stops_behind k h [] b = tt
stops_behind k h (t ∷ r) (inl e) = absurd (cc e)
stops_behind k h (t ∷ r) (inr b) = stop_symbol t.symbol (lies_at k stop_kinds h (kind t.symbol) b)

no_bracket : (k : TokenKinds) → k (of_mark Open) ≡ false → (r : List PlacedSymbol) → Behind k r → starts Open r ≡ false
no_bracket k h r (inl e) = ap (starts Open) e
no_bracket k h r (inr b) = not_this Open k h r b

-- what follows the first of two forms
between : {a : Sort} (g : Form a) (k : TokenKinds) (l : List PlacedSymbol) (y : Meaning a) (m r : List PlacedSymbol) → Derives g l y m → m ≡ r → Behind k r → Behind (heads g ∪ where_so (nullable g) k) l
between g k l y m r d e b = elim (begun g l y m d) [
  | inl h ↦ inr (begins_left (heads g) (where_so (nullable g) k) l h)
  | inr h ↦ elim b [
    | inl z ↦ inl (h.1 ∙ e ∙ z)
    | inr z ↦ inr (begins_right (heads g) (where_so (nullable g) k) l (begins_where (nullable g) k l h.0 (ap (begins (among k)) (h.1 ∙ e) ∙ z)))
  ]
]

more : (j k : TokenKinds) (r : List PlacedSymbol) → Behind k r → Behind (j ∪ k) r
more j k r (inl e) = inl e
more j k r (inr b) = inr (begins_right j k r b)

mark_passes : (m : Mark) (k : TokenKinds) → is_calm (mark m) k ≡ true → {p : ℕ} {l r : List PlacedSymbol} → l ≡ sign m p ∷ r → Behind k r → Same (at 0 0) l r
mark_passes m k h {p = p} {l = l} {r = r} e b = by (is_quiet m) refl h where
  by : (q : Bool) → is_quiet m ≡ q → cond q true (cond (is_counted m) (kinds_in k stop_kinds) false) ≡ true → Same (at 0 0) l r
  by true i j = quiet_pass m i e
  by false i j = let t = both_true (is_counted m) _ j in counted_pass m t.0 e (stops_behind k t.1 r b)

dotted_walks : {a : Sort} (f : Form a) → is_dotted f ≡ true → {p : ℕ} {l u : List PlacedSymbol} → l ≡ sign Dot p ∷ u → (x : Meaning a) (r : List PlacedSymbol) (d : Derives f u x r) → Walks (HasLightExpressions f u x r d) (at 0 0) l r
dotted_walks a_name h e x r d = none_walks (dot_calm e d)
dotted_walks (made g f) h e y r (x, m, d, (v, w)) = walks_then (dotted_walks f h e x m d) (same_tokens w)
dotted_walks _ h e x r d = absurd (cc h)

-- after the mark of a choice
chosen_walks : {a : Sort} (m : Mark) (f : Form a) (k : TokenKinds) → cond (is m Dot) (is_dotted f) (cond (is_quiet m) (is_calm f k) false) ≡ true → {p : ℕ} {l u : List PlacedSymbol} → l ≡ sign m p ∷ u → (x : Meaning a) (r : List PlacedSymbol) (d : Derives f u x r)
    → (is_calm f k ≡ true → Walks (HasLightExpressions f u x r d) (at 0 0) u r) → Walks (HasLightExpressions f u x r d) (at 0 0) l r
chosen_walks m f k h {p = p} {l = l} {u = u} e x r d other = by (is m Dot) refl h where
  by : (b : Bool) → is m Dot ≡ b → cond b (is_dotted f) (cond (is_quiet m) (is_calm f k) false) ≡ true → Walks (HasLightExpressions f u x r d) (at 0 0) l r
  by true i j = dotted_walks f j (e ∙ ap (λ g. sign g p ∷ u) (same_mark m Dot i)) x r d
  by false i j = let t = both_true (is_quiet m) _ j in then_walks (quiet_pass m t.0 e) (other t.1)

list_walks : {a : Sort} (m : Mark) (f : Form a) (k : TokenKinds) → is_quiet m ≡ true → ((l : List PlacedSymbol) (x : Meaning a) (r : List PlacedSymbol) (d : Derives f l x r) → Behind (only_mark m ∪ k) r → Walks (HasLightExpressions f l x r d) (at 0 0) l r)
    → (l : List PlacedSymbol) (xs : List (Meaning a)) (r : List PlacedSymbol) (d : Derives (separated m f) l xs r) → Behind k r → Walks (AllLight m (Derives f) (HasLightExpressions f) l xs r d) (at 0 0) l r
list_walks m f k q each l _ r (single {x = x} d) b = each l x r d (more (only_mark m) k r b)
list_walks m f k q each l _ r (several {u = u} {x = x} {xs = xs} {p = p} d ds) b =
    both_walk (each l x (sign m p ∷ u) d (inr (begins_left (only_mark m) k (sign m p ∷ u) (begins_mark m {u = u} {p = p} refl)))) (then_walks (quiet_pass m q refl) (list_walks m f k q each u xs r ds b))

-- a calm form is walked: its expressions are light, and what follows it
form_walks : {a : Sort} (f : Form a) (k : TokenKinds) → is_calm f k ≡ true → (l : List PlacedSymbol) (x : Meaning a) (r : List PlacedSymbol) (d : Derives f l x r) → Behind k r → Walks (HasLightExpressions f l x r d) (at 0 0) l r
form_walks (built a v) k h l x r d b = none_walks (same_tokens d.1)
form_walks (mark m) k h l x r d b = none_walks (mark_passes m k h d b)
form_walks a_name k h l x r d b = none_walks (pass_name d (no_bracket k (not_true _ h) r b))
form_walks a_number k h l x r d b = none_walks (pass d refl refl)
form_walks a_string k h l x r d b = none_walks (pass d refl refl)
form_walks a_type k h l x r d b = absurd (cc h)
form_walks an_expression k h l x r d b = expression_walks d (stops_behind k h r b)
form_walks a_count_or_expression k h l x r (inl (p, m, e, (q, n, f, (o, i, g, (c, v, j, (y, z)))))) b =
    none_walks (follow (same_tokens (e ∙ ap (λ w. identifier (codes "count") p ∷ w) (f ∙ ap (λ w. sign Open q ∷ w) (g ∙ ap (λ w. sign Times o ∷ w) j)))) (follow (count_calm p q o c (codes "count") v (stops_behind k h v (subst (Behind k) (sym z) b))) (same_tokens z)))
form_walks a_count_or_expression k h l x r (inr (e, m, d, (y, z))) b = walks_then (expression_walks d (stops_behind k h m (subst (Behind k) (sym z) b))) (same_tokens z)
form_walks (made g f) k h l y r (x, m, d, (e, w)) b = walks_then (form_walks f k h l x m d (subst (Behind k) (sym w) b)) (same_tokens w)
form_walks (both f g) k h l z r (x, m, d, (y, n, e, (v, w))) b =
    let t = both_true (is_calm f (heads g ∪ where_so (nullable g) k)) (is_calm g k) h in
    walks_then (both_walk (form_walks f (heads g ∪ where_so (nullable g) k) t.0 l x m d (between g k m y n r e w b)) (form_walks g k t.1 m y n e (subst (Behind k) (sym w) b))) (same_tokens w)
form_walks (behind m f) k h l x r (p, u, e, d) b = let t = both_true (is_quiet m) _ h in then_walks (quiet_pass m t.0 e) (form_walks f k t.1 u x r d b)
form_walks (ended f m) k h l x r (y, u, d, (p, v, e, (w, z))) b =
    let t = both_true (is_quiet m) _ h in walks_then (form_walks f (only_mark m) t.1 l y u d (inr (begins_mark m e))) (follow (quiet_pass m t.0 e) (same_tokens z))
form_walks (choice m f g) k h l x r (inl (p, u, e, d)) b = chosen_walks m f k (both_true _ (is_calm g k) h).0 e x r d (λ c. form_walks f k c u x r d b)
form_walks (choice m f g) k h l x r (inr d) b = form_walks g k (both_true _ (is_calm g k) h).1 l x r d b
form_walks (either f g) k h l x r (inl d) b = form_walks f k (both_true (is_calm f k) (is_calm g k) h).0 l x r d b
form_walks (either f g) k h l x r (inr d) b = form_walks g k (both_true (is_calm f k) (is_calm g k) h).1 l x r d b
form_walks (separated m f) k h l xs r d b = let t = both_true (is_quiet m) _ h in list_walks m f k t.0 (form_walks f (only_mark m ∪ k) t.1) l xs r d b

-- ---- statements
-- the end of a statement, at which it does not matter whether it was a SELECT
record IsEnd (r : List PlacedSymbol) : Type 0 where
  follows : Behind end_kinds r
  inward : Light outside r → Light (at 0 0) r
  outward : Light (at 0 0) r → Light outside r

at_end : IsEnd []
at_end = record { follows = inl refl; inward = λ k. tt; outward = λ k. tt }

before_end : (p : ℕ) (u : List PlacedSymbol) → IsEnd (sign Semicolon p ∷ u)
before_end p u =
    let f = quiet outside outside (sign Semicolon p) u refl refl in
    let g = quiet (at 0 0) outside (sign Semicolon p) u refl refl in
    record { follows = inr refl; inward = λ k. g.1 (f.0 k); outward = λ k. f.1 (g.0 k) }

-- SELECT or DELETE, and then the rest of the statement
opened : (m : Mark) → begins_expressions m ≡ true → (p : ℕ) (u : List PlacedSymbol) → Light outside (sign m p ∷ u) ↔ Light (at 0 0) u
opened m h p u = elim (start_is (sign m p) h) [
  | inl e ↦ subst (λ t. Light outside (t ∷ u) ↔ Light (at 0 0) u) (sym e) (quiet outside (at 0 0) (sign Select p) u refl refl)
  | inr e ↦ subst (λ t. Light outside (t ∷ u) ↔ Light (at 0 0) u) (sym e) (quiet outside (at 0 0) (sign Delete p) u refl refl)
]

entered : {a : Sort} (m : Mark) (f : Form a) → begins_expressions m ≡ true → is_calm f end_kinds ≡ true → {p : ℕ} {l u : List PlacedSymbol} → l ≡ sign m p ∷ u → (x : Meaning a) (r : List PlacedSymbol) (d : Derives f u x r) → IsEnd r → Walks (HasLightExpressions f u x r d) outside l r
entered m f h c {p = p} {l = l} {u = u} e x r d s =
    let b : Same outside l (sign m p ∷ u) = same_tokens e in
    let i = opened m h p u in
    let g = form_walks f end_kinds c u x r d s.follows in
    record { there = λ v. let w = g.there (i.0 (b.there v)) in (w.0, s.outward w.1); back = λ v w. b.back (i.1 (g.back v (s.inward w))) }

-- after a mark outside SELECT and DELETE
mark_walks : {a : Sort} (last : Bool) (m : Mark) (f : Form a) → cond (begins_expressions m) (cond last (is_calm f end_kinds) false) (is_skipped last f) ≡ true → {p : ℕ} {l u : List PlacedSymbol} → l ≡ sign m p ∷ u → (x : Meaning a) (r : List PlacedSymbol) (d : Derives f u x r)
    → (last ≡ true → IsEnd r) → (is_skipped last f ≡ true → Walks (HasLightExpressions f u x r d) outside u r) → Walks (HasLightExpressions f u x r d) outside l r
mark_walks last m f h {p = p} {l = l} {u = u} e x r d s other = by (begins_expressions m) refl h where
  by : (b : Bool) → begins_expressions m ≡ b → cond b (cond last (is_calm f end_kinds) false) (is_skipped last f) ≡ true → Walks (HasLightExpressions f u x r d) outside l r
  by true i j = let t = both_true last _ j in entered m f i t.1 e x r d (s t.0)
  by false i j = then_walks (skip_at e i) (other j)

list_skips : {a : Sort} (m : Mark) (f : Form a) → begins_expressions m ≡ false → ((l : List PlacedSymbol) (x : Meaning a) (r : List PlacedSymbol) (d : Derives f l x r) → Walks (HasLightExpressions f l x r d) outside l r)
    → (l : List PlacedSymbol) (xs : List (Meaning a)) (r : List PlacedSymbol) (d : Derives (separated m f) l xs r) → Walks (AllLight m (Derives f) (HasLightExpressions f) l xs r d) outside l r
list_skips m f h each l _ r (single {x = x} d) = each l x r d
list_skips m f h each l _ r (several {u = u} {x = x} {xs = xs} {p = p} d ds) = both_walk (each l x (sign m p ∷ u) d) (then_walks (skip (sign m p) u h) (list_skips m f h each u xs r ds))

form_skips : (last : Bool) {a : Sort} (f : Form a) → is_skipped last f ≡ true → (l : List PlacedSymbol) (x : Meaning a) (r : List PlacedSymbol) (d : Derives f l x r) → (last ≡ true → IsEnd r) → Walks (HasLightExpressions f l x r d) outside l r
form_skips last (built a v) h l x r d s = none_walks (same_tokens d.1)
form_skips last (mark m) h l x r d s = none_walks (skip_at d (not_true _ h))
form_skips last a_name h l x r d s = none_walks (skip_at d refl)
form_skips last a_number h l x r d s = none_walks (skip_at d refl)
form_skips last a_string h l x r d s = none_walks (skip_at d refl)
form_skips last a_type h l x r d s = none_walks (type_skips l x r d)
form_skips last an_expression h l x r d s = absurd (cc h)
form_skips last a_count_or_expression h l x r d s = absurd (cc h)
form_skips last (made g f) h l y r (x, m, d, (e, w)) s = walks_then (form_skips last f h l x m d (λ q. subst IsEnd (sym w) (s q))) (same_tokens w)
form_skips last (both f g) h l z r (x, m, d, (y, n, e, (v, w))) s =
    let t = both_true (is_skipped false f) (is_skipped last g) h in
    walks_then (both_walk (form_skips false f t.0 l x m d (λ q. absurd (cc q))) (form_skips last g t.1 m y n e (λ q. subst IsEnd (sym w) (s q)))) (same_tokens w)
form_skips last (behind m f) h l x r (p, u, e, d) s = mark_walks last m f h e x r d s (λ k. form_skips last f k u x r d s)
form_skips last (ended f m) h l x r (y, u, d, (p, v, e, (w, z))) s =
    let t = second_alone (begins_expressions m) _ h in walks_then (form_skips false f t.1 l y u d (λ q. absurd (cc q))) (follow (skip_at e t.0) (same_tokens z))
form_skips last (choice m f g) h l x r (inl (p, u, e, d)) s = mark_walks last m f (both_true _ (is_skipped last g) h).0 e x r d s (λ k. form_skips last f k u x r d s)
form_skips last (choice m f g) h l x r (inr d) s = form_skips last g (both_true _ (is_skipped last g) h).1 l x r d s
form_skips last (either f g) h l x r (inl d) s = form_skips last f (both_true (is_skipped last f) (is_skipped last g) h).0 l x r d s
form_skips last (either f g) h l x r (inr d) s = form_skips last g (both_true (is_skipped last f) (is_skipped last g) h).1 l x r d s
form_skips last (separated m f) h l xs r d s = let t = second_alone (begins_expressions m) _ h in list_skips m f t.0 (λ l x r d. form_skips false f t.1 l x r d (λ q. absurd (cc q))) l xs r d

statement_skips : is_skipped true statement_form ≡ true
unfolding string_form signed_form number_form typed_form const_form row_form column_type_form create_table_form indexed_form create_index_form create_form insert_form header_form format_form delimiter_form options_form copy_form some_name_form second_name_form entry_form joined_form joins_form source_form sources_form from_form alias_form item_form direction_form key_form distinct_form where_form group_column_form by_form group_form order_form limit_form ordering_form select_form delete_form explain_form statement_form
statement_skips = refl

script_walks : (l : List PlacedSymbol) (xs : List StatementParts) (r : List PlacedSymbol) (ds : Listed Semicolon Statement l xs r) → IsEnd r → Walks (AllLight Semicolon Statement (HasLightExpressions statement_form) l xs r ds) outside l r
script_walks l _ r (single {x = x} d) s = form_skips true statement_form statement_skips l x r d (λ q. s)
script_walks l _ r (several {u = u} {x = x} {xs = xs} {p = p} d ds) s =
    both_walk (form_skips true statement_form statement_skips l x (sign Semicolon p ∷ u) d (λ q. before_end p u)) (then_walks (skip (sign Semicolon p) u refl) (script_walks u xs r ds s))

pub expressions_are : ExpressionsAreTheGrammars
expressions_are l x d = let f = none_light l in let g = script_walks l x [] d at_end in ((λ e. (g.there (f.0 e)).0), (λ h. f.1 (g.back h tt)))
