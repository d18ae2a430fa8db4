-- count(*) or an expression: the reader is lawful and reads every text. Three tokens tell them
-- apart.
use Rattle.std.{specs.Prelude.{codes}, specs.Str.{bytes_eq}}
use Rattle.std.proofs.Common.{◌≡◌, ◌∙◌, ◌⊎◌, rules, inl, inr, ℕ, suc, length, ◌++◌, List, [], ◌∷◌, true, false, cond, Ok, Err, refl, sym, ap, ap₂, subst, Bool, arith}
use Rattle.std.proofs.lemmas.Slice.Eq.{bytes_eq-Decides}
use Rattle.std.proofs.lemmas.Bool.{cases_Bool}
use Rattle.mob_ast.specs.Trees.{Tree, Trees}
use Rattle.mob_grammar.{specs.declared.mark.Mark.TheVariants.{Times, Open, Close}, specs.TokenKinds.{expression_heads}}
use Rattle.mob_grammar.specs.Symbols.{Symbol, fixed, name, number, quoted, PlacedSymbol, sign, identifier, is_sign, is_count, is_count_symbol, counts_all, rest, starts, binding}
use Rattle.mob_grammar.specs.Expressions.{Rank, disjunction, chains, prefixes}
use Rattle.mob_grammar.specs.Expressions.{Phrase, plain, inner, up, chain, prefixed, is_null, is_not_null, compared, cast_to, a_number, a_string, is_true, is_false, a_null, a_literal, a_call}
use Rattle.mob_grammar.{specs.Expressions.{a_column, a_table_column, in_brackets, Arguments, nothing, something}, specs.Forms.{Production, Builds, ◌⇒◌, ◌▸◌, Expression, CountOrExpression}}
use Rattle.mob_grammar.{specs.Reading.{Answer, TokenReader, ◌>>=◌, closed, expression_at, counted_at}, proofs.Steps.{token_is, passed}, proofs.Tells.{left_of, Tells, Alike, tells_token}}
use Rattle.mob_grammar.{proofs.Heads.{not_this, phrase_begins}, proofs.Sets.{both_true}, proofs.Complete.{Stops, stops_mark}}
use Rattle.mob_grammar.proofs.ReadRules.{Complete, IsRead, built_keeps, read_built, read_closed, read_expression, read_then}

-- an expression alone, and what follows the first three tokens of count(*)
abbrev Alone : Production (ℕ ⊎ Tree)
Alone = Expression ⇒ λ e. Builds (inr e)

abbrev CountEnd : ℕ → Production (ℕ ⊎ Tree)
CountEnd p = Close ▸ Builds (inl p)

alone_at : TokenReader (ℕ ⊎ Tree)
alone_at l = expression_at l >>= λ e. Ok (inr e.0, e.1)

read_alone : IsRead Alone alone_at (Stops disjunction)
unfolding alone_at
read_alone = read_then Expression (λ e. Builds (inr e)) expression_at (λ e l. Ok (inr e, l)) (Stops disjunction) (Stops disjunction) read_expression (λ e. read_built (Stops disjunction) (inr e)) (λ x l y r d h. built_keeps (Stops disjunction) d h)

read_end : (p : ℕ) → IsRead (CountEnd p) (closed Close (inl p)) (Stops disjunction)
read_end p = read_closed (Stops disjunction) Close (inl p)

bytes_same : (xs ys : List ℕ) → bytes_eq xs ys ≡ true → xs ≡ ys
bytes_same xs ys h = search (rules, h, bytes_eq-Decides xs ys)

count_symbol : (x : Symbol) → is_count_symbol x ≡ true → x ≡ name (codes "count")
count_symbol (fixed g) h = absurd (cc h)
count_symbol (name n) h = ap name (bytes_same n (codes "count") h)
count_symbol (number n) h = absurd (cc h)
count_symbol (quoted s) h = absurd (cc h)

count_token : (t : PlacedSymbol) → is_count t ≡ true → t ≡ identifier (codes "count") t.place
count_token t h = ap (λ x. record { symbol = x; place = t.place }) (count_symbol t.symbol h)

none_true : (b c : Bool) → c ≡ false → cond b c false ≡ false
none_true true c h = h
none_true false c h = refl

count_tokens : (l : List PlacedSymbol) → counts_all l ≡ true → (p q o : ℕ) × (u : List PlacedSymbol) × (l ≡ identifier (codes "count") p ∷ (sign Open q ∷ (sign Times o ∷ u)))
count_tokens [] h = absurd (cc h)
count_tokens (a ∷ []) h = let k = both_true (is_count a) false h in absurd (cc k.1)
count_tokens (a ∷ (b ∷ [])) h = let k = both_true (is_count a) (cond (is_sign Open b) false false) h in let m = both_true (is_sign Open b) false k.1 in absurd (cc m.1)
count_tokens (a ∷ (b ∷ (c ∷ u))) h =
    let k = both_true (is_count a) (cond (is_sign Open b) (is_sign Times c) false) h in
    let m = both_true (is_sign Open b) (is_sign Times c) k.1 in
    (a.place, b.place, c.place, u, ap (λ v. v ∷ (b ∷ (c ∷ u))) (count_token a k.0) ∙ ap₂ (λ v w. identifier (codes "count") a.place ∷ (v ∷ (w ∷ u))) (token_is Open b m.0) (token_is Times c m.1))

counted_alone : (l : List PlacedSymbol) → counts_all l ≡ false → counted_at l ≡ alone_at l
unfolding counted_at alone_at
counted_alone l h = passed (counts_all l) _ _ h

counted_all : (p q o : ℕ) (u : List PlacedSymbol) → counted_at (identifier (codes "count") p ∷ (sign Open q ∷ (sign Times o ∷ u))) ≡ closed Close (inl p) u
unfolding counted_at
counted_all p q o u = refl

-- a name alone and a call without arguments are expressions
alone_left : {l : List PlacedSymbol} {e : Tree} → Phrase disjunction l e [] → left_of (alone_at l) ≡ []
unfolding left_of
alone_left {l} {e} d = ap left_of (read_alone.complete l (inr e) [] (e, [], d, (refl, refl)) tt)

a_name_left : (n : List ℕ) (p : ℕ) → left_of (alone_at (identifier n p ∷ [])) ≡ []
a_name_left n p = alone_left (up (up (up (up (up (up (up (up (up (up (up a_column)))))))))))

a_call_left : (n : List ℕ) (p q s : ℕ) → left_of (alone_at (identifier n p ∷ (sign Open q ∷ (sign Close s ∷ [])))) ≡ []
a_call_left n p q s = alone_left (up (up (up (up (up (up (up (up (up (up (up (a_call nothing))))))))))))

not_left : (t : PlacedSymbol) (l : List PlacedSymbol) (a : Answer (ℕ ⊎ Tree)) → left_of a ≡ t ∷ l → left_of a ≡ [] → ⊥
not_left t l a h k = let e : ◌≡◌ {A = List PlacedSymbol} (t ∷ l) [] = sym h ∙ k in cc

-- the tokens that an expression was read from do not become those of count(*), whatever follows
-- that begins alike
still_alone : (taken r y : List PlacedSymbol) → Alike r y → counts_all (taken ++ r) ≡ false → ((z : List PlacedSymbol) → Alike r z → left_of (alone_at (taken ++ z)) ≡ z) → counts_all (taken ++ y) ≡ false
still_alone taken [] (t ∷ y) a clean left = absurd a
still_alone taken (t ∷ r) [] a clean left = absurd a
still_alone taken [] [] a clean left = clean
still_alone [] (t ∷ r) (u ∷ y) a clean left = elim (cases_Bool (counts_all (u ∷ y))) [
  | inr none_there ↦ none_there
  | inl is_one ↦
      let k = both_true (is_count u) _ is_one in
      let e = count_token u k.0 in
      absurd (not_left u [] (alone_at (u ∷ [])) (left (u ∷ []) a) (subst (λ v. left_of (alone_at (v ∷ [])) ≡ []) (sym e) (a_name_left (codes "count") u.place)))
]
still_alone (a ∷ []) (t ∷ r) (u ∷ y) h clean left = elim (cases_Bool (counts_all (a ∷ (u ∷ y)))) [
  | inr none_there ↦ none_there
  | inl is_one ↦
      let k = both_true (is_count a) (cond (is_sign Open u) (starts Times y) false) is_one in
      let m = both_true (is_sign Open u) (starts Times y) k.1 in
      let e = count_token a k.0 in
      let f = token_is Open u m.0 in
      absurd (not_left u (sign Close 0 ∷ []) (alone_at (a ∷ (u ∷ (sign Close 0 ∷ [])))) (left (u ∷ (sign Close 0 ∷ [])) h)
      (subst (λ v. left_of (alone_at (v ∷ (u ∷ (sign Close 0 ∷ [])))) ≡ []) (sym e) (subst (λ v. left_of (alone_at (identifier (codes "count") a.place ∷ (v ∷ (sign Close 0 ∷ [])))) ≡ []) (sym f) (a_call_left (codes "count") a.place u.place 0))))
]
still_alone (a ∷ (b ∷ [])) (t ∷ r) (u ∷ y) h clean left = subst (λ v. cond (is_count a) (cond (is_sign Open b) (is_sign Times v) false) false ≡ false) h clean
still_alone (a ∷ (b ∷ (c ∷ taken))) (t ∷ r) (u ∷ y) h clean left = clean

alone_tells : (l : List PlacedSymbol) → counts_all l ≡ false → (a : Answer (ℕ ⊎ Tree)) → Tells Alone (λ m. alone_at) l a → Tells CountOrExpression (λ m. counted_at) l a
unfolding left_of
alone_tells l clean (Ok x) s = record {
  taken = s.taken;
  parts = s.parts;
  phrase = λ v. inr (s.phrase v);
  again = λ v h m fuel. counted_alone (s.taken ++ v) (still_alone s.taken x.1 v h (subst (λ u. counts_all u ≡ false) s.parts clean) (λ z k. ap left_of (s.again z k (length (s.taken ++ z)) (omega arith)))) ∙ s.again v h m fuel;
}
alone_tells l clean (Err r) s = record {
  taken = s.taken;
  parts = s.parts;
  again = λ v h m fuel. counted_alone (s.taken ++ v) (still_alone s.taken r v h (subst (λ u. counts_all u ≡ false) s.parts clean) (λ z k. ap left_of (s.again z k (length (s.taken ++ z)) (omega arith)))) ∙ s.again v h m fuel;
  closing = s.closing;
  plain = s.plain;
  value = s.value;
  closes = λ v. inr (s.closes v);
}

count_tells : (p q o : ℕ) (u : List PlacedSymbol) → Tells CountOrExpression (λ m. counted_at) (identifier (codes "count") p ∷ (sign Open q ∷ (sign Times o ∷ u))) (closed Close (inl p) u)
count_tells p q o u =
    tells_token (λ k x r. CountOrExpression (identifier (codes "count") p ∷ k) x r) CountOrExpression (λ m k. counted_at (identifier (codes "count") p ∷ k)) (λ m. counted_at) (identifier (codes "count") p) (λ m y. refl) (λ k x r d. d) (sign Open q ∷ (sign Times o ∷ u)) (closed Close (inl p) u)
    (tells_token (λ k x r. CountOrExpression (identifier (codes "count") p ∷ (sign Open q ∷ k)) x r) (λ k x r. CountOrExpression (identifier (codes "count") p ∷ k) x r) (λ m k. counted_at (identifier (codes "count") p ∷ (sign Open q ∷ k))) (λ m k. counted_at (identifier (codes "count") p ∷ k)) (sign Open q) (λ m y. refl) (λ k x r d. d) (sign Times o ∷ u) (closed Close (inl p) u)
    (tells_token (CountEnd p) (λ k x r. CountOrExpression (identifier (codes "count") p ∷ (sign Open q ∷ k)) x r) (λ m. closed Close (inl p)) (λ m k. counted_at (identifier (codes "count") p ∷ (sign Open q ∷ k))) (sign Times o) (λ m y. counted_all p q o y)
    (λ k x r d. inl (p, sign Open q ∷ (sign Times o ∷ k), refl, (q, sign Times o ∷ k, refl, (o, k, refl, d)))) u (closed Close (inl p) u) ((read_end p).lawful (suc (length u)) u (omega arith))))

counted_tells : (l : List PlacedSymbol) → Tells CountOrExpression (λ m. counted_at) l (counted_at l)
counted_tells l = elim (cases_Bool (counts_all l)) [
  | inl is_one ↦
      let (p, q, o, u, e) = count_tokens l is_one in
      subst (λ v. Tells CountOrExpression (λ m. counted_at) v (counted_at v)) (sym e) (subst (Tells CountOrExpression (λ m. counted_at) (identifier (codes "count") p ∷ (sign Open q ∷ (sign Times o ∷ u)))) (sym (counted_all p q o u)) (count_tells p q o u))
  | inr none_there ↦ subst (Tells CountOrExpression (λ m. counted_at) l) (sym (counted_alone l none_there)) (alone_tells l none_there (alone_at l) (read_alone.lawful (suc (length l)) l (omega arith)))
]

-- no phrase begins with the tokens of count(*), except the bare name if an opening bracket follows
-- it
chains_no_open : (k : Rank) (t : PlacedSymbol) → chains k t ≡ true → is_sign Open t ≡ true → ⊥
chains_no_open k t c h = let e = token_is Open t h in let f : chains k (sign Open t.place) ≡ true = subst (λ v. chains k v ≡ true) e c in no k t.place f where
  no : (k : Rank) (p : ℕ) → chains k (sign Open p) ≡ true → ⊥
  no disjunction p h = cc h
  no _ p h = cc h

prefix_no_count : (k : Rank) (t : PlacedSymbol) → prefixes k t ≡ true → is_count t ≡ false
prefix_no_count k t c = elim (cases_Bool (is_count t)) [
  | inr none_there ↦ none_there
  | inl is_one ↦ absurd (no k t.place (subst (λ v. prefixes k v ≡ true) (count_token t is_one) c))
] where
  no : (k : Rank) (p : ℕ) → prefixes k (identifier (codes "count") p) ≡ true → ⊥
  no disjunction p h = cc h
  no _ p h = cc h

arguments_no_times : {l r : List PlacedSymbol} {es : Trees} → Arguments l es r → starts Times l ≡ false
arguments_no_times nothing = refl
arguments_no_times (something {l = l} a b) = not_this Times expression_heads refl l (phrase_begins a)

phrase_no_count : {k : Rank} {l r : List PlacedSymbol} {e : Tree} → Phrase k l e r → starts Open r ≡ false → counts_all l ≡ false
phrase_no_count (up d) h = phrase_no_count d h
phrase_no_count (chain {k = k} {t = t} d c b) h = elim (cases_Bool (is_sign Open t)) [ inl is_one ↦ absurd (chains_no_open k t c is_one) | inr none_there ↦ phrase_no_count d none_there ]
phrase_no_count (prefixed {k = k} {l = l} {t = t} c d) h = ap (λ b. cond b (cond (starts Open l) (starts Times (rest l)) false) false) (prefix_no_count k t c)
phrase_no_count (is_null d) h = phrase_no_count d refl
phrase_no_count (is_not_null d) h = phrase_no_count d refl
phrase_no_count (compared {t = t} d c b) h = elim (cases_Bool (is_sign Open t)) [ inl is_one ↦ (let e : binding t ≡ 12 = ap binding (token_is Open t is_one) in absurd (omega arith)) | inr none_there ↦ phrase_no_count d none_there ]
phrase_no_count (cast_to d t) h = phrase_no_count d refl
phrase_no_count a_number h = refl
phrase_no_count a_string h = refl
phrase_no_count is_true h = refl
phrase_no_count is_false h = refl
phrase_no_count a_null h = refl
phrase_no_count (a_literal plain) h = none_true _ _ refl
phrase_no_count (a_literal inner) h = none_true _ _ refl
phrase_no_count (a_call {l = l} {n = n} es) h = none_true (bytes_eq n (codes "count")) (starts Times l) (arguments_no_times es)
phrase_no_count (a_column {r = r} {n = n}) h = none_true (bytes_eq n (codes "count")) (cond (starts Open r) (starts Times (rest r)) false) (ap (λ b. cond b (starts Times (rest r)) false) h)
phrase_no_count a_table_column h = none_true _ _ refl
phrase_no_count (in_brackets d) h = refl

counted_complete : Complete CountOrExpression counted_at (Stops disjunction)
counted_complete l y r (inl (p, k, e, (q, m, f, (o, n, g, d)))) h =
    ap counted_at (e ∙ ap (λ v. identifier (codes "count") p ∷ v) (f ∙ ap (λ v. sign Open q ∷ v) g)) ∙ counted_all p q o n ∙ (read_end p).complete n y r d h
counted_complete l y r (inr d) h = counted_alone l (phrase_no_count d.2 (stops_mark disjunction Open d.1 (omega arith) (built_keeps (Stops disjunction) d.3 h))) ∙ read_alone.complete l y r d h

pub read_counted : IsRead CountOrExpression counted_at (Stops disjunction)
read_counted = record { lawful = λ n l short. counted_tells l; complete = counted_complete }
