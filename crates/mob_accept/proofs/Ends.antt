-- The tokens of a text, as the grammar sees them, begin at strictly increasing places; and how many
-- `;` tokens come before a place.
use Rattle.std.{specs.Prelude.{IfSome}, specs.List.{AllByRecursion}}
use Rattle.std.{proofs.Common.{◌≡◌, ◌<◌, ◌≤◌, ◌+◌, ◌∙◌, refl, sym, ap, subst, arith, ℕ, List, [], ◌∷◌, ◌++◌, length, append-nil, cond, Option, Some, None, Ok}, proofs.lemmas.Bool.{lt-ltb, le-ltb}}
use Rattle.mob_chars.{specs.declared.token.Token.{Token}, specs.Tokens.{token, end_at, tokens_of}, specs.Layout.{Leads, here, blank, comment, next, InTextOrder}, proofs.Sizes.{token_within}}
use Rattle.mob_chars.proofs.Along.{are_laid, are_in_order}
use Rattle.mob_grammar.{specs.Symbols.{Symbol, PlacedSymbol}, specs.Cuts.{ends_among, StandsBehind}}
use Rattle.mob_lexemes.specs.Lexed.{symbol_at, before_lexed, lexed}
use Rattle.mob_parse.specs.Refusals.{first_place}
use Rattle.mob_typed.specs.Written.{Rises}
use Rattle.mob_list.proofs.Each.{each_on, one_of}
use Rattle.mob_accept.{specs.Numbers.{tokens_in, symbols_before, statement_number}, proofs.Within.{ends_later}}

-- a token that the grammar sees has at least one byte
abbrev HasByte : Token → Option Symbol → Type 0
HasByte t None = Unit {0}
HasByte t (Some x) = t.from < t.to

abbrev AllHaveBytes : List ℕ → List Token → Type 0
AllHaveBytes text [] = Unit {0}
AllHaveBytes text (t ∷ ts) = HasByte t (symbol_at text t.kind t.from t.to) × AllHaveBytes text ts

-- the tokens begin at strictly increasing places; and, between a start and an end
abbrev Rise : List PlacedSymbol → Type 0
Rise l = Rises (λ u v. u.place < v.place) l

abbrev StandBetween : ℕ → ℕ → List PlacedSymbol → Type 0
StandBetween q e l = AllByRecursion (λ u. q ≤ u.place) l × Rise l × AllByRecursion (λ u. u.place < e) l

has_byte : (t : Token) (o : Option Symbol) → t.from < t.to → HasByte t o
has_byte t None some = tt
has_byte t (Some x) some = some

module _ (text : List ℕ) where
  all_have : {p q : ℕ} {l m : List ℕ} {ts : List Token} → Leads p l ts q m → AllHaveBytes text ts
  all_have here = tt
  all_have (blank h w) = all_have w
  all_have (comment h w) = all_have w
  all_have (next {p} {q} {n} {l} {m} {k} {ts} g h w) =
      let within : (0 < n) × (n ≤ length l) = subst (λ o. IfSome o (λ x. (0 < x.1) × (x.1 ≤ length l))) h (token_within l) in
      let some = within.0 in
      (has_byte (token k p n) (symbol_at text k p (p + n)) (omega (arith, some)), all_have w)

  more_have : (ts us : List Token) → AllHaveBytes text ts → AllHaveBytes text us → AllHaveBytes text (ts ++ us)
  more_have [] us a b = b
  more_have (t ∷ ts) us a b = (a.0, more_have ts us a.1 b)

  tokens_have : (ts : List Token) → tokens_of text ≡ Ok ts → AllHaveBytes text ts
  tokens_have ts h = let laid = are_laid text ts h in subst (AllHaveBytes text) (sym laid.parts) (more_have laid.all (end_at (length text) ∷ []) (all_have laid.leads) (tt, tt))

  one_rises : (q e : ℕ) (t : Token) (o : Option Symbol) (l : List PlacedSymbol) → q ≤ t.from → t.from ≤ t.to → t.to ≤ e → HasByte t o → StandBetween t.to e l → StandBetween q e (before_lexed t.from o l)
  one_rises q e t None l from to end own rest = (each_on (λ u. t.to ≤ u.place) (λ u. q ≤ u.place) (λ u le. omega arith) l rest.0, rest.1, rest.2)
  one_rises q e t (Some x) l from to end own rest =
      let some = own in
      ((from, each_on (λ u. t.to ≤ u.place) (λ u. q ≤ u.place) (λ u le. omega arith) l rest.0), (each_on (λ u. t.to ≤ u.place) (λ u. t.from < u.place) (λ u le. omega arith) l rest.0, rest.1), (omega arith, rest.2))

  symbols_rise : (q e : ℕ) (ts : List Token) → InTextOrder q e ts → AllHaveBytes text ts → StandBetween q e (lexed text ts)
  symbols_rise q e [] order have = (tt, tt, tt)
  symbols_rise q e (t ∷ ts) order have = one_rises q e t (symbol_at text t.kind t.from t.to) (lexed text ts) order.0 order.1 (ends_later t.to e ts order.2) have.0 (symbols_rise t.to e ts order.2 have.1)

-- which tokens are before a place
none_before : (p : ℕ) (l : List PlacedSymbol) → AllByRecursion (λ u. p ≤ u.place) l → symbols_before p l ≡ []
none_before p [] h = refl
none_before p (u ∷ l) h = ap (λ b. cond b (u ∷ symbols_before p l) (symbols_before p l)) (le-ltb u.place p h.0) ∙ none_before p l h.1

all_before : (p : ℕ) (l : List PlacedSymbol) → AllByRecursion (λ u. u.place < p) l → symbols_before p l ≡ l
all_before p [] h = refl
all_before p (u ∷ l) h = ap (λ b. cond b (u ∷ symbols_before p l) (symbols_before p l)) (lt-ltb u.place p h.0) ∙ ap (λ k. u ∷ k) (all_before p l h.1)

before_one : (before behind : List PlacedSymbol) (u : PlacedSymbol) → Rise (before ++ u ∷ behind) → symbols_before u.place (before ++ u ∷ behind) ≡ before
before_one [] behind u rises = none_before u.place (u ∷ behind) (omega arith, each_on (λ v. u.place < v.place) (λ v. u.place ≤ v.place) (λ v less. omega arith) behind rises.0)
before_one (b ∷ before) behind u rises =
    ap (λ c. cond c (b ∷ symbols_before u.place (before ++ u ∷ behind)) (symbols_before u.place (before ++ u ∷ behind))) (lt-ltb b.place u.place (one_of (λ v. b.place < v.place) before behind u rises.0))
    ∙ ap (λ k. b ∷ k) (before_one before behind u rises.1)

module _ (text : List ℕ) (ts : List Token) (are : tokens_of text ≡ Ok ts) where
  number_is : (p : ℕ) → statement_number text p ≡ 1 + ends_among (symbols_before p (lexed text ts))
  number_is p = ap (λ us. 1 + ends_among (symbols_before p (lexed text us))) (ap tokens_in are)

  stand : StandBetween 0 (length text) (lexed text ts)
  stand = symbols_rise text 0 (length text) ts (are_in_order text ts are) (tokens_have text ts are)

  -- the statement number of a place that follows n `;` tokens
  pub behind_is : (l : List PlacedSymbol) (n p : ℕ) → l ≡ lexed text ts → StandsBehind l n p → statement_number text p ≡ 1 + n
  behind_is l n p lexes h =
      let parts = sym lexes ∙ h.parts in
      number_is p ∙ ap (λ q. 1 + ends_among (symbols_before q (lexed text ts))) (sym h.here) ∙ ap (λ k. 1 + ends_among (symbols_before h.token.place k)) parts
      ∙ ap (λ k. 1 + ends_among k) (before_one h.before h.behind h.token (subst Rise parts stand.1)) ∙ ap (λ m. 1 + m) h.number

  -- the statement number of the place after some tokens: the place of the next token, or the end of
  -- the text
  pub place_behind : (l before r : List PlacedSymbol) → l ≡ lexed text ts → l ≡ before ++ r → statement_number text (first_place r (length text)) ≡ 1 + ends_among before
  place_behind l before [] lexes parts =
      number_is (length text) ∙ ap (λ k. 1 + ends_among k) (all_before (length text) (lexed text ts) stand.2) ∙ ap (λ k. 1 + ends_among k) (sym lexes ∙ parts ∙ append-nil before)
  place_behind l before (t ∷ r) lexes parts = behind_is l (ends_among before) t.place lexes (record { before = before; token = t; behind = r; parts = parts; number = refl; here = refl })
