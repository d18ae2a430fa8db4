-- Which statement a place is in. The number of a statement and a place agree: typing counts
-- statements as the `;` tokens of the text do.
use Rattle.std.{specs.Prelude.{◌≡◌, ◌⊎◌, ◌+◌, ℕ, List, [], ◌∷◌, filter, nat_lt, Result, Ok, Err}, specs.List.{AllByRecursion}}
use Rattle.mob_ast.{specs.Trees.{StatementParts}, specs.declared.refusal.Kind.TheVariants.{Syntax, TooComplex}, specs.declared.refusal.Refusal.{Refusal}}
use Rattle.mob_chars.{specs.declared.token.Token.{Token}, specs.Tokens.{tokens_of}}
use Rattle.mob_grammar.{specs.Symbols.{PlacedSymbol}, specs.Cuts.{ends_among}, specs.Places.{statement_places}, specs.Sites.{statement_sites}}
use Rattle.mob_lexemes.specs.Lexed.{lexed}
use Rattle.mob_parse.specs.Refusals.{IsTreeOf}
use Rattle.mob_typed.{specs.Statements.{StatementOut, ScriptOut}, specs.Written.{brackets_of}}
use Rattle.mob_typing.{specs.Statements.{typed_script}, specs.Stands.{OperatorsStand, IsPlacedRefusal}}
use Rattle.mob_accept.specs.Accepts.{IsAccepted, IsNoScript, IsWrongName}

-- the tokens of a text; none if it has no tokens
abbrev pub tokens_in : Result (List Token) ℕ → List Token
tokens_in (Ok ts) = ts
tokens_in (Err p) = []

-- the tokens of a text as the grammar sees them, and those before a place; none if it has no tokens
abbrev pub symbols_in : List ℕ → List PlacedSymbol
symbols_in text = lexed text (tokens_in (tokens_of text))

abbrev pub symbols_before : ℕ → List PlacedSymbol → List PlacedSymbol
symbols_before place l = filter (λ t. nat_lt t.place place) l

-- the number of the statement that a place is in: 1 plus the number of `;` before it
abbrev pub statement_number : List ℕ → ℕ → ℕ
statement_number text place = 1 + ends_among (symbols_before place (symbols_in text))

-- each of these places is in the statement of this number
abbrev pub AreIn : List ℕ → ℕ → List ℕ → Type 0
AreIn bytes n places = AllByRecursion (λ p. statement_number bytes p ≡ n) places

-- the places of the first statement are in statement n, and those of each further statement in the
-- next number
abbrev pub TreesAreIn : (StatementParts → List ℕ) → List ℕ → ℕ → List StatementParts → Type 0
TreesAreIn places bytes n [] = Unit {0}
TreesAreIn places bytes n (s ∷ ss) = AreIn bytes n (places s) × TreesAreIn places bytes (n + 1) ss

-- the rows of the first statement are in statement n, and those of each further statement in the
-- next number
abbrev pub RowsAreIn : List ℕ → ℕ → List StatementOut → Type 0
RowsAreIn bytes n [] = Unit {0}
RowsAreIn bytes n (s ∷ ss) = AreIn bytes n (brackets_of s) × RowsAreIn bytes (n + 1) ss

-- each literal is in the statement whose number it has, and each row in its own statement
pub record IsNumbered (bytes : List ℕ) (out : ScriptOut) : Type 0 where
  pub literals : AllByRecursion (λ c. c.statement ≡ statement_number bytes c.place) out.consts
  pub rows : RowsAreIn bytes 1 out.statements

-- the literals and rows of the trees of a text are in their statements, and so are the
-- sites of the trees
abbrev pub TreesAreNumbered : Type 0
TreesAreNumbered = (bytes : List ℕ) (trees : List StatementParts) → IsTreeOf bytes trees → TreesAreIn statement_places bytes 1 trees × TreesAreIn statement_sites bytes 1 trees

-- typing keeps the numbers of the trees
abbrev pub TypingKeepsNumbers : Type 0
TypingKeepsNumbers = (bytes : List ℕ) (trees : List StatementParts) (out : ScriptOut) → TreesAreIn statement_places bytes 1 trees → typed_script trees ≡ Ok out → IsNumbered bytes out

-- an accepted text is numbered by its `;` tokens
abbrev pub TextIsNumbered : Type 0
TextIsNumbered = (bytes : List ℕ) (out : ScriptOut) → IsAccepted bytes out → IsNumbered bytes out

-- each operator and each aggregate of an accepted text is in its statement, constants and columns
-- included
abbrev pub OperatorsAreNumbered : Type 0
OperatorsAreNumbered = (bytes : List ℕ) (out : ScriptOut) → IsAccepted bytes out → OperatorsStand (λ n p. statement_number bytes p ≡ n) 1 out.statements

-- a refusal of typing names the statement that its place is in
abbrev pub TypingRefusesInside : Type 0
TypingRefusesInside = (bytes : List ℕ) (trees : List StatementParts) (e : Refusal) → TreesAreIn statement_sites bytes 1 trees → typed_script trees ≡ Err e → e.statement ≡ statement_number bytes e.place

-- a refusal of a name or a type names the statement that its place is in
abbrev pub WrongNamesAreNumbered : Type 0
WrongNamesAreNumbered = (bytes : List ℕ) (e : Refusal) → IsWrongName bytes e → e.statement ≡ statement_number bytes e.place

-- the place is a site of the tree of that statement, among the trees of the text
abbrev pub WrongNamesAreAtSites : Type 0
WrongNamesAreAtSites = (bytes : List ℕ) (e : Refusal) → IsWrongName bytes e → (trees : List StatementParts) × IsTreeOf bytes trees × IsPlacedRefusal trees e

-- a refusal of a wrong token, or of the token at which an expression is too complex, also names the
-- statement that its place is in
abbrev pub WrongTokensAreNumbered : Type 0
WrongTokensAreNumbered = (bytes : List ℕ) (e : Refusal) → IsNoScript bytes e → (e.kind ≡ Syntax) ⊎ (e.kind ≡ TooComplex) → e.statement ≡ statement_number bytes e.place
