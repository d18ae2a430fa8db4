-- The kinds of tokens, and sets of them. Each mark is a kind. The names are one kind, and so are
-- the numbers and the strings.
use Rattle.std.specs.Prelude.{◌==◌, List, [], ◌∷◌, ◌++◌, map, Bool, true, false, cond}
use Rattle.mob_grammar.{specs.declared.mark.Mark.{Mark}, specs.declared.mark.Mark.TheVariants.{Not, Null, True, False, Plus, Minus, Tilde, Open, Dot}}
use Rattle.mob_grammar.specs.Marks.{is, strength, reserved_words, sign_marks}

pub data TokenKind : Type 0 where
  of_mark : Mark → TokenKind
  names numbers strings : TokenKind

abbrev pub same_kind : TokenKind → TokenKind → Bool
same_kind (of_mark g) (of_mark m) = is g m
same_kind names names = true
same_kind numbers numbers = true
same_kind strings strings = true
same_kind _ _ = false

abbrev pub TokenKinds : Type 0
TokenKinds = TokenKind → Bool

-- no kind, one kind, one mark
abbrev pub no_kind : TokenKinds
no_kind x = false

abbrev pub only_kind : TokenKind → TokenKinds
only_kind k x = same_kind x k

abbrev pub only_mark : Mark → TokenKinds
only_mark m = only_kind (of_mark m)

-- the kinds in either set
infixl 6 ◌∪◌
abbrev pub ◌∪◌ : TokenKinds → TokenKinds → TokenKinds
(j ∪ k) x = cond (j x) true (k x)

-- the set if the test passes, else no kind
abbrev pub where_so : Bool → TokenKinds → TokenKinds
where_so b k x = cond b (k x) false

-- what an expression begins with
abbrev pub expression_heads : TokenKinds
expression_heads = only_kind names ∪ only_kind numbers ∪ only_kind strings ∪ only_mark Not ∪ only_mark Tilde ∪ only_mark Plus ∪ only_mark Minus ∪ only_mark True ∪ only_mark False ∪ only_mark Null ∪ only_mark Open

-- what can continue an expression: a mark that binds, and a string, which follows the name of its
-- type
abbrev pub binding_marks : TokenKinds
binding_marks (of_mark g) = cond (strength g == 0) false true
binding_marks names = false
binding_marks numbers = false
binding_marks strings = false

abbrev pub expression_continues : TokenKinds
expression_continues = binding_marks ∪ only_kind strings

-- all kinds
abbrev pub kinds : List TokenKind
kinds = names ∷ numbers ∷ strings ∷ map of_mark (Dot ∷ (reserved_words ++ sign_marks))

abbrev pub all_kinds : TokenKinds → List TokenKind → Bool
all_kinds test [] = true
all_kinds test (k ∷ ks) = cond (test k) (all_kinds test ks) false

-- no kind is in both sets
abbrev pub apart : TokenKinds → TokenKinds → Bool
apart j k = all_kinds (λ x. cond (j x) (cond (k x) false true) true) kinds

-- each kind of the first set is in the second
abbrev pub kinds_in : TokenKinds → TokenKinds → Bool
kinds_in j k = all_kinds (λ x. cond (j x) (k x) true) kinds
