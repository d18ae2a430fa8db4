-- Typing numbers statements as the `;` tokens do: the trees of a text are cut at these tokens, and
-- typing keeps to the trees.
use Rattle.std.{specs.List.{AllByRecursion}, proofs.Common.{◌≡◌, ◌+◌, ◌∙◌, sym, ap, subst, arith, inl, inr, ℕ, List, [], ◌∷◌, ◌++◌, length, take, drop, append_assoc, append-nil, Ok}}
use Rattle.std.proofs.lemmas.List.{take-append-drop}
use Rattle.mob_ast.{specs.declared.refusal.Kind.TheVariants.{Syntax, TooComplex}, specs.declared.refusal.Refusal.{Refusal}, specs.Trees.{StatementParts}}
use Rattle.mob_chars.{specs.declared.token.Token.{Token}, specs.Tokens.{tokens_of}}
use Rattle.mob_grammar.{specs.Symbols.{PlacedSymbol}, specs.Places.{statement_places}, specs.Sites.{statement_sites}, specs.Cuts.{ends_among, StandsBehind, AllStandBehind}}
use Rattle.mob_grammar.proofs.Cuts.{places_are_cut, sites_are_cut}
use Rattle.mob_parse.specs.Refusals.{HasTokens, first_place, IsCause}
use Rattle.mob_lexemes.specs.Lexed.{lexed}
use Rattle.mob_typed.{specs.declared.typed.ConstText.{ConstText}, specs.Statements.{ScriptOut}}
use Rattle.mob_typing.{specs.Names.{NameLists}, proofs.Walk.{Belongs, places_of}}
use Rattle.mob_typing.proofs.WalkedScripts.{AreMade, none_made, one_made, AllSites, script_made, script_made_at, script_stops_inside, operators_stand, typing_refuses_at_sites}
use Rattle.mob_accept.specs.Numbers.{statement_number, AreIn, TreesAreIn, RowsAreIn, TreesAreNumbered, TypingKeepsNumbers, TextIsNumbered, OperatorsAreNumbered, TypingRefusesInside}
use Rattle.mob_accept.{specs.Numbers.{WrongNamesAreAtSites, WrongNamesAreNumbered, WrongTokensAreNumbered}, proofs.Ends.{behind_is, place_behind}, proofs.OnParts.{all_within}}
use Rattle.mob_list.proofs.Each.{each_both, each_on}

module _ (bytes : List ℕ) (ts : List Token) (l : List PlacedSymbol) (are : tokens_of bytes ≡ Ok ts) (is : l ≡ lexed bytes ts) (places : StatementParts → List ℕ) where
  trees_in : (n : ℕ) (ss : List StatementParts) → AllStandBehind places l n ss → TreesAreIn places bytes (n + 1) ss
  trees_in n [] h = tt
  trees_in n (s ∷ ss) h = (each_on (StandsBehind l n) (λ p. statement_number bytes p ≡ n + 1) (λ p b. behind_is bytes ts are l n p is b ∙ omega arith) (places s) h.0, trees_in (n + 1) ss h.1)

pub trees_are_numbered : TreesAreNumbered
trees_are_numbered bytes x (u, (l, (ts, are, is), d)) = (trees_in bytes ts l are is statement_places 0 x (places_are_cut l x d), trees_in bytes ts l are is statement_sites 0 x (sites_are_cut l x d))

module _ (bytes : List ℕ) where
  abbrev IsOwn : ConstText → Type 0
  IsOwn c = c.statement ≡ statement_number bytes c.place

  literals_own : (n : ℕ) (cs : List ConstText) → AllByRecursion (Belongs n) cs → AreIn bytes n (places_of cs) → AllByRecursion IsOwn cs
  literals_own n [] own at = tt
  literals_own n (c ∷ cs) own at = (own.0 ∙ sym at.0, literals_own n cs own.1 at.1)

  -- what the statements from number n on add: literals and rows that are in them
  record Stands (n : ℕ) (before : List ConstText) (out : ScriptOut) : Type 0 where
    new : List ConstText
    is : out.consts ≡ before ++ new
    own : AllByRecursion IsOwn new
    rows : RowsAreIn bytes n out.statements

  script_stands : {At : ℕ → ℕ → Type 0} {n : ℕ} {names : NameLists} {cs : List ConstText} {ss : List StatementParts} {out : ScriptOut} → AreMade At n names cs ss out → TreesAreIn statement_places bytes n ss → Stands n cs out
  script_stands (none_made {cs = cs}) at = record { new = []; is = sym (append-nil cs); own = tt; rows = tt }
  script_stands (one_made {n = n} {cs = cs} adds made others) at =
      let rest = script_stands others at.1 in
      record {
        new = adds.new ++ rest.new;
        is = rest.is ∙ ap (λ x. x ++ rest.new) adds.is ∙ append_assoc cs adds.new rest.new;
        own = each_both IsOwn adds.new rest.new (literals_own n adds.new adds.own (all_within (λ p. statement_number bytes p ≡ n) adds.within at.0)) rest.own;
        rows = (all_within (λ p. statement_number bytes p ≡ n) made.rows at.0, rest.rows);
      }

  -- the sites of the trees are in their statements
  all_sites : (n : ℕ) (ss : List StatementParts) → TreesAreIn statement_sites bytes n ss → AllSites (λ k p. statement_number bytes p ≡ k) n ss
  all_sites n [] at = tt
  all_sites n (s ∷ ss) at = (at.0, all_sites (n + 1) ss at.1)

pub typing_keeps_numbers : TypingKeepsNumbers
typing_keeps_numbers bytes ss out at typed = let h = script_stands bytes (script_made ss out typed) at in record { literals = subst (AllByRecursion (IsOwn bytes)) (sym h.is) h.own; rows = h.rows }

pub typing_refuses_inside : TypingRefusesInside
typing_refuses_inside bytes ss e at wrong = sym (script_stops_inside (λ k p. statement_number bytes p ≡ k) ss (all_sites bytes 1 ss at) e wrong)

pub wrong_names_are_numbered : WrongNamesAreNumbered
wrong_names_are_numbered bytes e h = typing_refuses_inside bytes h.trees e (trees_are_numbered bytes h.trees h.read.tree).1 h.first

pub operators_are_numbered : OperatorsAreNumbered
operators_are_numbered bytes out h =
    operators_stand (script_made_at (λ k p. statement_number bytes p ≡ k) h.trees (all_sites bytes 1 h.trees (trees_are_numbered bytes h.trees h.script.read.tree).1) out h.script.typed)

pub wrong_names_are_at_sites : WrongNamesAreAtSites
wrong_names_are_at_sites bytes e h = (h.trees, h.read.tree, typing_refuses_at_sites h.trees e h.first)

pub text_is_numbered : TextIsNumbered
text_is_numbered bytes out h = typing_keeps_numbers bytes h.trees out (trees_are_numbered bytes h.trees h.script.read.tree).0 h.script.typed

-- a refusal at a place after some tokens that names the number of `;` among them
module _ (bytes : List ℕ) (e : Refusal) where
  names_behind : (l before r : List PlacedSymbol) → HasTokens bytes l → l ≡ before ++ r → e.place ≡ first_place r (length bytes) → e.statement ≡ 1 + ends_among before → e.statement ≡ statement_number bytes e.place
  names_behind l before r (ts, are, is) parts at says = says ∙ sym (place_behind bytes ts are l before r is parts) ∙ ap (statement_number bytes) (sym at)

  syntax_names : IsCause Syntax bytes e → e.statement ≡ statement_number bytes e.place
  syntax_names (u, (l, has, (r, w, at, says, none))) = names_behind l w.before r has w.parts at says

  complex_names : IsCause TooComplex bytes e → e.statement ≡ statement_number bytes e.place
  complex_names (u, (l, has, (n, heavy, begins, at, says))) = names_behind l (take n l) (drop n l) has (sym (take-append-drop n l)) at says

pub wrong_tokens_are_numbered : WrongTokensAreNumbered
wrong_tokens_are_numbered bytes e h (inl syntax) = syntax_names bytes e (subst (λ k. IsCause k bytes e) syntax h.cause)
wrong_tokens_are_numbered bytes e h (inr complex) = complex_names bytes e (subst (λ k. IsCause k bytes e) complex h.cause)
