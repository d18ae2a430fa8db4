-- Each text has one judgement.
use Rattle.std.proofs.Common.{arith, ◌≡◌, refl, subst, inl, inr, ℕ, List, []}
use Rattle.mob_ast.specs.Trees.{StatementParts}
use Rattle.mob_grammar.{specs.Symbols.{PlacedSymbol}, specs.Scripts.{IsScript}, proofs.Statements.{read_script}}
use Rattle.mob_parse.{specs.Refusals.{IsTreeOf}, proofs.Refused.{no_tree, same_tokens}, proofs.Scripts.{script_only}}
use Rattle.mob_typed.specs.Statements.{ScriptOut}
use Rattle.mob_accept.{specs.Accepts.{IsTypedAs}, specs.Outcomes.{HasOneScript, NeverTakenAndRefused}}

-- a list of tokens has one tree: the one that the reader gives
one_tree : (l : List PlacedSymbol) (x y : List StatementParts) → IsScript l x → IsScript l y → x ≡ y
one_tree l x y h k = script_only l y x (read_script.complete l y [] k refl) h

pub one_text : (bytes : List ℕ) (x y : List StatementParts) → IsTreeOf bytes x → IsTreeOf bytes y → x ≡ y
one_text bytes x y h k =
    let tokens = same_tokens bytes h.1.0 k.1.0 h.1.1 k.1.1 in
    one_tree k.1.0 x y (subst (λ (l : List PlacedSymbol). IsScript l x) tokens h.1.2) k.1.2

pub one_typed : (bytes : List ℕ) (x y : List StatementParts) (a b : ScriptOut) → IsTypedAs bytes x a → IsTypedAs bytes y b → (x ≡ y) × (a ≡ b)
one_typed bytes x y a b h k =
    let trees = one_text bytes x y h.read.tree k.read.tree in
    let typed = h.typed in
    let other = k.typed in
    (trees, cc)

pub one_script : HasOneScript
one_script bytes a b h k = (one_typed bytes h.trees k.trees a b h.script k.script).1

pub never_taken_and_refused : NeverTakenAndRefused
never_taken_and_refused bytes out e h (inl k) = let long = k.long in let short = h.script.read.short in absurd (omega arith)
never_taken_and_refused bytes out e h (inr (inl k)) = k.other (no_tree e.kind bytes e k.cause h.trees h.script.read.tree h.script.read.light)
never_taken_and_refused bytes out e h (inr (inr k)) =
    let trees = one_text bytes h.trees k.trees h.script.read.tree k.read.tree in
    let typed = h.script.typed in
    let wrong = k.first in
    absurd cc
