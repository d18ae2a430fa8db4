-- Why a text has no trees, or no types.
use Rattle.std.{specs.Prelude.{◌⊎◌, ◌≢◌, Result, IfOk, IfErr}, proofs.Common.{◌≡◌, refl, inl, inr, ℕ, ◌≤◌, List, length, Ok, Err}}
use Rattle.mob_ast.{specs.declared.statement.Script.{Script}, specs.declared.refusal.Kind.{Kind}, specs.declared.refusal.Kind.TheVariants.{NotUtf8, Lexical, Syntax, TooComplex, NoMemory}}
use Rattle.mob_ast.{specs.declared.refusal.Refusal.{Refusal}, specs.Kinds.{no_memory}, specs.Trees.{StatementParts, script_of}}
use Rattle.mob_parse.{specs.Refusals.{IsCause, IsTreeOf, ParsesToRefusal as HasNoTree}, proofs.Refused.{no_tree}}
use Rattle.mob_typed.{specs.declared.typed.Typed.{Typed}, specs.Statements.{ScriptOut, script_seen}}
use Rattle.mob_typing.specs.Statements.{typed_script, IsTypingRefusal}
use Rattle.mob_accept.specs.Accepts.{HasTrees, IsAccepted, IsAcceptRefusal, script_limit}

-- a refusal of the parser is a failed allocation, or something else
split : (k : Kind) (n p : ℕ) (bytes : List ℕ) → IsCause k bytes (record { kind = k; statement = n; place = p }) → (◌≡◌ {A = Refusal} (record { kind = k; statement = n; place = p }) no_memory) ⊎ (k ≢ NoMemory)
split NoMemory n p bytes h = inl (rw (h.0, h.1) refl)
split NotUtf8 n p bytes h = inr (λ e. cc)
split Lexical n p bytes h = inr (λ e. cc)
split Syntax n p bytes h = inr (λ e. cc)
split TooComplex n p bytes h = inr (λ e. cc)
split _ n p bytes h = absurd h

pub no_script : (bytes : List ℕ) (e : Refusal) → length bytes ≤ script_limit → HasNoTree bytes e → IsAcceptRefusal bytes e
no_script bytes e short cause = elim (split e.kind e.statement e.place bytes cause) [
  | inl none ↦ inl none
  | inr other ↦ inr (
    inr (inl (record { short = short; cause = cause; other = other })),
    λ out h. other (no_tree e.kind bytes e cause h.trees h.script.read.tree h.script.read.light),
  )
]

-- a clause about an answer of the parser, restated with `HasTrees`
pub only_read : (bytes : List ℕ) (r : Result Script Refusal) → IfOk r (λ s. (x : List StatementParts) → IsTreeOf bytes x → x ≡ script_of s) → IfOk r (λ s. (x : List StatementParts) → HasTrees bytes x → x ≡ script_of s)
only_read bytes (Ok s) h = λ x g. h x g.tree
only_read bytes (Err e) h = tt

pub none_read : (bytes : List ℕ) (r : Result Script Refusal) → length bytes ≤ script_limit → IfErr r (HasNoTree bytes) → IfErr r (IsAcceptRefusal bytes)
none_read bytes (Ok s) short h = tt
none_read bytes (Err e) short h = no_script bytes e short h

-- the trees of a text, and that it has no others
pub record IsRead (bytes : List ℕ) (trees : List StatementParts) : Type 0 where
  pub read : HasTrees bytes trees
  pub only : (x : List StatementParts) → HasTrees bytes x → x ≡ trees

pub wrong_name : (bytes : List ℕ) (trees : List StatementParts) → IsRead bytes trees → (e : Refusal) → IsTypingRefusal e (typed_script trees) → IsAcceptRefusal bytes e
wrong_name bytes trees h e wrong = elim wrong [
  | inl none ↦ inl none
  | inr first ↦ inr (
    inr (inr (record { trees = trees; read = h.read; first = first })),
    λ out g. let same = h.only g.trees g.script.read in let typed = g.script.typed in cc,
  )
]

pub only_typed : (bytes : List ℕ) (trees : List StatementParts) (out : ScriptOut) → IsRead bytes trees → typed_script trees ≡ Ok out → (o : ScriptOut) → IsAccepted bytes o → o ≡ out
only_typed bytes trees out h typed o g = let same = h.only g.trees g.script.read in let other = g.script.typed in cc

-- the clauses of typing over these trees, restated for the text
module _ (bytes : List ℕ) (trees : List StatementParts) (h : IsRead bytes trees) where
  pub accepted_typed : (r : Result Typed Refusal) → IfOk r (λ t. typed_script trees ≡ Ok (script_seen t)) → IfOk r (λ t. IsAccepted bytes (script_seen t))
  accepted_typed (Ok t) typed = record { trees = trees; script = record { read = h.read; typed = typed } }
  accepted_typed (Err e) typed = tt

  pub none_else : (r : Result Typed Refusal) → IfOk r (λ t. typed_script trees ≡ Ok (script_seen t)) → IfOk r (λ t. (o : ScriptOut) → IsAccepted bytes o → o ≡ script_seen t)
  none_else (Ok t) typed = only_typed bytes trees (script_seen t) h typed
  none_else (Err e) typed = tt

  pub wrong_typed : (r : Result Typed Refusal) → IfErr r (λ e. IsTypingRefusal e (typed_script trees)) → IfErr r (IsAcceptRefusal bytes)
  wrong_typed (Ok t) wrong = tt
  wrong_typed (Err e) wrong = wrong_name bytes trees h e wrong
