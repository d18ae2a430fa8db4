-- Each text has one judgement.
use Rattle.std.specs.Prelude.{◌≡◌, ℕ, List}
use Rattle.mob_ast.specs.declared.refusal.Refusal.{Refusal}
use Rattle.mob_typed.specs.Statements.{ScriptOut}
use Rattle.mob_accept.specs.Accepts.{IsAccepted, IsTextRefused}

-- an accepted text has one typed script
abbrev pub HasOneScript : Type 0
HasOneScript = (bytes : List ℕ) (a b : ScriptOut) → IsAccepted bytes a → IsAccepted bytes b → a ≡ b

-- no text is both accepted and refused
abbrev pub NeverTakenAndRefused : Type 0
NeverTakenAndRefused = (bytes : List ℕ) (out : ScriptOut) (e : Refusal) → IsAccepted bytes out → IsTextRefused bytes e → ⊥

-- a text that is refused for its own content has one refusal
abbrev pub HasOneTextRefusal : Type 0
HasOneTextRefusal = (bytes : List ℕ) (d e : Refusal) → IsTextRefused bytes d → IsTextRefused bytes e → d ≡ e
