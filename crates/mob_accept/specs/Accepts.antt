-- Which texts are accepted as scripts, and why a text is refused for its own content, before any
-- literal or file is read.
use Rattle.std.specs.Prelude.{◌≡◌, ◌≢◌, ◌⊎◌, ◌<◌, ◌≤◌, ℕ, List, length, Ok, Err}
use Rattle.mob_ast.{specs.declared.refusal.Kind.TheVariants.{NoMemory, Limit}, specs.declared.refusal.Refusal.{Refusal}, specs.Kinds.{no_memory}, specs.Trees.{StatementParts}}
use Rattle.mob_parse.specs.Refusals.{IsTreeOf, IsLightText, ParsesToRefusal as HasNoTree}
use Rattle.mob_typed.specs.Statements.{ScriptOut}
use Rattle.mob_typing.specs.Statements.{typed_script}

-- the greatest length of a script in bytes
abbrev pub script_limit : ℕ
script_limit = 4194304

-- the text is not too long, these are its trees, and no expression is too complex
pub record HasTrees (bytes : List ℕ) (trees : List StatementParts) : Type 0 where
  pub short : length bytes ≤ script_limit
  pub tree : IsTreeOf bytes trees
  pub light : IsLightText bytes

-- the text has these trees, and this is their typed script
pub record IsTypedAs (bytes : List ℕ) (trees : List StatementParts) (out : ScriptOut) : Type 0 where
  pub read : HasTrees bytes trees
  pub typed : typed_script trees ≡ Ok out

-- the text is accepted, and this is its typed script
pub record IsAccepted (bytes : List ℕ) (out : ScriptOut) : Type 0 where
  pub trees : List StatementParts
  pub script : IsTypedAs bytes trees out

-- the text is longer than the limit
pub record IsTooLong (bytes : List ℕ) (e : Refusal) : Type 0 where
  pub long : script_limit < length bytes
  pub says : e ≡ record { kind = Limit; statement = 1; place = script_limit }

-- the text is not a script of the grammar, for this cause
pub record IsNoScript (bytes : List ℕ) (e : Refusal) : Type 0 where
  pub short : length bytes ≤ script_limit
  pub cause : HasNoTree bytes e
  pub other : e.kind ≢ NoMemory

-- a name or a type is wrong, and this is the first such refusal
pub record IsWrongName (bytes : List ℕ) (e : Refusal) : Type 0 where
  pub trees : List StatementParts
  pub read : HasTrees bytes trees
  pub first : typed_script trees ≡ Err e

-- why a text is refused: by its length, its characters, tokens and grammar, or its names and types
abbrev pub IsTextRefused : List ℕ → Refusal → Type 0
IsTextRefused bytes e = IsTooLong bytes e ⊎ (IsNoScript bytes e ⊎ IsWrongName bytes e)

-- the text is not accepted
abbrev pub IsNotTaken : List ℕ → Type 0
IsNotTaken bytes = (out : ScriptOut) → IsAccepted bytes out → ⊥

-- a refusal: a failed allocation, or the cause for which the text is not accepted
abbrev pub IsAcceptRefusal : List ℕ → Refusal → Type 0
IsAcceptRefusal bytes e = (e ≡ no_memory) ⊎ (IsTextRefused bytes e × IsNotTaken bytes)
