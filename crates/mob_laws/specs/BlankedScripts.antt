-- Scripts whose CREATE INDEX statements are blanked out.
use Rattle.std.specs.Prelude.{ℕ, List, map}
use Rattle.mob_ast.specs.Trees.{StatementParts, empty, create_index}
use Rattle.mob_typed.specs.Statements.{ScriptOut}
use Rattle.mob_accept.specs.Accepts.{HasTrees, IsTypedAs}
use Rattle.mob_laws.specs.IndexScripts.{DifferInIndexStatements}

-- an empty statement for one that makes an index; other statements unchanged
abbrev pub blanked : StatementParts → StatementParts
blanked (create_index name table column) = empty
blanked s = s

-- Take a text whose trees are those of an accepted script, with an empty statement for each CREATE
-- INDEX. It is accepted too, and the scripts differ only in their CREATE INDEX statements. Places
-- are the same in both, as if each CREATE INDEX is overwritten with spaces.
abbrev pub BlankedScriptsAreAccepted : Type 0
BlankedScriptsAreAccepted = (one other : List ℕ) (trees : List StatementParts) (out : ScriptOut) → IsTypedAs one trees out → HasTrees other (map blanked trees)
    → (others : ScriptOut) × IsTypedAs other (map blanked trees) others × DifferInIndexStatements out others
