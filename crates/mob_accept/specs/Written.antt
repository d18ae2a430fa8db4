-- Accepted texts are in written order: their trees are, and typing keeps the order.
use Rattle.std.specs.Prelude.{◌≡◌, ◌≤◌, ℕ, List, Ok}
use Rattle.mob_ast.specs.Trees.{StatementParts}
use Rattle.mob_grammar.specs.Places.{script_places}
use Rattle.mob_parse.specs.Refusals.{IsTreeOf}
use Rattle.mob_typed.{specs.Statements.{ScriptOut}, specs.Written.{IsWritten, Rises}}
use Rattle.mob_typing.specs.Statements.{typed_script}
use Rattle.mob_accept.specs.Accepts.{IsAccepted}

-- the places of the literals and rows of the trees are sorted
abbrev pub HasRisingPlaces : List StatementParts → Type 0
HasRisingPlaces trees = Rises (λ p q. p ≤ q) (script_places trees)

-- the trees of a text are in written order
abbrev pub TreesRise : Type 0
TreesRise = (bytes : List ℕ) (trees : List StatementParts) → IsTreeOf bytes trees → HasRisingPlaces trees

-- typing keeps written order
abbrev pub TypingKeepsOrder : Type 0
TypingKeepsOrder = (trees : List StatementParts) (out : ScriptOut) → HasRisingPlaces trees → typed_script trees ≡ Ok out → IsWritten out

-- the literals of an accepted script are kept in the order in which they are written, and so are
-- the rows of each INSERT
abbrev pub AreWritten : Type 0
AreWritten = (bytes : List ℕ) (out : ScriptOut) → IsAccepted bytes out → IsWritten out
