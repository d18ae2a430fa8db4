-- Constants that are one token: a number, a string, TRUE, FALSE or NULL.
use Rattle.std.specs.Prelude.{ℕ, List, [], ◌∷◌, Option, Some, None, Ok, Err}
use Rattle.mob_ast.{specs.declared.expression.Node.{Node}, specs.Trees.{Tree}}
use Rattle.mob_grammar.{specs.declared.mark.Mark.{Mark}, specs.declared.mark.Mark.TheVariants.{Null, True, False}, specs.Symbols.{Symbol, fixed, name, number, quoted, PlacedSymbol, leaf}}
use Rattle.mob_grammar.specs.Reading.{Answer, TokenReader}
use Rattle.mob_ast.specs.declared.expression.Node.TheVariants as node

abbrev pub constant_mark : Mark → Option Node
constant_mark True = Some node.True
constant_mark False = Some node.False
constant_mark Null = Some node.Null
constant_mark g = None

-- the node of a token that is a constant
abbrev pub constant_node : Symbol → Option Node
constant_node (fixed g) = constant_mark g
constant_node (name n) = None
constant_node (number n) = Some (node.Number n)
constant_node (quoted s) = Some (node.Str s)

-- the leaf of a node, and the remaining tokens; without a node the first token does not fit
abbrev pub leaf_or_stop : Option Node → ℕ → List PlacedSymbol → List PlacedSymbol → Answer Tree
leaf_or_stop (Some n) p whole behind = Ok (leaf n p, behind)
leaf_or_stop None p whole behind = Err whole

-- a constant at the first token
unfoldable pub constant_leaf_at : TokenReader Tree
constant_leaf_at [] = Err []
constant_leaf_at (t ∷ l) = leaf_or_stop (constant_node t.symbol) t.place (t ∷ l) l
