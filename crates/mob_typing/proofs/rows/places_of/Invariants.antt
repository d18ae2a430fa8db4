use Rattle.std.proofs.Common.{◌≡◌, ◌++◌, drop, map}
use Rattle.mob_ast.specs.Trees.{row_of}
use Rattle.mob_typing.proofs.rows.places_of.Given as goal

abbrev pub invariant-loop-row : goal.invariant-loop-row
invariant-loop-row l = map (λ r. r.place) (map row_of l.rows) ≡ l.places ++ map (λ r. r.place) (map row_of (drop l.row-index l.rows))
