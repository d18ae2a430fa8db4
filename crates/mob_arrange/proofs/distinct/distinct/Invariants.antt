use Rattle.std.proofs.Common.{◌++◌, List, ℕ, [], map, drop}
use Rattle.mob_literal.specs.Fields.{field_text}
use Rattle.mob_arrange.{specs.Rows.{AreFirst}, specs.TextsSeen.{strings_of}}
use Rattle.mob_arrange.proofs.distinct.distinct.Given as goal

abbrev pub invariant-loop-row : goal.invariant-loop-row
invariant-loop-row l =
    let fields = map (λ row. map (field_text l.epoch) (drop l.keys row)) l.rows in
    (rest : List (List (List ℕ))) → AreFirst (map strings_of l.seen.keys) (drop l.row-index fields) rest → AreFirst [] fields (map strings_of l.seen.keys ++ rest)
