use Rattle.std.proofs.Common.{◌≡◌, drop, map}
use Rattle.mob_scope.specs.Names.{entry_from}
use Rattle.mob_clauses.proofs.keys.alias_index.Given as goal

abbrev pub invariant-loop-alias : goal.invariant-loop-alias
invariant-loop-alias l = entry_from 0 (map (λ a. (a.0.now, a.1)) l.aliases) l.name ≡ entry_from l.alias-index (map (λ a. (a.0.now, a.1)) (drop l.alias-index l.aliases)) l.name
