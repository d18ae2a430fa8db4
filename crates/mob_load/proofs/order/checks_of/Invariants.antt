use Rattle.std.proofs.Common.{◌≡◌, ◌++◌, drop, map}
use Rattle.mob_typed.specs.Statements.{script_seen, statement_seen}
use Rattle.mob_load.specs.Checks.{check_seen, checkpoints_from, in_order, checks_of}
use Rattle.mob_load.proofs.order.checks_of.Given as goal

abbrev pub invariant-loop-statement : goal.invariant-loop-statement
invariant-loop-statement l = map check_seen l.done.items ++ in_order (checkpoints_from l.number (map statement_seen (drop l.statement-index l.statement-items))) (drop l.put l.literals)
    ≡ checks_of (script_seen l.typed)
