use Rattle.std.proofs.Common.{◌≡◌, ◌++◌, drop}
use Rattle.mob_typing.proofs.tables.listed.Given as goal

abbrev pub invariant-loop-index : goal.invariant-loop-index
invariant-loop-index l = l.columns ≡ l.list ++ drop l.index l.columns
