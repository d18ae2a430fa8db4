use Rattle.std.proofs.Common.{◌≡◌, drop}
use Rattle.mob_lexemes.specs.Lexed.{mark_with}
use Rattle.mob_lexemes.proofs.classify.mark_with.Given as goal

abbrev pub invariant-loop-mark : goal.invariant-loop-mark
invariant-loop-mark l = mark_with (drop l.mark-index l.marks) l.text ≡ mark_with l.marks l.text
