use Rattle.std.proofs.Common.{◌≡◌, drop}
use Rattle.mob_language.specs.Readers.{any_case_at}
use Rattle.mob_numeral.proofs.words.any_case_at.Given as goal

-- the remaining letters are still to be read
abbrev pub invariant-loop-letter : goal.invariant-loop-letter
invariant-loop-letter l = any_case_at (drop l.letter-index l.word) l.rest ≡ any_case_at l.word l.fn.bytes
