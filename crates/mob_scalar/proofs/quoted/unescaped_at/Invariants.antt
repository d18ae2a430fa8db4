use Rattle.std.proofs.Common.{◌≡◌, false, length}
use Rattle.mob_language.proofs.Lists.{with_front}
use Rattle.mob_scalar.specs.Quoted.{unescaped_at}
use Rattle.mob_scalar.proofs.quoted.unescaped_at.Given as goal

-- the bytes read so far, and those still to be read
abbrev pub invariant-loop-rest : goal.invariant-loop-rest
invariant-loop-rest l = with_front l.value.items (unescaped_at l.pending l.rest) ≡ unescaped_at false l.fn.bytes

abbrev pub decreases-loop-rest : goal.decreases-loop-rest
decreases-loop-rest l = length l.rest
