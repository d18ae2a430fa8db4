-- The specification of `clap` for a command in which no option has a rule about another.
use Rattle.std.{proofs.Common.{◌≡◌, subst, true, List}, proofs.lemmas.Bool.{and_parts}}
use Rattle.clap.{specs.Words.{App, Text, IsAmong, fault_of, is_simple, is_simple_and_free}, specs.declared.error.kind.ErrorKind.{ErrorKind}}
use Rattle.mob_arguments.specs.Arguments.{Takes}

pub simple_of : (a : App) → is_simple_and_free a ≡ true → is_simple a ≡ true
simple_of a h = (and_parts _ _ h).0

-- accepted arguments have no fault
pub no_fault : (a : App) (words : List Text) (k : ErrorKind) → IsAmong k (fault_of a words) → Takes a words → ⊥
unfolding Takes
no_fault a words k among taken = subst (λ kinds. IsAmong k kinds) taken among
