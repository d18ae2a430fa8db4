use Rattle.std.proofs.Common.{◌≡◌, ◌++◌, string_bytes}
use Rattle.mob_scalar.specs.Quoted.{escaped}
use Rattle.mob_scalar.proofs.quoted.push_quoted.Given as goal

-- the text written so far, and the text still to be written
abbrev pub invariant-loop-c : goal.invariant-loop-c
invariant-loop-c l = string_bytes l.into ++ escaped l.c-iterator.rest.now ≡ string_bytes l.initial.into ++ escaped l.fn.value
