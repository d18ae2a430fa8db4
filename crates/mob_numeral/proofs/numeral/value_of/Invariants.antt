use Rattle.std.{specs.Str.Parse.{digits_value}, proofs.Common.{◌≡◌, take}}
use Rattle.mob_numeral.proofs.numeral.value_of.Given as goal

abbrev pub invariant-loop-c : goal.invariant-loop-c
invariant-loop-c l = l.value ≡ digits_value 10 (take l.c-index l.digits)
