use Rattle.std.proofs.Common.{sym}
use Rattle.mob_scalar.proofs.Padding.{placed}
use Rattle.mob_scalar.proofs.printing.push_part.Goals as goal

pub push_decimals-requires-clause-most : goal.push_decimals-requires-clause-most
push_decimals-requires-clause-most c = (placed c.args.denominator c.in-Some.digits (sym c.in-Some.ensures.value)).most

pub push_decimals-requires-clause-covers : goal.push_decimals-requires-clause-covers
push_decimals-requires-clause-covers c = (placed c.args.denominator c.in-Some.digits (sym c.in-Some.ensures.value)).below
