use Rattle.std.proofs.Common.{arith}
use Rattle.mob_accept.proofs.Causes.{only_read, none_read}
use Rattle.mob_accept.proofs.text.trees_of.Goals as goal

pub returns-clause-only : goal.returns-clause-only
returns-clause-only c = only_read c.args.bytes.now c.parse.result c.parse.ensures.only

pub returns-clause-refused : goal.returns-clause-refused
returns-clause-refused c = none_read c.args.bytes.now c.parse.result (omega arith) c.parse.ensures.refused
