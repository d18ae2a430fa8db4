use Rattle.std.proofs.Common.{rules}
use Rattle.mob_slice.{specs.Lines.{plane_value_of}, specs.Sides.{operand_of, given_at}}
use Rattle.mob_near.proofs.Answering.{within_by_squares}
use Rattle.mob_near.proofs.wide.ever_within_wide.Goals as goal

pub returns-in-Ok : goal.returns-in-Ok
returns-in-Ok c = record { value = within_by_squares c.args.d.now (given_at plane_value_of (operand_of c.args.a)) (given_at plane_value_of (operand_of c.args.b)) c.in-Ok.square c.ever_comes_within.result (search rules) c.in-Ok.ensures.value c.ever_comes_within.ensures.value }
