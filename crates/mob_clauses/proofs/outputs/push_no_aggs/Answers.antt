use Rattle.std.proofs.Common.{◌∙◌, sym, arith}
use Rattle.mob_typed.specs.Selects.{output_of}
use Rattle.mob_expression.proofs.Lists.{mapped_more, mapped_all}
use Rattle.mob_clauses.specs.Outputs.{no_agg}
use Rattle.mob_clauses.proofs.outputs.push_no_aggs.Goals as goal

pub loop-column-preserved : goal.loop-column-preserved
loop-column-preserved c = c.loop-column.invariant ∙ mapped_more output_of no_agg c.args.columns.now c.loop-column.column-index c.column-item.result c.loop-column.aggs.items c.push.new.self.items (omega arith) c.column-item.is c.in_ok-push.ensures.items

pub returns : goal.returns
returns c = record { behind = sym (c.loop-column.invariant ∙ mapped_all output_of no_agg c.args.columns.now c.loop-column.column-index c.loop-column.aggs.items c.loop-column-test.false) }
