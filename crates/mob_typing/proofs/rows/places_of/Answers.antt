use Rattle.std.proofs.Common.{◌∙◌, ℕ, sym, arith}
use Rattle.mob_ast.specs.Trees.{RowParts, row_of}
use Rattle.mob_expression.proofs.Lists.{mapped_more, mapped_all}
use Rattle.mob_typing.proofs.rows.places_of.Goals as goal

abbrev place : RowParts → ℕ
place r = r.place

pub loop-row-preserved : goal.loop-row-preserved
loop-row-preserved c = c.loop-row.invariant ∙ mapped_more row_of place c.args.rows.now c.loop-row.row-index c.row-item.result c.loop-row.places c.push.new.self (omega arith) c.row-item.is c.in_ok-push.ensures.pushed

pub returns : goal.returns
returns c = record { places = sym (c.loop-row.invariant ∙ mapped_all row_of place c.args.rows.now c.loop-row.row-index c.loop-row.places c.loop-row-test.false) }
