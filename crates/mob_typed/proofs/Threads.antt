-- Typed statements and their parts cross threads.
use denote.Param.Send.{IsSend, IsSync, sendable}
use Rattle.std.proofs.Crossing.{crosses}
use Rattle.mob_ast.proofs.types.SqlType.TheSendSync.{the_field_send as type_send, the_field_sync as type_sync}
use Rattle.mob_operators.proofs.operator.Op.TheSendSync.{the_field_send as op_send, the_field_sync as op_sync}
use Rattle.mob_operators.proofs.aggregate.AggKind.TheSendSync.{the_field_send as kind_send, the_field_sync as kind_sync}
use Rattle.mob_list.{proofs.items.Items.TheSendSync.{the_send as items_send, the_sync as items_sync}, proofs.text.Text.TheSendSync.{the_send as text_send, the_sync as text_sync}}
use Rattle.mob_typed.proofs.typed.TExpr.TheLaws.TheKnot as knot
use Rattle.mob_typed.specs.contracts.typed.TExpr as texpr
use Rattle.mob_typed.specs.contracts.typed.Agg as agg
use Rattle.mob_typed.specs.contracts.typed.TypedSelect as select
use Rattle.mob_typed.specs.contracts.typed.TypedStatement as statement

texpr_send : IsSend texpr.the_row
texpr_send = search (sendable, crosses, knot.crosses, knot.send-TExpr, knot.sync-TExpr, type_send, op_send) depth 60 fits 20000

texpr_sync : IsSync texpr.the_row
texpr_sync = search (sendable, crosses, knot.crosses, knot.send-TExpr, knot.sync-TExpr, type_sync, op_sync) depth 60 fits 20000

agg_send : IsSend agg.the_row
agg_send = search (sendable, crosses, type_send, kind_send) depth 60 fits 20000

agg_sync : IsSync agg.the_row
agg_sync = search (sendable, crosses, type_sync, kind_sync) depth 60 fits 20000

pub select_sync : IsSync select.the_row
select_sync = search (sendable, crosses, texpr_sync, agg_sync, items_sync, text_sync) depth 60 fits 20000

-- the same for a field of another value
pub select_field_send : IsSend (select.the_field).row
select_field_send = search (sendable, crosses, texpr_send, agg_send, items_send, text_send) depth 60 fits 20000

pub select_field_sync : IsSync (select.the_field).row
select_field_sync = search (sendable, crosses, texpr_sync, agg_sync, items_sync, text_sync) depth 60 fits 20000

pub statement_send : IsSend statement.the_row
statement_send = search (select_field_send, items_send, text_send, type_send, sendable, crosses) depth 60 fits 20000

pub statement_sync : IsSync statement.the_row
statement_sync = search (select_field_sync, items_sync, text_sync, type_sync, sendable, crosses) depth 60 fits 20000

pub statement_field_send : IsSend (statement.the_field).row
statement_field_send = search (select_field_send, items_send, text_send, type_send, sendable, crosses) depth 60 fits 20000

pub statement_field_sync : IsSync (statement.the_field).row
statement_field_sync = search (select_field_sync, items_sync, text_sync, type_sync, sendable, crosses) depth 60 fits 20000
