use denote.Param.Send.{sendable}
use Rattle.std.proofs.Crossing.{crosses}
use Rattle.mob_list.proofs.items.Items.TheSendSync.{the_send as items_send, the_sync as items_sync}
use Rattle.mob_typed.proofs.typed.ConstText.TheSendSync.{the_field_send as const_send, the_field_sync as const_sync}
use Rattle.mob_typed.proofs.Threads.{statement_send, statement_sync, statement_field_send, statement_field_sync}
use Rattle.mob_typed.proofs.laws.typed_scripts_cross_threads.Goals as goal

pub crosses_threads-requires-send-T : goal.crosses_threads-requires-send-T
crosses_threads-requires-send-T c κs = search (statement_field_send, const_send, items_send, sendable, crosses) depth 60 fits 20000

pub crosses_threads-requires-sync-T : goal.crosses_threads-requires-sync-T
crosses_threads-requires-sync-T c κs = search (statement_field_sync, const_sync, items_sync, sendable, crosses) depth 60 fits 20000

pub crosses_threads-requires-2-send-T : goal.crosses_threads-requires-2-send-T
crosses_threads-requires-2-send-T c κs = search (statement_send, sendable) depth 60 fits 20000

pub crosses_threads-requires-2-sync-T : goal.crosses_threads-requires-2-sync-T
crosses_threads-requires-2-sync-T c κs = search (statement_sync, sendable) depth 60 fits 20000
