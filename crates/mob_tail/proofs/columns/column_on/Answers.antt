use Rattle.std.proofs.Common.{sym, ap, ◌∙◌}
use Rattle.mob_value.specs.Held.{held}
use Rattle.mob_eval.specs.Views.{scene_of}
use Rattle.mob_tail.{specs.Groups.{is_bare_column}, proofs.ColumnValues.{no_operands, never_fails, some_operands}}
use Rattle.mob_tail.proofs.columns.column_on.Goals as goal

pub returns-then-not-is_bare : goal.returns-then-not-is_bare
returns-then-not-is_bare c = record { value = some_operands (scene_of c.args.view.now) c.args.e.now (sym (c.if-not-is_bare.ensures.bare ∙ ap is_bare_column c.as_slice.ensures.value)) }

pub unreachable-requires : goal.unreachable-requires
unreachable-requires c = never_fails (scene_of c.args.view.now) c.args.e.now c.in-Err-Because.field-0-0 (sym (c.if-not-is_bare.ensures.bare ∙ ap is_bare_column c.as_slice.ensures.value)) (rw c.in-Err-Because.field-0-is at c.in-Err-Because.ensures.fault)

pub returns-in-Ok : goal.returns-in-Ok
returns-in-Ok c = record { value = no_operands (scene_of c.args.view.now) c.args.e.now (held c.in-Ok.held) (sym (c.if-not-is_bare.ensures.bare ∙ ap is_bare_column c.as_slice.ensures.value)) c.in-Ok.ensures.value }
