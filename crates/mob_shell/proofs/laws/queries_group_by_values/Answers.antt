use Rattle.mob_shell.proofs.StoredGroups.{queries_group, typed_queries_group}
use Rattle.mob_shell.proofs.laws.queries_group_by_values.Goals as goal

pub returns : goal.returns
returns c =
    let stored = c.stored_values_are_read.ensures in
    let tell = c.fields_tell_values.ensures.groups in
    record {
      typed = typed_queries_group stored.columns stored.missing tell;
      read = queries_group stored.columns stored.missing tell c.queries_are_typed.ensures.typed;
    }
