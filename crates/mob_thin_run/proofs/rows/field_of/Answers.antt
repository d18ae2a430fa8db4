use Rattle.std.{specs.Prelude.{IsUtf8}, proofs.Common.{sym, subst}, proofs.lemmas.Str.{IsUtf8-string_bytes}}
use Rattle.mob_thin_run.proofs.rows.field_of.Goals as goal

pub returns-clause-utf8 : goal.returns-clause-utf8
returns-clause-utf8 c = subst IsUtf8 (sym c.from_string.ensures.same) (IsUtf8-string_bytes c.write_field.new.into)
