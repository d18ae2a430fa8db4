use Rattle.std.proofs.Common.{◌≡◌, take, map}
use Rattle.csv.specs.Records.{AllText}
use Rattle.mob_literal.specs.Fields.{field_text}
use Rattle.mob_thin_run.proofs.rows.fields_of.Given as goal

abbrev pub invariant-loop-value : goal.invariant-loop-value
invariant-loop-value l = record {
  fields : l.fields ≡ map (field_text l.epoch) (take l.value-index l.row);
  utf8 : AllText l.fields;
}
