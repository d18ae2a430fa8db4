use Rattle.std.proofs.Common.{arith, sym, subst}
use Rattle.csv.specs.Records.{AllText}
use Rattle.mob_literal.specs.Fields.{field_text}
use Rattle.mob_thin_run.proofs.Zips.{map_more, no_fields, one_field_more}
use Rattle.mob_thin_run.proofs.rows.fields_of.Goals as goal

pub loop-value-init : goal.loop-value-init
loop-value-init c = record { fields = c.new-fields.ensures.empty; utf8 = subst AllText (sym c.new-fields.ensures.empty) no_fields }

pub loop-value-preserved : goal.loop-value-preserved
loop-value-preserved c = record {
  fields = map_more c.args.row.now c.loop-value.value-index c.value-item.result (omega arith) c.value-item.is (field_text c.args.epoch.now) c.loop-value.fields c.push.new.self c.in_ok-field_of.field-0 c.in_ok-push.ensures.pushed c.loop-value.invariant.fields c.in_ok-field_of.ensures.field;
  utf8 = subst AllText (sym c.in_ok-push.ensures.pushed) (one_field_more c.loop-value.fields c.in_ok-field_of.field-0 c.loop-value.invariant.utf8 c.in_ok-field_of.ensures.utf8);
}
