use Rattle.mob_typed.specs.Trees.{typed_of}
use Rattle.mob_literal.specs.Fields.{field_text}
use Rattle.mob_eval.specs.Views.{scene_of}
use Rattle.mob_tail.{specs.Groups.{column_on}, proofs.TupleSteps.{mapped_more}}
use Rattle.mob_tail.proofs.grouping.fields_on.Goals as goal

pub loop-column-preserved : goal.loop-column-preserved
loop-column-preserved c =
    mapped_more typed_of (λ g. field_text c.args.view.now.terms.now.epoch (column_on (scene_of c.args.view.now) g)) c.args.columns.now c.loop-column.column-index c.column-item.result c.loop-column-test.true c.column-item.is
    c.loop-column.fields.items c.push.new.self.items c.in_ok-field_on.field-0 c.loop-column.invariant c.in_ok-field_on.ensures.field c.in_ok-push.ensures.items
