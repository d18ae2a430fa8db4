use Rattle.std.proofs.Common.{◌≡◌, ◌∙◌, ◌++◌, ◌∷◌, [], ap₂}
use Rattle.mob_typed.specs.Selects.{select_seen}
use Rattle.mob_tail.{specs.Groups.{group_fields}, proofs.TupleSteps.{map_more}}
use Rattle.mob_tail.proofs.grouping.keys_of.Goals as goal

pub loop-tuple-preserved : goal.loop-tuple-preserved
loop-tuple-preserved c =
    let at = c.loop-tuple in
    let tuple = c.tuple-item.result in
    let f = group_fields (select_seen c.args.select.now) c.args.store.now c.args.terms.now in
    let made : c.in_ok-fields_on.field-0 ≡ f tuple = rw (c.as_slice.ensures.same, c.as_slice-in-loop-tuple.ensures.same, c.as_slice-in-loop-tuple-2.ensures.same) at c.in_ok-fields_on.ensures.fields in
    c.in_ok-push.ensures.items ∙ ap₂ (λ a b. a ++ b ∷ []) at.invariant made ∙ map_more f c.args.kept.now at.tuple-index tuple c.loop-tuple-test.true c.tuple-item.is
