use Rattle.std.{proofs.Common.{arith}, proofs.lemmas.List.{drop_all}, proofs.lemmas.Result.{err_from_is_err_and}}
use Rattle.mob_scope.specs.Scopes.{scope_of}
use Rattle.mob_clauses.{specs.Outputs.{outputs_seen}, proofs.Listed.{item_fails, item_made, items_made}}
use Rattle.mob_clauses.proofs.outputs.outputs_of.Goals as goal

pub loop-item-preserved : goal.loop-item-preserved
loop-item-preserved c =
    item_made (scope_of c.args.scope.now) c.args.groups.now c.args.items.now c.loop-item.item-index (outputs_seen c.loop-item.outputs) c.loop-item.consts _ c.loop-item.invariant c.item-item.result (omega arith) c.item-item.is
    (outputs_seen c.push_item.new.outputs) c.push_item.new.consts c.in_ok-push_item.ensures.typed

pub returns-in_err-push_item : goal.returns-in_err-push_item
returns-in_err-push_item c =
    let p = err_from_is_err_and c.from_residual.result c.from_residual.ensures.1 in
    record {
      listed = rw (p.1, p.2) (item_fails (scope_of c.args.scope.now) c.args.groups.now c.args.items.now c.loop-item.item-index (outputs_seen c.loop-item.outputs) c.loop-item.consts _ c.loop-item.invariant c.item-item.result (omega arith) c.item-item.is
          c.in_err-push_item.field-0.0 c.in_err-push_item.ensures.typed);
    }

pub returns : goal.returns
returns c = record {
  listed = items_made (scope_of c.args.scope.now) c.args.groups.now c.args.items.now c.loop-item.item-index (outputs_seen c.loop-item.outputs) c.loop-item.consts _ c.loop-item.invariant (drop_all c.loop-item.item-index c.args.items.now c.loop-item-test.false);
}
