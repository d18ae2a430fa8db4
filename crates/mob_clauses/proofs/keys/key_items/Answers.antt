use Rattle.std.{proofs.Common.{◌∙◌, ◌++◌, ◌∷◌, [], ap, sym, arith}, proofs.lemmas.Result.{err_from_is_err_and}}
use Rattle.mob_ast.specs.Trees.{key_of}
use Rattle.mob_expression.proofs.Lists.{mapped_more, mapped_all}
use Rattle.mob_clauses.{specs.Outputs.{outputs_seen}, specs.Keys.{key_item}, proofs.Pushed.{good, ok_same, still_free}}
use Rattle.mob_clauses.proofs.keys.key_items.Goals as goal

pub loop-key-preserved : goal.loop-key-preserved
loop-key-preserved c =
    let o = outputs_seen c.args.outputs.now in
    c.loop-key.invariant ∙ mapped_more key_of (key_item o) c.args.keys.now c.loop-key.key-index c.key-item.result c.loop-key.items c.push.new.self (omega arith) c.key-item.is
    (c.in_ok-push.ensures.pushed ∙ ap (λ v. c.loop-key.items ++ v ∷ []) (sym (ok_same (key_item o (key_of c.key-item.result)) c.in_ok-item.item c.in_ok-item.ensures.by_alias)))

pub returns-in_err-item : goal.returns-in_err-item
returns-in_err-item c =
    let p = err_from_is_err_and c.from_residual.result c.from_residual.ensures.1 in
    record { in_order = rw (p.1, p.2) (still_free c.in_err-item.field-0.0 _ _ c.in_err-item.ensures.by_alias) }

pub returns : goal.returns
returns c = record { in_order = ap good (c.loop-key.invariant ∙ mapped_all key_of (key_item (outputs_seen c.args.outputs.now)) c.args.keys.now c.loop-key.key-index c.loop-key.items c.loop-key-test.false) }
