use Rattle.std.{proofs.Common.{◌≡◌, ◌∙◌, [], ◌∷◌, ◌++◌, map, ap, arith, List}, proofs.lemmas.List.{drop_all, map_push}, proofs.lemmas.Result.{err_from_is_err_and}}
use Rattle.mob_ast.{specs.declared.expression.Expr.{Expr}, specs.Trees.{tree_of, trees_of}}
use Rattle.mob_scope.specs.Scopes.{scope_of}
use Rattle.mob_typed.specs.Trees.{typed_of}
use Rattle.mob_expression.{specs.Expressions.{typed_expression, typed_operands}, proofs.Behind.{entries_made, entry_fails, entry_made}}
use Rattle.mob_expression.proofs.ExpressionSteps.{early_fails, early_settles, operands_fail, all_typed, operands_more, operands_none}
use Rattle.mob_expression.proofs.expression.+expression.Goals as goal

pub type_expr-returns-in_err-done : goal.type_expr-returns-in_err-done
type_expr-returns-in_err-done t c =
    let p = err_from_is_err_and c.from_residual.result c.from_residual.ensures.1 in
    record { typed = rw (p.1, p.2) (early_fails (scope_of c.args.scope.now) c.args.e.now c.args.consts.now c.deref.result.now c.deref.ensures.value c.in_err-done.field-0.0 c.in_err-done.ensures.settled) }

pub type_expr-returns-in-Some : goal.type_expr-returns-in-Some
type_expr-returns-in-Some t c =
    record { typed = early_settles (scope_of c.args.scope.now) c.args.e.now c.args.consts.now c.deref.result.now c.deref.ensures.value c.in_ok-done.field-0 c.in-Some.done c.typed_before_operands.new.consts c.in_ok-done.ensures.settled c.in-Some.is }

pub type_expr-returns-in_err-args : goal.type_expr-returns-in_err-args
type_expr-returns-in_err-args t c =
    let p = err_from_is_err_and c.from_residual-in_err-args.result c.from_residual-in_err-args.ensures.1 in
    record {
      typed = rw (p.1, p.2) (operands_fail (scope_of c.args.scope.now) c.args.e.now c.args.consts.now c.deref.result.now c.deref.ensures.value c.in_ok-done.field-0 c.typed_before_operands.new.consts c.in_ok-done.ensures.settled c.in_default.is
          c.deref-2.result.now c.deref-2.ensures.value c.in_err-args.field-0.0 c.in_err-args.ensures.in_order);
    }

pub type_expr-returns : goal.type_expr-returns
type_expr-returns t c =
    record {
      typed = all_typed (scope_of c.args.scope.now) c.args.e.now c.args.consts.now c.deref.result.now c.deref.ensures.value c.in_ok-done.field-0 c.typed_before_operands.new.consts c.in_ok-done.ensures.settled c.in_default.is
          c.deref-2.result.now c.deref-2.ensures.value c.finished.result (map typed_of c.in_ok-args.args.items) c.type_operands.new.consts c.deref-3.result.now c.deref-3.ensures.value c.in_ok-args.ensures.in_order c.finished.ensures.typed;
    }

pub type_operands-returns-in_err-typed : goal.type_operands-returns-in_err-typed
type_operands-returns-in_err-typed t c =
    let s = scope_of c.args.scope.now in
    let p = err_from_is_err_and c.from_residual.result c.from_residual.ensures.1 in
    record {
      in_order = rw (p.1, p.2) (entry_fails (λ (e : Expr). typed_expression s (tree_of e)) (λ (es : List Expr). typed_operands s (trees_of es)) (operands_more s) (operands_none s) c.args.operands.now c.loop-operand.operand-index
          (map typed_of c.loop-operand.args.items) c.loop-operand.consts _ c.loop-operand.invariant c.operand-item.result (omega arith) c.operand-item.is c.in_err-typed.field-0.0 c.in_err-typed.ensures.typed);
    }

pub type_operands-loop-operand-preserved : goal.type_operands-loop-operand-preserved
type_operands-loop-operand-preserved t c =
    let s = scope_of c.args.scope.now in
    let pushed : map typed_of c.push.new.self.items ≡ map typed_of c.loop-operand.args.items ++ typed_of c.in_ok-typed.typed ∷ [] = ap (map typed_of) c.in_ok-push.ensures.items ∙ map_push typed_of c.loop-operand.args.items c.in_ok-typed.typed in
    entry_made (λ (e : Expr). typed_expression s (tree_of e)) (λ (es : List Expr). typed_operands s (trees_of es)) (operands_more s) (operands_none s) c.args.operands.now c.loop-operand.operand-index
    (map typed_of c.loop-operand.args.items) c.loop-operand.consts _ c.loop-operand.invariant c.operand-item.result (omega arith) c.operand-item.is (typed_of c.in_ok-typed.typed) c.type_expr.new.consts (map typed_of c.push.new.self.items) c.in_ok-typed.ensures.typed pushed

pub type_operands-returns : goal.type_operands-returns
type_operands-returns t c =
    let s = scope_of c.args.scope.now in
    record {
      in_order = entries_made (λ (e : Expr). typed_expression s (tree_of e)) (λ (es : List Expr). typed_operands s (trees_of es)) (operands_more s) (operands_none s) c.args.operands.now c.loop-operand.operand-index
          (map typed_of c.loop-operand.args.items) c.loop-operand.consts _ c.loop-operand.invariant (drop_all c.loop-operand.operand-index c.args.operands.now c.loop-operand-test.false);
    }
