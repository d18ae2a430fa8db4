use Rattle.std.{proofs.Common.{◌∙◌, ap, arith, map}, proofs.lemmas.List.{map_push}, proofs.lemmas.Result.{err_from_is_err_and}}
use Rattle.mob_typed.specs.Trees.{typed_of}
use Rattle.mob_scope.specs.Scopes.{scope_of}
use Rattle.mob_clauses.proofs.Listed.{group_fails, group_made, groups_made}
use Rattle.mob_clauses.proofs.keys.typed_groups.Goals as goal

pub returns-in_err-value : goal.returns-in_err-value
returns-in_err-value c =
    let p = err_from_is_err_and c.from_residual.result c.from_residual.ensures.1 in
    record {
      in_order = rw (p.1, p.2) (group_fails (scope_of c.args.scope.now) c.args.groups.now c.loop-group.group-index (map typed_of c.loop-group.done) _ c.loop-group.invariant c.group-item.result (omega arith) c.group-item.is c.in_err-value.field-0.0 c.in_err-value.ensures.typed);
    }

pub loop-group-preserved : goal.loop-group-preserved
loop-group-preserved c =
    group_made (scope_of c.args.scope.now) c.args.groups.now c.loop-group.group-index (map typed_of c.loop-group.done) _ c.loop-group.invariant c.group-item.result (omega arith) c.group-item.is (typed_of c.in_ok-value.value) (map typed_of c.push.new.self)
    c.in_ok-value.ensures.typed (ap (map typed_of) c.in_ok-push.ensures.pushed ∙ map_push typed_of c.loop-group.done c.in_ok-value.value)

pub returns : goal.returns
returns c = record { in_order = groups_made (scope_of c.args.scope.now) c.args.groups.now c.loop-group.group-index (map typed_of c.loop-group.done) _ c.loop-group.invariant c.loop-group-test.false }
