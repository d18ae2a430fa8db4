use Rattle.std.{proofs.Common.{◌≡◌, ◌∙◌, ◌++◌, ◌∷◌, [], ap, arith, map, refl, List}, proofs.lemmas.List.{drop_all, map_push}, proofs.lemmas.Result.{err_from_is_err_and}}
use Rattle.mob_ast.{specs.declared.statement.Key.{Key}, specs.Trees.{key_of}}
use Rattle.mob_typed.specs.Selects.{key_seen}
use Rattle.mob_scope.specs.Scopes.{scope_of}
use Rattle.mob_expression.proofs.Behind.{entries_made, entry_fails, entry_made}
use Rattle.mob_clauses.{specs.Outputs.{outputs_seen}, specs.Keys.{typed_key, typed_keys}}
use Rattle.mob_clauses.proofs.keys.typed_keys.Goals as goal

pub returns-in_err-value : goal.returns-in_err-value
returns-in_err-value c =
    let s = scope_of c.args.scope.now in
    let g = c.args.groups.now in
    let o = outputs_seen c.args.outputs.now in
    let p = err_from_is_err_and c.from_residual.result c.from_residual.ensures.1 in
    record {
      in_order = rw (p.1, p.2) (entry_fails (λ (k : Key). typed_key s g o (key_of k)) (λ (ks : List Key). typed_keys s g o (map key_of ks)) (λ k ks cs. refl) (λ cs. refl) c.args.keys.now c.loop-key.key-index
          (map key_seen c.loop-key.done) c.loop-key.consts _ c.loop-key.invariant c.key-item.result (omega arith) c.key-item.is c.in_err-value.field-0.0 c.in_err-value.ensures.judged);
    }

pub loop-key-preserved : goal.loop-key-preserved
loop-key-preserved c =
    let s = scope_of c.args.scope.now in
    let g = c.args.groups.now in
    let o = outputs_seen c.args.outputs.now in
    let pushed : map key_seen c.push.new.self ≡ map key_seen c.loop-key.done ++ key_seen c.in_ok-value.value ∷ [] = ap (map key_seen) c.in_ok-push.ensures.pushed ∙ map_push key_seen c.loop-key.done c.in_ok-value.value in
    entry_made (λ (k : Key). typed_key s g o (key_of k)) (λ (ks : List Key). typed_keys s g o (map key_of ks)) (λ k ks cs. refl) (λ cs. refl) c.args.keys.now c.loop-key.key-index
    (map key_seen c.loop-key.done) c.loop-key.consts _ c.loop-key.invariant c.key-item.result (omega arith) c.key-item.is (key_seen c.in_ok-value.value) c.typed_key.new.consts (map key_seen c.push.new.self) c.in_ok-value.ensures.judged pushed

pub returns : goal.returns
returns c =
    let s = scope_of c.args.scope.now in
    let g = c.args.groups.now in
    let o = outputs_seen c.args.outputs.now in
    record {
      in_order = entries_made (λ (k : Key). typed_key s g o (key_of k)) (λ (ks : List Key). typed_keys s g o (map key_of ks)) (λ k ks cs. refl) (λ cs. refl) c.args.keys.now c.loop-key.key-index
          (map key_seen c.loop-key.done) c.loop-key.consts _ c.loop-key.invariant (drop_all c.loop-key.key-index c.args.keys.now c.loop-key-test.false);
    }
