use Rattle.std.{specs.Prelude.{option_map}, proofs.Common.{◌≡◌, ◌∙◌, ◌+◌, ◌++◌, ◌∷◌, [], ap, sym, arith, map, drop}, proofs.lemmas.List.{drop_all, map_push}}
use Rattle.std.proofs.lemmas.Result.{err_from_is_err_and}
use Rattle.mob_ast.specs.Trees.{from_of}
use Rattle.mob_typed.specs.Trees.{typed_of}
use Rattle.mob_scope.specs.Scopes.{scope_of}
use Rattle.mob_expression.proofs.Behind.{behind}
use Rattle.mob_clauses.{specs.Conditions.{joins_from}, proofs.Joined.{join_fails, join_made, joins_made}}
use Rattle.mob_clauses.proofs.conditions.joins_behind.Goals as goal

pub returns-in_err-on : goal.returns-in_err-on
returns-in_err-on c =
    let p = err_from_is_err_and c.from_residual.result c.from_residual.ensures.1 in
    record {
      in_order = rw (p.1, p.2) (join_fails (scope_of c.args.scope.now) c.loop-entry.start c.loop-entry.place c.args.others.now c.loop-entry.entry-index (map (option_map typed_of) c.loop-entry.joins) c.loop-entry.consts _
          c.loop-entry.invariant c.entry-item.result (omega arith) c.entry-item.is c.source_start-start.result c.source_start-start.ensures.begins c.in_err-on.field-0.0 c.in_err-on.ensures.typed);
    }

pub loop-entry-preserved : goal.loop-entry-preserved
loop-entry-preserved c =
    let done = map (option_map typed_of) c.loop-entry.joins in
    let pushed : map (option_map typed_of) c.push.new.self ≡ done ++ option_map typed_of c.in_ok-on.on ∷ [] = ap (map (option_map typed_of)) c.in_ok-push.ensures.pushed ∙ map_push (option_map typed_of) c.loop-entry.joins c.in_ok-on.on in
    join_made (scope_of c.args.scope.now) c.loop-entry.start c.loop-entry.place c.args.others.now c.loop-entry.entry-index done c.loop-entry.consts _
    c.loop-entry.invariant c.entry-item.result (omega arith) c.entry-item.is c.source_start-start.result c.source_start-start.ensures.begins (option_map typed_of c.in_ok-on.on) c.typed_on.new.consts (map (option_map typed_of) c.push.new.self) c.in_ok-on.ensures.typed pushed
    ∙ ap (λ n. behind (map (option_map typed_of) c.push.new.self) (joins_from (scope_of c.args.scope.now) c.source_start-start.result n (map from_of (drop (c.loop-entry.entry-index + 1) c.args.others.now))) c.typed_on.new.consts) (sym c.in-Some.ensures.1)

pub returns : goal.returns
returns c = record {
  in_order = joins_made (scope_of c.args.scope.now) c.loop-entry.start c.loop-entry.place c.args.others.now c.loop-entry.entry-index (map (option_map typed_of) c.loop-entry.joins) c.loop-entry.consts _
      c.loop-entry.invariant (drop_all c.loop-entry.entry-index c.args.others.now c.loop-entry-test.false);
}
