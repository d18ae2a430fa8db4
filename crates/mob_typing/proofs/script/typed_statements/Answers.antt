use Rattle.std.{proofs.Common.{◌≡◌, ◌∙◌, ◌+◌, ◌++◌, ◌∷◌, [], ap, arith, drop, map, sym}, proofs.lemmas.List.{drop_all, map_push}}
use Rattle.mob_ast.specs.Trees.{statement_of}
use Rattle.mob_typed.specs.Statements.{statement_seen}
use Rattle.mob_typing.{specs.Statements.{made_seen, typed_from}, proofs.ScriptSteps.{behind_script, script_done, statement_made, statement_stops}}
use Rattle.mob_typing.proofs.script.typed_statements.Goals as goal

pub loop-statement-preserved : goal.loop-statement-preserved
loop-statement-preserved c =
    let done = map statement_seen c.loop-statement.done in
    let pushed : map statement_seen c.push.new.self ≡ done ++ statement_seen c.in-Ok.typed ∷ [] = ap (map statement_seen) c.in_ok-push-in-Ok.ensures.pushed ∙ map_push statement_seen c.loop-statement.done c.in-Ok.typed in
    statement_made c.loop-statement.number c.loop-statement.names c.args.statements.now c.loop-statement.statement-index done c.loop-statement.consts _ c.loop-statement.invariant
    c.statement-item.result (omega arith) c.statement-item.is (made_seen c.type_statement.new.names c.in-Ok.typed) c.type_statement.new.consts (map statement_seen c.push.new.self) c.in-Ok.ensures.typed pushed
    ∙ ap (λ n. behind_script (map statement_seen c.push.new.self) (typed_from n c.type_statement.new.names (map statement_of (drop (c.loop-statement.statement-index + 1) c.args.statements.now)) c.type_statement.new.consts)) (sym c.in-Some.ensures.1)

pub returns-in-Err-clause-first_refusal : goal.returns-in-Err-clause-first_refusal
returns-in-Err-clause-first_refusal c =
    statement_stops c.loop-statement.number c.loop-statement.names c.args.statements.now c.loop-statement.statement-index (map statement_seen c.loop-statement.done) c.loop-statement.consts _
    c.loop-statement.invariant
    c.statement-item.result (omega arith) c.statement-item.is c.in-Err.fault c.refusal_of.result c.refusal_of.ensures.placed c.in-Err.ensures.typed

pub returns-clause-typed : goal.returns-clause-typed
returns-clause-typed c =
    let items = c.args.statements.now in
    script_done c.loop-statement.number c.loop-statement.names items c.loop-statement.statement-index (map statement_seen c.loop-statement.done) c.loop-statement.consts _
    c.loop-statement.invariant (drop_all c.loop-statement.statement-index items c.loop-statement-test.false)
