use Rattle.std.proofs.Common.{◌≡◌, ◌∙◌, ◌++◌, ◌∷◌, [], ℕ, List, sym, ap, arith}
use Rattle.mob_scope.specs.Scopes.{ScopeTableParts, source_of}
use Rattle.mob_expression.proofs.Lists.{mapped_more, mapped_all}
use Rattle.mob_clauses.specs.declared.clauses.Tables.{Tables}
use Rattle.mob_clauses.proofs.tables.scope_tables.Goals as goal

abbrev number : List ℕ × ScopeTableParts → ℕ
number t = t.1.table

abbrev name : List ℕ × ScopeTableParts → List ℕ
name t = t.0

pub loop-source-preserved : goal.loop-source-preserved
loop-source-preserved c = record {
  numbers = c.loop-source.invariant.numbers ∙ mapped_more source_of number c.args.sources.now c.loop-source.source-index c.source-item.result c.loop-source.numbers c.push.new.self (omega arith) c.source-item.is c.in_ok-push.ensures.pushed;
  names = c.loop-source.invariant.names ∙ mapped_more source_of name c.args.sources.now c.loop-source.source-index c.source-item.result c.loop-source.names c.push-in-loop-source.new.self (omega arith) c.source-item.is
      (c.in_ok-push-2.ensures.pushed ∙ ap (λ t. c.loop-source.names ++ t ∷ []) c.in_ok-from_str.ensures.same);
}

abbrev tables : List ℕ → List (List ℕ) → Tables
tables ns ts = record { numbers = ns; names = ts }

same_tables : (ns ms : List ℕ) (ts us : List (List ℕ)) → ns ≡ ms → ts ≡ us → tables ms us ≡ tables ns ts
same_tables ns ms ts us n t = ap (λ k. tables k us) (sym n) ∙ ap (tables ns) (sym t)

pub returns : goal.returns
returns c = record {
  tables = same_tables _ _ _ _ (c.loop-source.invariant.numbers ∙ mapped_all source_of number c.args.sources.now c.loop-source.source-index c.loop-source.numbers c.loop-source-test.false)
      (c.loop-source.invariant.names ∙ mapped_all source_of name c.args.sources.now c.loop-source.source-index c.loop-source.names c.loop-source-test.false);
}
