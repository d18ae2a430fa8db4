use Rattle.std.{proofs.Common.{◌≡◌, ◌∙◌, ◌++◌, ◌∷◌, [], ℕ, List, Option, Result, Ok, ap, sym, subst, arith, refl, map}, proofs.lemmas.List.{map_push}, proofs.lemmas.Result.{err_from_is_err_and}}
use Rattle.mob_ast.{specs.declared.types.Word.{Word}, specs.declared.statement.FromTable.{FromTable}, specs.Trees.{from_of}}
use Rattle.mob_typed.specs.Statements.{ColumnList}
use Rattle.mob_scope.{specs.declared.scope.ScopeTable.{ScopeTable}, specs.Answers.{StopsTyping}, specs.declared.fault.Mistake.{Mistake}, specs.Scopes.{ScopeTableParts, source_of, sources_of}}
use Rattle.mob_typing.{specs.Selects.{from_table, from_tables}, proofs.Folded.{step_fails, step_made, steps_made}}
use Rattle.mob_typing.proofs.from.from_tables.Goals as goal

abbrev Sources : Type 0
Sources = List (List ℕ × ScopeTableParts)

abbrev given : Sources → Result Sources Mistake
given s = Ok s

pushed : (ts : List (List ℕ × ColumnList)) (ds items after : List ScopeTable) (s : ScopeTable) (table : Word) (alias : Option Word) → ds ≡ items
    → from_table ts (sources_of ds) table alias ≡ given (sources_of ds ++ source_of s ∷ []) → after ≡ items ++ s ∷ [] → from_table ts (sources_of items) table alias ≡ given (sources_of after)
pushed ts ds items after s table alias same h last =
    ap (λ ss. from_table ts (sources_of ss) table alias) (sym same) ∙ h ∙ ap (λ ss. given (sources_of ss ++ source_of s ∷ [])) same ∙ ap given (sym (ap sources_of last ∙ map_push source_of items s))

module _ (ts : List (List ℕ × ColumnList)) where
  abbrev step : Sources → FromTable → Result Sources Mistake
  step o f = from_table ts o f.table f.alias

  abbrev steps : Sources → List FromTable → Result Sources Mistake
  steps o fs = from_tables ts o (map from_of fs)

pub returns-in_err-source : goal.returns-in_err-source
returns-in_err-source c =
    let ts = c.args.names.now.tables in
    let x = c.entry-item.result in
    let e = c.in_err-source.field-0.0 in
    let p = err_from_is_err_and c.from_residual.result c.from_residual.ensures.1 in
    record {
      named = rw (p.1, p.2) (step_fails (step ts) (steps ts) (λ o f fs. refl) (λ o. refl) c.args.from.now c.loop-entry.entry-index (sources_of c.loop-entry.sources.items) _ c.loop-entry.invariant x (omega arith) c.entry-item.is e
          (subst (λ ss. StopsTyping e (from_table ts (sources_of ss) x.table x.alias)) c.deref.ensures.value c.in_err-source.ensures.behind));
    }

pub loop-entry-preserved : goal.loop-entry-preserved
loop-entry-preserved c =
    let ts = c.args.names.now.tables in
    let x = c.entry-item.result in
    step_made (step ts) (steps ts) (λ o f fs. refl) (λ o. refl) c.args.from.now c.loop-entry.entry-index (sources_of c.loop-entry.sources.items) _ c.loop-entry.invariant x (omega arith) c.entry-item.is (sources_of c.push.new.self.items)
    (pushed ts c.deref.result.now c.loop-entry.sources.items c.push.new.self.items c.in_ok-source.source x.table x.alias c.deref.ensures.value c.in_ok-source.ensures.behind c.in_ok-push.ensures.items)

pub returns : goal.returns
returns c =
    let ts = c.args.names.now.tables in
    record { named = steps_made (step ts) (steps ts) (λ o f fs. refl) (λ o. refl) c.args.from.now c.loop-entry.entry-index (sources_of c.loop-entry.sources.items) _ c.loop-entry.invariant c.loop-entry-test.false }
