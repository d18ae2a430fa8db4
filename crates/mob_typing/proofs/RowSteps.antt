-- The values of a row, one by one.
use Rattle.std.{specs.Prelude.{slice_get}, proofs.Common.{◌≡◌, ◌∙◌, ◌<◌, ◌+◌, ap, sym, ℕ, List, [], ◌∷◌, ◌++◌, map, drop, length, get_or, Option, Some, Result, Ok}, proofs.lemmas.List.{drop_more}}
use Rattle.mob_ast.{specs.declared.types.SqlType.{SqlType}, specs.declared.expression.Expr.{Expr}, specs.Trees.{tree_of}}
use Rattle.mob_typed.{specs.declared.typed.ConstText.{ConstText}, specs.Statements.{ColumnList}}
use Rattle.mob_list.specs.declared.fault.Fault.{Fault}
use Rattle.mob_scope.{specs.Answers.{StopsTyping}, specs.declared.fault.Mistake.{Mistake}}
use Rattle.mob_expression.{specs.Steps.{TypingTurn, one_more}, proofs.Behind.{behind, fails_behind, more_behind, none_behind}, proofs.Lists.{drop_at}, proofs.Wrongs.{fails_along}}
use Rattle.mob_typing.specs.Statements.{tree_value, row_values}

module _ (n : ℕ) (columns : ColumnList) (vs : List Expr) (i : ℕ) (done : List (Option ℕ)) (cs : List ConstText) (whole : Result (List (Option ℕ) × List ConstText) Mistake)
    (so_far : whole ≡ behind done (row_values n (drop i columns) (map tree_of (drop i vs))) cs) where
  module _ (column : List ℕ × SqlType) (x : Expr) (stored : slice_get columns i ≡ Some column) (within : i < length vs) (at : x ≡ get_or vs i x) where
    abbrev first : TypingTurn (Option ℕ)
    first = tree_value n column.1 (tree_of x)

    abbrev others : TypingTurn (List (Option ℕ))
    others = row_values n (drop (i + 1) columns) (map tree_of (drop (i + 1) vs))

    next : whole ≡ behind done (one_more first others) cs
    next = so_far ∙ ap (λ ys. behind done (row_values n ys (map tree_of (drop i vs))) cs) (drop_at columns i column stored)
        ∙ ap (λ ys. behind done (row_values n (column ∷ drop (i + 1) columns) (map tree_of ys)) cs) (drop_more vs i x within ∙ ap (λ y. y ∷ drop (i + 1) vs) (sym at))

    pub value_fails : (f : Fault Mistake) → StopsTyping f (tree_value n column.1 (tree_of x) cs) → StopsTyping f whole
    value_fails f h = fails_along f (behind done (one_more first others) cs) whole next (fails_behind first others cs f done h)

    pub value_more : (v : Option ℕ) (ds : List ConstText) (after : List (Option ℕ)) → tree_value n column.1 (tree_of x) cs ≡ Ok (v, ds) → after ≡ done ++ v ∷ []
        → whole ≡ behind after (row_values n (drop (i + 1) columns) (map tree_of (drop (i + 1) vs))) ds
    value_more v ds after h pushed = next ∙ more_behind first others cs done v ds h ∙ ap (λ d. behind d others ds) (sym pushed)

  pub values_done : drop i columns ≡ [] → whole ≡ Ok (done, cs)
  values_done gone = so_far ∙ ap (λ ys. behind done (row_values n ys (map tree_of (drop i vs))) cs) gone ∙ none_behind done cs
