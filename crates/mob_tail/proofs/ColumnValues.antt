-- The value of a column on a tuple, and the columns of the answer.
use Rattle.std.specs.Prelude.{◌≡◌, ◌+◌, ◌<◌, ◌++◌, true, false, ℕ, refl, List, [], ◌∷◌, Option, Some, None, Ok, Err, length, map, drop, get_or}
use Rattle.std.proofs.Common.{ap, sym, ◌∙◌, subst, inl, inr, true≢false, append_assoc}
use Rattle.mob_typed.{specs.declared.typed.Agg.{Agg}, specs.declared.typed.TExpr.{TExpr}, specs.declared.typed.TExpr.TheViews.{out-TExpr}, specs.Trees.{typed, none, typed_trees, typed_of}}
use Rattle.mob_typed.{specs.Selects.{output_of}, proofs.TreeFacts.{typed_is}}
use Rattle.mob_operators.specs.declared.operator.Op.{Op}
use Rattle.mob_ast.specs.declared.types.SqlType.{SqlType}
use Rattle.mob_value.{specs.declared.value.Value.{Value}, specs.declared.value.Value.TheVariants.{Null}}
use Rattle.mob_meaning.{specs.Scene.{Scene, leaf_value}, specs.Operators.{OperatorGives, IsFirstFormula}, specs.Evaluation.{PlacedFormula, TreeEvaluatesTo}}
use Rattle.mob_list.proofs.Entries.{drop_read}
use Rattle.mob_tail.{specs.Groups.{is_bare_column, column_on}, specs.GroupedAnswers.{AnswerColumn, agg_at, columns_from}}

module _ (s : Scene) (o : Op) (ty : SqlType) (place : ℕ) where
  leaf_is : (v : Value) → TreeEvaluatesTo s (typed o ty place none) (Ok v) → v ≡ leaf_value s o ty
  leaf_is v h = subst (λ z. OperatorGives s o ty [] z v) h.1 h.3

  leaf_fits : (f : PlacedFormula) → TreeEvaluatesTo s (typed o ty place none) (Err f) → ⊥
  leaf_fits f (inl h) = h
  leaf_fits f (inr h) = let k : Some f.1 ≡ None = subst (λ z. IsFirstFormula s.terms.mode o ty [] z (Some f.1)) h.1 h.2 in absurd cc

-- an expression without operands
bare : (e : TExpr) → is_bare_column (out-TExpr e).args.items ≡ true → typed_of e ≡ typed (out-TExpr e).op (out-TExpr e).ty (out-TExpr e).place none
bare e h = typed_is e ∙ by (out-TExpr e).args.items h
  where
    by : (es : List TExpr) → is_bare_column es ≡ true → typed (out-TExpr e).op (out-TExpr e).ty (out-TExpr e).place (typed_trees (map typed_of es)) ≡ typed (out-TExpr e).op (out-TExpr e).ty (out-TExpr e).place none
    by [] h = refl
    by (d ∷ es) h = absurd (true≢false (sym h))

module _ (s : Scene) (e : TExpr) where
  pub no_operands : (v : Value) → is_bare_column (out-TExpr e).args.items ≡ true → TreeEvaluatesTo s (typed_of e) (Ok v) → v ≡ column_on s (typed_of e)
  no_operands v h k = leaf_is s (out-TExpr e).op (out-TExpr e).ty (out-TExpr e).place v (subst (λ z. TreeEvaluatesTo s z (Ok v)) (bare e h) k) ∙ sym (ap (column_on s) (bare e h))

  pub never_fails : (f : PlacedFormula) → is_bare_column (out-TExpr e).args.items ≡ true → TreeEvaluatesTo s (typed_of e) (Err f) → ⊥
  never_fails f h k = leaf_fits s (out-TExpr e).op (out-TExpr e).ty (out-TExpr e).place f (subst (λ z. TreeEvaluatesTo s z (Err f)) (bare e h) k)

  pub some_operands : is_bare_column (out-TExpr e).args.items ≡ false → Null ≡ column_on s (typed_of e)
  some_operands h = by (out-TExpr e).args.items h ∙ sym (ap (column_on s) (typed_is e))
    where
      by : (es : List TExpr) → is_bare_column es ≡ false → Null ≡ column_on s (typed (out-TExpr e).op (out-TExpr e).ty (out-TExpr e).place (typed_trees (map typed_of es)))
      by [] h = absurd (true≢false h)
      by (d ∷ es) h = refl

-- the columns so far with one more
pub next_column : (aggs : List (Option Agg)) (items : List (TExpr × List ℕ)) (n : ℕ) (x : TExpr × List ℕ) → n < length items → x ≡ get_or items n x → (so_far all : List AnswerColumn) → so_far ++ columns_from aggs n (map output_of (drop n items)) ≡ all → (so_far ++ (typed_of x.0, agg_at aggs n) ∷ []) ++ columns_from aggs (n + 1) (map output_of (drop (n + 1) items)) ≡ all
next_column aggs items n x lt is so_far all h =
    append_assoc so_far ((typed_of x.0, agg_at aggs n) ∷ []) (columns_from aggs (n + 1) (map output_of (drop (n + 1) items)))
    ∙ ap (λ z. so_far ++ columns_from aggs n (map output_of z)) (sym (drop_read items n x lt is))
    ∙ h
