-- The typing of an expression in the program, step by step.
use Rattle.std.{specs.Prelude.{option_map}, proofs.Common.{◌≡◌, ◌∙◌, refl, sym, ap, subst, ℕ, List, [], ◌∷◌, Option, Some, None, Result, Ok, Err}}
use Rattle.mob_ast.{specs.declared.expression.Node.{Node}, specs.declared.expression.Expr.{Expr}, specs.declared.expression.Expr.TheViews.{out-Expr}, specs.Trees.{tree_of, trees_of}}
use Rattle.mob_list.specs.declared.fault.Fault.{Fault}
use Rattle.mob_typed.{specs.declared.typed.ConstText.{ConstText}, specs.declared.typed.TExpr.{TExpr}, specs.Trees.{TypedTree, typed_of}}
use Rattle.mob_scope.{specs.Answers.{◌>>=◌, StopsTyping, AnswersAs}, specs.declared.fault.Mistake.{Mistake}, specs.Scopes.{ScopeParts}}
use Rattle.mob_expression.{specs.Steps.{one_more, TypesTo}, specs.Expressions.{typed_before_operands, finished, or_later, typed_expression, typed_operands}, proofs.TreeFacts.{tree_is}}
use Rattle.mob_expression.proofs.Wrongs.{fails_bind, fails_along}

-- operands as a list
pub operands_more : (s : ScopeParts) (x : Expr) (xs : List Expr) (cs : List ConstText) → typed_operands s (trees_of (x ∷ xs)) cs ≡ one_more (typed_expression s (tree_of x)) (typed_operands s (trees_of xs)) cs
unfolding typed_operands
operands_more s x xs cs = refl

pub operands_none : (s : ScopeParts) (cs : List ConstText) → typed_operands s (trees_of []) cs ≡ Ok ([], cs)
unfolding typed_operands
operands_none s cs = refl

module _ (s : ScopeParts) (e : Expr) (cs : List ConstText) (xs : List Expr) (is : xs ≡ (out-Expr e).args.items) where
  abbrev node : Node
  node = (out-Expr e).node

  abbrev place : ℕ
  place = (out-Expr e).place

  abbrev last : List TypedTree × List ConstText → Result (TypedTree × List ConstText) Mistake
  last r = finished node place (trees_of xs) r.0 >>= λ t. Ok (t, r.1)

  abbrev later : Option TypedTree × List ConstText → Result (TypedTree × List ConstText) Mistake
  later x = or_later (λ ds. typed_operands s (trees_of xs) ds >>= last) x.0 x.1

  begun : typed_expression s (tree_of e) cs ≡ (typed_before_operands s node place (trees_of xs) cs >>= later)
  unfolding typed_expression
  begun = ap (λ t. typed_expression s t cs) (tree_is e) ∙ ap (λ ys. typed_before_operands s node place (trees_of ys) cs >>= λ x. or_later (λ ds. typed_operands s (trees_of ys) ds >>= λ r. finished node place (trees_of ys) r.0 >>= λ t. Ok (t, r.1)) x.0 x.1) (sym is)

  pub early_fails : (f : Fault Mistake) → StopsTyping f (typed_before_operands s node place (trees_of xs) cs) → StopsTyping f (typed_expression s (tree_of e) cs)
  early_fails f h = fails_along f (typed_before_operands s node place (trees_of xs) cs >>= later) (typed_expression s (tree_of e) cs) begun (fails_bind f (typed_before_operands s node place (trees_of xs) cs) later h)

  pub early_settles : (o : Option TExpr) (t : TExpr) (ds : List ConstText) → typed_before_operands s node place (trees_of xs) cs ≡ Ok (option_map typed_of o, ds) → o ≡ Some t → typed_expression s (tree_of e) cs ≡ Ok (typed_of t, ds)
  early_settles o t ds h o_is = begun ∙ ap (λ a. a >>= later) (h ∙ ap (λ p. Ok (option_map typed_of p, ds)) o_is)

  module _ (o : Option TExpr) (ds : List ConstText) (h : typed_before_operands s node place (trees_of xs) cs ≡ Ok (option_map typed_of o, ds)) (o_is : o ≡ None) where
    from_operands : typed_expression s (tree_of e) cs ≡ (typed_operands s (trees_of xs) ds >>= last)
    from_operands = begun ∙ ap (λ a. a >>= later) (h ∙ ap (λ p. Ok (option_map typed_of p, ds)) o_is)

    module _ (ys : List Expr) (ys_is : ys ≡ (out-Expr e).args.items) where
      pub operands_fail : (f : Fault Mistake) → StopsTyping f (typed_operands s (trees_of ys) ds) → StopsTyping f (typed_expression s (tree_of e) cs)
      operands_fail f wrong = fails_along f (typed_operands s (trees_of xs) ds >>= last) (typed_expression s (tree_of e) cs) from_operands
          (fails_bind f (typed_operands s (trees_of xs) ds) last (subst (λ zs. StopsTyping f (typed_operands s (trees_of zs) ds)) (ys_is ∙ sym is) wrong))

      pub all_typed : (r : Result TExpr (Fault Mistake)) (ts : List TypedTree) (es : List ConstText) (zs : List Expr) → zs ≡ (out-Expr e).args.items
          → typed_operands s (trees_of ys) ds ≡ Ok (ts, es) → AnswersAs typed_of r (finished node place (trees_of zs) ts) → TypesTo typed_of r es (typed_expression s (tree_of e) cs)
      all_typed r ts es zs zs_is made h = answered r (subst (λ us. AnswersAs typed_of r (finished node place (trees_of us) ts)) (zs_is ∙ sym is) h)
        where
          whole : typed_expression s (tree_of e) cs ≡ (finished node place (trees_of xs) ts >>= λ t. Ok (t, es))
          whole = from_operands ∙ ap (λ us. typed_operands s (trees_of us) ds >>= last) (is ∙ sym ys_is) ∙ ap (λ a. a >>= last) made

          answered : (r : Result TExpr (Fault Mistake)) → AnswersAs typed_of r (finished node place (trees_of xs) ts) → TypesTo typed_of r es (typed_expression s (tree_of e) cs)
          answered (Ok t) h = whole ∙ ap (λ a. a >>= λ t. Ok (t, es)) h
          answered (Err f) h = fails_along f (finished node place (trees_of xs) ts >>= λ t. Ok (t, es)) (typed_expression s (tree_of e) cs) whole (fails_bind f (finished node place (trees_of xs) ts) (λ t. Ok (t, es)) h)
