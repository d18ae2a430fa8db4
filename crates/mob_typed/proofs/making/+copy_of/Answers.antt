use Rattle.std.{proofs.Common.{◌≡◌, ◌∙◌, ◌++◌, [], drop, map, sym, ap}, proofs.lemmas.List.{drop_all, append-nil}}
use Rattle.mob_typed.{specs.declared.typed.TExpr.TheViews.{out-TExpr}, specs.Trees.{typed, typed_trees, typed_of}, proofs.TreeFacts.{typed_is}}
use Rattle.mob_typed.proofs.making.+copy_of.Goals as goal

pub returns : goal.returns
returns t c =
    let xs = c.deref-arg-items.result.now in
    let v = c.args.value.now in
    let done = map typed_of c.loop-arg.args.items in
    let gone : drop c.loop-arg.arg-index xs ≡ [] = drop_all c.loop-arg.arg-index xs c.loop-arg-test.false in
    let same : map typed_of xs ≡ done = c.loop-arg.invariant ∙ ap (λ ys. done ++ map typed_of ys) gone ∙ append-nil done in
    record { same = c.with_args.ensures.tree ∙ ap (λ ys. typed (out-TExpr v).op (out-TExpr v).ty (out-TExpr v).place (typed_trees ys)) (sym same ∙ ap (map typed_of) c.deref-arg-items.ensures.value) ∙ sym (typed_is v) }
