-- Typed trees of the program, unfolded one level at a time.
use Rattle.std.proofs.Common.{◌≡◌, ap, map}
use Rattle.mob_typed.{specs.declared.typed.TExpr.{TExpr}, specs.declared.typed.TExpr.TheViews.{out-TExpr}, specs.declared.typed.TExpr.TheFolds.{fold_out-TExpr}}
use Rattle.mob_typed.specs.Trees.{TypedTree, typed, typed_trees, typed_step, typed_of, type_of}

pub typed_is : (t : TExpr) → typed_of t ≡ typed (out-TExpr t).op (out-TExpr t).ty (out-TExpr t).place (typed_trees (map typed_of (out-TExpr t).args.items))
typed_is = fold_out-TExpr TypedTree typed_step

-- the type of a typed tree
pub type_is : (t : TExpr) → type_of (typed_of t) ≡ (out-TExpr t).ty
type_is t = ap type_of (typed_is t)
