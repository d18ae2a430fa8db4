use Rattle.std.{specs.Fn.{FnReturnsAt}, proofs.Common.{◌≡◌, true, [], ◌∷◌, refl, subst, ◌∙◌, sym, ap}, proofs.lemmas.Result.{IfOk-weaker}}
use Rattle.mob_slice.proofs.Orders.{ordered, ordered-clear}
use Rattle.mob_span.{specs.Span.{has}, proofs.SpanLemmas.{instant_some}}
use Rattle.mob_shares.{specs.Cuts.{wholes}, specs.Shares.{rest_of}, proofs.Walked.{shares_clear, shares_hold}, proofs.Together.{pair_fit, are_taken, first_refused}}
use Rattle.mob_tagg.{proofs.Pairs.{share_sound, wholes_are}, proofs.United.{taken_some}}
use Rattle.mob_tagg.proofs.taking.merged.Goals as goal

pub new-requires-clause-left_order : goal.new-requires-clause-left_order
new-requires-clause-left_order g c = rw c.slices-lefts.ensures.same (ordered-clear g.C.Course.start_of g.C.Course.end_of c.args.a.now (ordered g.C.Course.start_of g.C.Course.end_of _ c.args.a.now c.slices-lefts.ensures.normal.chained))

pub new-requires-clause-right_order : goal.new-requires-clause-right_order
new-requires-clause-right_order g c = rw c.slices-rights.ensures.same (ordered-clear g.C.Course.start_of g.C.Course.end_of c.args.b.now (ordered g.C.Course.start_of g.C.Course.end_of _ c.args.b.now c.slices-rights.ensures.normal.chained))

pub lift_each-requires : goal.lift_each-requires
lift_each-requires g c κs = record {
  callable = λ p h. ((refl, tt), (c.requires.callable, h));
  can = c.new.ensures.can;
  ends = tt;
  clear = shares_clear c.new.result c.new.ensures.can;
  fit = shares_hold g.C.Course.start_of g.C.Course.end_of c.new.result c.new.ensures.can
      (wholes_are g.C.Course.start_of g.C.Course.end_of (rest_of c.new.result.lefts) c.args.a.now (c.new.ensures.left ∙ ap (wholes (λ s. s.span)) c.slices-lefts.ensures.same) (ordered g.C.Course.start_of g.C.Course.end_of _ c.args.a.now c.slices-lefts.ensures.normal.chained))
      (wholes_are g.C.Course.start_of g.C.Course.end_of (rest_of c.new.result.rights) c.args.b.now (c.new.ensures.right ∙ ap (wholes (λ s. s.span)) c.slices-rights.ensures.same) (ordered g.C.Course.start_of g.C.Course.end_of _ c.args.b.now c.slices-rights.ensures.normal.chained));
  sound = λ p v i h k. share_sound g.C.Course.value_of g.C.Course.start_of g.C.Course.end_of g.C.Course.parts_of (λ s. s ∷ []) (FnReturnsAt g.F.Fn c.args.both) v (λ q j m r. c.requires.sound q v j m r) p i h (rw k.shows at k.says.met);
}

pub returns-clause-some : goal.returns-clause-some
returns-clause-some g c =
    IfOk-weaker c.lift_each.result _ _
    (λ all n. taken_some g.C.Course.value_of g.C.Course.start_of g.C.Course.end_of g.C.Course.parts_of (λ s. s ∷ []) (FnReturnsAt g.F.Fn c.args.both)
    (λ q x a t k. let p = a.0 in let i : has p.span t ≡ true = subst (λ z. has z.span t ≡ true) (sym a.1) k in (c.requires.sound p x (instant_some p.span t i) a.2 a.3).0.full t i)
    c.args.a.now c.args.b.now all.items c.slices-lefts.ensures.normal.some (ordered g.C.Course.start_of g.C.Course.end_of _ c.args.a.now c.slices-lefts.ensures.normal.chained)
    (are_taken g.met.C.Course.laws (λ s. s ∷ []) (FnReturnsAt g.F.Fn c.args.both) _ (λ p x k. (k.0, rw k.1.shows at k.1.says.met)) c.new.result c.args.a.now c.args.b.now c.new.ensures.can (c.new.ensures.left ∙ ap (wholes (λ s. s.span)) c.slices-lefts.ensures.same) (c.new.ensures.right ∙ ap (wholes (λ s. s.span)) c.slices-rights.ensures.same)
    (λ p x h i r. (c.requires.sound p x i (pair_fit g.C.Course.start_of g.C.Course.end_of p h) r).1) (λ v. v.items) all n))
    c.lift_each.ensures.lifted

pub returns-clause-taken : goal.returns-clause-taken
returns-clause-taken g c =
    IfOk-weaker c.lift_each.result _ _
    (λ all n. are_taken g.met.C.Course.laws (λ s. s ∷ []) (FnReturnsAt g.F.Fn c.args.both) _ (λ p x k. (k.0, rw k.1.shows at k.1.says.met)) c.new.result c.args.a.now c.args.b.now c.new.ensures.can (c.new.ensures.left ∙ ap (wholes (λ s. s.span)) c.slices-lefts.ensures.same) (c.new.ensures.right ∙ ap (wholes (λ s. s.span)) c.slices-rights.ensures.same)
    (λ p x h i r. (c.requires.sound p x i (pair_fit g.C.Course.start_of g.C.Course.end_of p h) r).1) (λ v. v.items) all n)
    c.lift_each.ensures.lifted

pub returns-clause-passed : goal.returns-clause-passed
returns-clause-passed g c = λ f e. first_refused g.met.C.Course.laws (λ s. s ∷ []) (FnReturnsAt g.F.Fn c.args.both) _ (λ p x k. (k.0, rw k.1.shows at k.1.says.met)) c.new.result c.args.a.now c.args.b.now c.new.ensures.can (c.new.ensures.left ∙ ap (wholes (λ s. s.span)) c.slices-lefts.ensures.same) (c.new.ensures.right ∙ ap (wholes (λ s. s.span)) c.slices-rights.ensures.same)
    (λ p x h i r. (c.requires.sound p x i (pair_fit g.C.Course.start_of g.C.Course.end_of p h) r).1) f _ (λ p k. (k.0, rw k.1.shows at k.1.says.met)) (λ p h r. c.requires.passes p f (pair_fit g.C.Course.start_of g.C.Course.end_of p h) r) (c.lift_each.ensures.passed f e)
