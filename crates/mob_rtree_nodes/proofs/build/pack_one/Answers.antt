use Rattle.std.proofs.Common.{ap, ◌∙◌, sym, subst, ◌++◌, ◌∷◌, []}
use Rattle.mob_rtree_nodes.{specs.Builds.{IsPacking}, proofs.Builds.{packing_close, packing_push, full_some}}
use Rattle.mob_rtree_nodes.proofs.build.pack_one.Goals as goal

pub returns-then-is_full-clause-packing : goal.returns-then-is_full-clause-packing
returns-then-is_full-clause-packing c old came by =
    let some = c.is_full.ensures.value in
    let closed = packing_close c.args.height old came c.args.nodes.now.items c.args.above.now.items c.args.waiting.items c.close.new.nodes.items c.close.new.above.items (full_some _ (sym some ∙ c.if-is_full.true)) by c.in_ok-close.ensures.closed in
    subst (λ w. IsPacking c.args.height old (came ++ c.args.kid ∷ []) c.close.new.nodes.items c.close.new.above.items w) (sym (c.push.ensures.items ∙ ap (λ l. l ++ c.args.kid ∷ []) c.new-next.ensures)) (packing_push c.args.height old came c.close.new.nodes.items c.close.new.above.items [] c.args.kid closed c.requires.kid)
