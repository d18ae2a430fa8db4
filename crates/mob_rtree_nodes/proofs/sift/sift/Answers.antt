use Rattle.std.proofs.Common.{◌≡◌, ◌+◌, ◌∙◌, arith, subst, sym}
use Rattle.mob_rtree_nodes.{specs.Sifts.{IsSiftedUpTo}, proofs.Sifts.{all_sifted}}
use Rattle.mob_rtree_nodes.proofs.sift.sift.Goals as goal

pub loop-height-preserved : goal.loop-height-preserved
loop-height-preserved c = let within = c.loop-height-test.true in (c.sift_level.ensures.sound, omega (arith, within), c.sift_level.ensures.capacity ∙ c.loop-height.invariant.2, λ root tree. c.sift_level.ensures.sifted root c.args.nodes.now.items tree (c.loop-height.invariant.3 root tree))

pub returns-clause-sifted : goal.returns-clause-sifted
returns-clause-sifted c =
    let root = c.requires.tree.0 in
    let tree = c.requires.tree.1 in
    let old = c.args.nodes.now.items in
    let ids = c.args.ids.now in
    let within = c.loop-height.invariant.1 in
    let past = c.loop-height-test.false in
    let top = c.requires.tree.2 in
    let high : c.loop-height.height ≡ c.args.top = omega (arith, past, within) in
    let up = subst (λ h. IsSiftedUpTo ids old h 0 c.loop-height.nodes.items) high (c.loop-height.invariant.3 root tree) in
    all_sifted ids root old tree c.sift_level-2.new.nodes.items (subst (λ h. IsSiftedUpTo ids old (h + 1) 0 c.sift_level-2.new.nodes.items) (sym top) (c.sift_level-2.ensures.sifted root old tree up))
