use Rattle.std.{specs.Prelude.{All}, proofs.Common.{◌≡◌, true, subst, take_all, ◌∙◌, ap, arith}}
use Rattle.mob_stbox.specs.Boxes.{contains, is_whole}
use Rattle.mob_rtree_nodes.{specs.Tree.{Kid}, proofs.Covers.{cover_more, cover_still_least, none_fails}}
use Rattle.mob_rtree_nodes.proofs.insert.cover_all.Goals as goal

pub loop-kid-init : goal.loop-kid-init
loop-kid-init c = (λ b all. all 0 c.index-kids-0.result c.requires.some, none_fails (λ k. is_whole k.0) c.args.kids.now 0 c.index-kids-0.result c.requires.whole c.requires.some, λ k d l. absurd (omega (arith, l)))

pub cover-area-requires : goal.cover-area-requires
cover-area-requires c = record { first = c.loop-kid.invariant.1; second = ap (λ (k : Kid). is_whole k.0) c.kid-item.is ∙ none_fails (λ k. is_whole k.0) c.args.kids.now c.loop-kid.kid-index c.kid-item.result c.requires.whole c.loop-kid-test.true }

pub loop-kid-preserved : goal.loop-kid-preserved
loop-kid-preserved c =
    let least = cover_still_least c.args.kids.now c.loop-kid.kid-index c.kid-item.result c.loop-kid.area c.cover-area.result c.cover-area.ensures.value c.loop-kid-test.true c.kid-item.is c.loop-kid.invariant.0 in
    let more = cover_more c.args.kids.now c.loop-kid.kid-index c.kid-item.result c.loop-kid.area c.cover-area.result c.cover-area.ensures.value c.loop-kid-test.true c.kid-item.is c.requires.whole c.loop-kid.invariant.1 c.loop-kid.invariant.2 in
    (least, more.0, more.1)

pub returns-clause-over : goal.returns-clause-over
returns-clause-over c = subst (λ kids. All (λ k. contains c.loop-kid.area k.0 ≡ true) kids) (take_all c.loop-kid.kid-index c.args.kids.now c.loop-kid-test.false) c.loop-kid.invariant.2

pub returns-clause-whole : goal.returns-clause-whole
returns-clause-whole c = c.loop-kid.invariant.1
