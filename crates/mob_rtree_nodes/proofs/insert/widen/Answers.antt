use Rattle.std.proofs.Common.{refl}
use Rattle.mob_stbox.specs.Boxes.{is_whole}
use Rattle.mob_rtree_nodes.proofs.Covers.{none_refilled, fit_whole}
use Rattle.mob_rtree_nodes.proofs.insert.widen.Goals as goal

pub cover_all-part-requires-clause-whole : goal.cover_all-part-requires-clause-whole
cover_all-part-requires-clause-whole c = none_refilled (λ k. is_whole k.0) _ c.args.part.now.kids.items _ c.as_slice.result.now c.args.slot _ c.index-kids-slot.result c.as_slice.ensures.value c.as_mut_slice-kids.ensures.value refl c.requires.slot (fit_whole c.args.part.now.height c.args.part.now.kids.items c.requires.sound.fit) c.requires.whole
