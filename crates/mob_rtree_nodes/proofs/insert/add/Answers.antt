use Rattle.std.{specs.Prelude.{count_by}, proofs.Common.{ap, ◌∙◌, not}}
use Rattle.mob_stbox.specs.Boxes.{is_whole}
use Rattle.mob_rtree_nodes.{specs.Tree.{Kid, is_fit}, proofs.Covers.{none_parted, none_pushed, fit_whole}}
use Rattle.mob_rtree_nodes.proofs.insert.add.Goals as goal

pub cover_all-part-requires-clause-whole : goal.cover_all-part-requires-clause-whole
cover_all-part-requires-clause-whole c =
    let h = c.args.part.now.height in
    let n = none_parted (is_fit h) c.split-second.new.kids.items c.split-second.result.items c.args.part.now.kids.items c.args.kid c.split-second.ensures.kids c.requires.sound.fit c.requires.fit in
    ap (count_by (λ (k : Kid). not (is_whole k.0))) c.as_slice.ensures.value ∙ fit_whole h c.split-second.new.kids.items n.0

pub cover_all-area-requires-clause-whole : goal.cover_all-area-requires-clause-whole
cover_all-area-requires-clause-whole c =
    let h = c.args.part.now.height in
    let n = none_parted (is_fit h) c.split-second.new.kids.items c.split-second.result.items c.args.part.now.kids.items c.args.kid c.split-second.ensures.kids c.requires.sound.fit c.requires.fit in
    ap (count_by (λ (k : Kid). not (is_whole k.0))) c.as_slice-then-is_full.ensures.value ∙ fit_whole h c.split-second.result.items n.1

pub cover_all-part-requires-2-clause-whole : goal.cover_all-part-requires-2-clause-whole
cover_all-part-requires-2-clause-whole c =
    let h = c.args.part.now.height in
    ap (count_by (λ (k : Kid). not (is_whole k.0))) c.as_slice-2.ensures.value ∙ fit_whole h c.push.new.self.items (none_pushed (is_fit h) c.push.new.self.items c.args.part.now.kids.items c.args.kid c.push.ensures.items c.requires.sound.fit c.requires.fit)
