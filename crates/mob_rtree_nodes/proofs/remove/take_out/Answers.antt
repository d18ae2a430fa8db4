use Rattle.std.{specs.Prelude.{count_by, All}, proofs.Common.{◌≡◌, refl, ap, ◌∙◌, sym, length, not, subst, true}}
use Rattle.mob_stbox.specs.Boxes.{is_whole, contains}
use Rattle.mob_rtree_nodes.{specs.Tree.{Kid, IsLeastOver, is_fit}, specs.declared.node.TreeNode.{TreeNode}, proofs.Covers.{fit_whole, none_out, some_left}, proofs.Shrinks.{kids_without}}
use Rattle.mob_rtree_nodes.proofs.remove.take_out.Goals as goal

pub cover_all-part-requires-clause-whole : goal.cover_all-part-requires-clause-whole
cover_all-part-requires-clause-whole c =
    let p = c.args.part.now in
    ap (count_by (λ (k : Kid). not (is_whole k.0))) c.as_slice.ensures.value ∙ fit_whole p.height c.remove.new.self.items (none_out (is_fit p.height) c.remove.new.self.items p.kids.items c.args.slot c.remove.result c.remove.ensures.items c.requires.slot c.requires.sound.fit)

pub returns : goal.returns
returns c =
    let p = c.args.part.now in
    let part : TreeNode = record { area = c.cover_all-part.result; height = p.height; kids = c.remove.new.self } in
    record {
      settled = record {
        height = refl;
        sound = record {
          whole = c.cover_all-part.ensures.whole;
          over = subst (λ l. All (λ k. contains c.cover_all-part.result k.0 ≡ true) l) c.as_slice.ensures.value c.cover_all-part.ensures.over;
          least = λ live. subst (λ l. IsLeastOver c.cover_all-part.result l) c.as_slice.ensures.value c.cover_all-part.ensures.least;
          fit = none_out (is_fit p.height) c.remove.new.self.items p.kids.items c.args.slot c.remove.result c.remove.ensures.items c.requires.slot c.requires.sound.fit;
        };
        kids = kids_without p part c.args.slot c.requires.slot c.remove.ensures.items;
        told = (refl, some_left (length c.remove.new.self.items) (sym c.is_empty.ensures ∙ c.if-is_empty.false));
      };
    }
