use Rattle.std.{specs.Vec.{vec_capacity}, proofs.Common.{arith, ap, sym, ◌∙◌, subst, refl, List, length, ◌≡◌, ◌+◌, Bool}}
use Rattle.mob_stbox.specs.Boxes.{BoxOf, contains}
use Rattle.mob_rtree_nodes.{specs.Tree.{Kid, EntryOf, target, IsTree, height_at, walk_sum}, specs.Removes.{hit}, proofs.Sums.{kids_of, height_of}, proofs.Visits.{step_skip, step_down}}
use Rattle.mob_rtree_nodes.proofs.Shrinks.{lower_again, left_beneath, removed_beneath, found_beneath, one_missing, all_missing}
use Rattle.mob_rtree_nodes.proofs.remove.+remove_at.Goals.{then-contains+in-Missing, else-contains}
use Rattle.mob_rtree_nodes.proofs.remove.+remove_at.Goals as goal

pub remove_entry-requires-clause-leaf : goal.remove_entry-requires-clause-leaf
remove_entry-requires-clause-leaf t c = height_of c.args.nodes.now.items c.args.node c.index-part.result.now c.requires.there c.index-part.ensures ∙ c.if-part-eq0.true

pub remove_at-removed-requires : goal.remove_at-removed-requires
remove_at-removed-requires t c =
    let same = ap (λ v. v.items) c.loop-slot.invariant.0 in
    let lo = (lower_again c.requires.tree.0 c.args.nodes.now.items c.requires.tree.1 c.args.node c.loop-slot.slot c.index-part.result.now c.index.result.now c.as_slice.result.now c.index-as_slice-slot.result c.number-number.result c.len-count.result c.requires.there c.index-part.ensures c.if-part-eq0.false c.len-count.ensures.value c.loop-slot-test.true c.loop-slot.nodes.items same c.index.ensures c.as_slice.ensures.value c.index-as_slice-slot.is c.number-number.ensures.target).lower in
    let d = c.decreases in
    (omega (arith, d, lo.high, lo.here, lo.up, ap (λ ps. height_at ps c.number-number.result) same), ((c.requires.tree.0, subst (IsTree c.requires.tree.0) (sym same) c.requires.tree.1), (omega (arith, lo.there, ap length same), (c.loop-slot.invariant.2, omega (arith, c.loop-slot.invariant.3, c.requires.room, ap length same)))))

pub settle_at-requires-clause-slot : goal.settle_at-requires-clause-slot
settle_at-requires-clause-slot t c =
    let same = ap (λ v. v.items) c.loop-slot.invariant.0 in
    let a = lower_again c.requires.tree.0 c.args.nodes.now.items c.requires.tree.1 c.args.node c.loop-slot.slot c.index-part.result.now c.index.result.now c.as_slice.result.now c.index-as_slice-slot.result c.number-number.result c.len-count.result c.requires.there c.index-part.ensures c.if-part-eq0.false c.len-count.ensures.value c.loop-slot-test.true c.loop-slot.nodes.items same c.index.ensures c.as_slice.ensures.value c.index-as_slice-slot.is c.number-number.ensures.target in
    let b = left_beneath c.requires.tree.1 c.requires.there a c.number-number.ensures.target same c.in-Narrowed.ensures.removed in
    b.slot

pub settle_at-requires-in-Emptied-clause-slot : goal.settle_at-requires-in-Emptied-clause-slot
settle_at-requires-in-Emptied-clause-slot t c =
    let same = ap (λ v. v.items) c.loop-slot.invariant.0 in
    let a = lower_again c.requires.tree.0 c.args.nodes.now.items c.requires.tree.1 c.args.node c.loop-slot.slot c.index-part.result.now c.index.result.now c.as_slice.result.now c.index-as_slice-slot.result c.number-number.result c.len-count.result c.requires.there c.index-part.ensures c.if-part-eq0.false c.len-count.ensures.value c.loop-slot-test.true c.loop-slot.nodes.items same c.index.ensures c.as_slice.ensures.value c.index-as_slice-slot.is c.number-number.ensures.target in
    let b = left_beneath c.requires.tree.1 c.requires.there a c.number-number.ensures.target same c.in-Emptied.ensures.removed in
    b.slot

pub returns-in-Narrowed-clause-removed : goal.returns-in-Narrowed-clause-removed
returns-in-Narrowed-clause-removed t c =
    let same = ap (λ v. v.items) c.loop-slot.invariant.0 in
    let a = lower_again c.requires.tree.0 c.args.nodes.now.items c.requires.tree.1 c.args.node c.loop-slot.slot c.index-part.result.now c.index.result.now c.as_slice.result.now c.index-as_slice-slot.result c.number-number.result c.len-count.result c.requires.there c.index-part.ensures c.if-part-eq0.false c.len-count.ensures.value c.loop-slot-test.true c.loop-slot.nodes.items same c.index.ensures c.as_slice.ensures.value c.index-as_slice-slot.is c.number-number.ensures.target in
    let b = left_beneath c.requires.tree.1 c.requires.there a c.number-number.ensures.target same c.in-Narrowed.ensures.removed in
    removed_beneath c.requires.tree.1 c.requires.there b c.settle_at.ensures.settled

pub returns-in-Narrowed-clause-missing : goal.returns-in-Narrowed-clause-missing
returns-in-Narrowed-clause-missing t c m =
    let same = ap (λ v. v.items) c.loop-slot.invariant.0 in
    let a = lower_again c.requires.tree.0 c.args.nodes.now.items c.requires.tree.1 c.args.node c.loop-slot.slot c.index-part.result.now c.index.result.now c.as_slice.result.now c.index-as_slice-slot.result c.number-number.result c.len-count.result c.requires.there c.index-part.ensures c.if-part-eq0.false c.len-count.ensures.value c.loop-slot-test.true c.loop-slot.nodes.items same c.index.ensures c.as_slice.ensures.value c.index-as_slice-slot.is c.number-number.ensures.target in
    let b = left_beneath c.requires.tree.1 c.requires.there a c.number-number.ensures.target same c.in-Narrowed.ensures.removed in
    absurd (found_beneath b c.settle_at.ensures.settled m)

pub returns-in-Emptied-clause-removed : goal.returns-in-Emptied-clause-removed
returns-in-Emptied-clause-removed t c =
    let same = ap (λ v. v.items) c.loop-slot.invariant.0 in
    let a = lower_again c.requires.tree.0 c.args.nodes.now.items c.requires.tree.1 c.args.node c.loop-slot.slot c.index-part.result.now c.index.result.now c.as_slice.result.now c.index-as_slice-slot.result c.number-number.result c.len-count.result c.requires.there c.index-part.ensures c.if-part-eq0.false c.len-count.ensures.value c.loop-slot-test.true c.loop-slot.nodes.items same c.index.ensures c.as_slice.ensures.value c.index-as_slice-slot.is c.number-number.ensures.target in
    let b = left_beneath c.requires.tree.1 c.requires.there a c.number-number.ensures.target same c.in-Emptied.ensures.removed in
    removed_beneath c.requires.tree.1 c.requires.there b c.settle_at-in-Emptied.ensures.settled

pub returns-in-Emptied-clause-missing : goal.returns-in-Emptied-clause-missing
returns-in-Emptied-clause-missing t c m =
    let same = ap (λ v. v.items) c.loop-slot.invariant.0 in
    let a = lower_again c.requires.tree.0 c.args.nodes.now.items c.requires.tree.1 c.args.node c.loop-slot.slot c.index-part.result.now c.index.result.now c.as_slice.result.now c.index-as_slice-slot.result c.number-number.result c.len-count.result c.requires.there c.index-part.ensures c.if-part-eq0.false c.len-count.ensures.value c.loop-slot-test.true c.loop-slot.nodes.items same c.index.ensures c.as_slice.ensures.value c.index-as_slice-slot.is c.number-number.ensures.target in
    let b = left_beneath c.requires.tree.1 c.requires.there a c.number-number.ensures.target same c.in-Emptied.ensures.removed in
    absurd (found_beneath b c.settle_at-in-Emptied.ensures.settled m)

pub loop-slot-preserved : goal.loop-slot-preserved
loop-slot-preserved t c =
    let old = c.args.nodes.now.items in
    let n = c.args.node in
    let i = c.loop-slot.slot in
    let k = c.index-as_slice-slot.result in
    let p = c.index.result.now in
    let root = c.requires.tree.0 in
    let tree = c.requires.tree.1 in
    let e : EntryOf = (c.args.b.now, c.args.id) in
    let same = ap (λ v. v.items) c.loop-slot.invariant.0 in
    let a = lower_again root old tree n i c.index-part.result.now p c.as_slice.result.now k (target k.1) c.len-count.result c.requires.there c.index-part.ensures c.if-part-eq0.false c.len-count.ensures.value c.loop-slot-test.true c.loop-slot.nodes.items same c.index.ensures c.as_slice.ensures.value c.index-as_slice-slot.is refl in
    let lo = a.lower in
    let test : BoxOf → Bool = λ b. contains b c.args.b.now in
    let up : height_at old (target k.1) + 1 ≡ height_at old n = omega (arith, lo.high, lo.here, lo.up) in
    elim c.if-contains.branch [
      | then-contains+in-Missing w ↦
          let walk = subst (λ m. walk_sum test 0 (hit e) old (height_at old m) m ≡ 0) w.number-number.ensures.target (subst (λ ps. walk_sum test 0 (hit e) ps (height_at ps w.number-number.result) w.number-number.result ≡ 0) same w.in-Missing.ensures.removed) in
          let s = step_down test 0 (hit e) old (height_at old n) (height_at old (target k.1)) k up (sym c.contains.ensures.test ∙ w.if-contains.true) in
          (w.nodes-is ∙ w.in-Missing.ensures.missing refl ∙ c.loop-slot.invariant.0, one_missing test e old n i k a.within a.at (s ∙ walk) c.loop-slot.invariant.1, rw w.free-is (rw w.nodes-is w.in-Missing.ensures.free), ap vec_capacity w.free-is ∙ w.in-Missing.ensures.free_capacity ∙ c.loop-slot.invariant.3)
      | else-contains w ↦
          let s = step_skip test 0 (hit e) old (height_at old n) k (sym c.contains.ensures.test ∙ w.if-contains.false) in
          (w.nodes-is ∙ c.loop-slot.invariant.0, one_missing test e old n i k a.within a.at s c.loop-slot.invariant.1, rw w.free-is (rw w.nodes-is c.loop-slot.invariant.2), ap vec_capacity w.free-is ∙ c.loop-slot.invariant.3)
    ]

pub returns-clause-removed : goal.returns-clause-removed
returns-clause-removed t c =
    let old = c.args.nodes.now.items in
    let n = c.args.node in
    let len = ap (λ (l : List Kid). length l) (kids_of old n c.index-part.result.now c.requires.there c.index-part.ensures) in
    let v = c.len-count.ensures.value in
    let f = c.loop-slot-test.false in
    all_missing (λ b. contains b c.args.b.now) (c.args.b.now, c.args.id) old n c.loop-slot.slot (omega (arith, len, v, f)) c.loop-slot.invariant.1
