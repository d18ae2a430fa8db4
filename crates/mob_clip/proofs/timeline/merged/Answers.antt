use Rattle.std.{proofs.Common.{rules, ◌≡◌, ◌++◌, ◌∷◌, [], ◌≤◌, drop, length}, proofs.Math.ListN.{drop_of_length-le}}
use Rattle.mob_clip.proofs.Walks.{merging_step, merged_values, merged_fit}
use Rattle.mob_clip.proofs.timeline.merged.Goals as goal

pub loop-i-preserved : goal.loop-i-preserved
loop-i-preserved g c =
    let at = c.loop-i in
    let xs = c.as_slice-xs.result.now in
    let ys = c.as_slice-ys.result.now in
    let m = c.meet-met.result in
    let n : c.push.new.self.items ≡ at.changes.items ++ m.change ∷ [] = search rules in
    record {
      first = c.meet-met.ensures.first;
      second = c.meet-met.ensures.second;
      merging = merging_step g.T.Mix.mix c.args.a.now.first c.args.b.now.first xs ys at.left at.right m.left m.right (drop at.i xs) (drop at.j ys) (drop m.i xs) (drop m.j ys) at.changes.items c.push.new.self.items m.change n c.meet-met.ensures.met at.invariant.merging;
    }

pub returns-clause-values : goal.returns-clause-values
returns-clause-values g c =
    let at = c.loop-i in
    let xs = c.as_slice-xs.result.now in
    let ys = c.as_slice-ys.result.now in
    let hx : length xs ≤ at.i = search rules in
    let hy : length ys ≤ at.j = search rules in
    let ex : xs ≡ c.args.a.now.changes.items = search rules in
    let ey : ys ≡ c.args.b.now.changes.items = search rules in
    merged_values g.T.Mix.mix c.args.a.now c.args.b.now c.mix-first.result at.left at.right xs ys (drop at.i xs) (drop at.j ys) at.changes.items c.mix-first.ensures.value ex ey (drop_of_length-le xs hx) (drop_of_length-le ys hy) at.invariant.merging

pub returns-clause-fit : goal.returns-clause-fit
returns-clause-fit g c =
    let at = c.loop-i in
    let xs = c.as_slice-xs.result.now in
    let ys = c.as_slice-ys.result.now in
    let ex : xs ≡ c.args.a.now.changes.items = search rules in
    let ey : ys ≡ c.args.b.now.changes.items = search rules in
    merged_fit g.T.Mix.mix c.args.a.now c.args.b.now at.left at.right xs ys (drop at.i xs) (drop at.j ys) at.changes.items ex ey at.invariant.merging
