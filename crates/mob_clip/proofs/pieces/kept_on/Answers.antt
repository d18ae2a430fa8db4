use Rattle.std.{proofs.Common.{rules, arith, ◌≡◌, ◌+◌, drop, subst, false}, proofs.Math.ListN.{drop_of_length-le}}
use Rattle.mob_list.proofs.Entries.{drop_read}
use Rattle.mob_slice.{specs.Cut.{slice_parts}, specs.Lines.{plane_parts_of}, specs.PlaneLaws.{plane_laws}}
use Rattle.mob_cells.proofs.OwnEnds.{own_fit}
use Rattle.mob_clip.{specs.Timelines.{ChangesFit}, proofs.Passing.{rest_holds, passing_start, passing_step, passing_ends}}
use Rattle.mob_clip.proofs.pieces.kept_on.Goals as goal

pub loop-change-init : goal.loop-change-init
loop-change-init c =
    let e : c.as_slice-changes.result.now ≡ c.args.steps.now.changes.items = search rules in
    rw (e, c.new-out.ensures.items) (passing_start c.args.slice.now c.args.want c.args.steps.now c.requires.sound (own_fit plane_laws c.args.slice.now) c.requires.fit)

pub push_before-requires-in-loop-change-clause-holds : goal.push_before-requires-in-loop-change-clause-holds
push_before-requires-in-loop-change-clause-holds c =
    let at = c.loop-change in
    let xs = c.as_slice-changes.result.now in
    let x = c.change-item.result in
    let e = drop_read xs at.change-index x (omega arith) c.change-item.is in
    let f = subst (ChangesFit (slice_parts plane_parts_of c.args.slice.now)) e at.invariant.fits in
    rw c.in_ok-after.ensures.pushed.0 (rest_holds c.args.slice.now at.rest x.at false at.invariant.left.holds f.0)

pub loop-change-preserved : goal.loop-change-preserved
loop-change-preserved c =
    let at = c.loop-change in
    let xs = c.as_slice-changes.result.now in
    let x = c.change-item.result in
    let p = c.in_ok-after.ensures.pushed in
    let q = c.in_ok-rest.ensures.pushed in
    passing_step c.args.slice.now c.args.want c.args.steps.now at.rest c.in_ok-after.after _ at.now (drop at.change-index xs) (drop (at.change-index + 1) xs) x c.is_kept-front.result c.is_kept-there.result at.out.items c.push_before.new.out.items c.push_before-in-loop-change.new.out.items p.1 q.1 (drop_read xs at.change-index x (omega arith) c.change-item.is)
    c.is_kept-front.ensures.value p.0 p.2 p.3 c.is_kept-there.ensures.value q.0 q.2 q.3 at.invariant

pub returns : goal.returns
returns c =
    let at = c.loop-change in
    let xs = c.as_slice-changes.result.now in
    record { kept = passing_ends c.args.slice.now c.args.want c.args.steps.now (λ v. v.items) c.finish.result at.rest at.now (drop at.change-index xs) c.is_kept.result at.out.items (drop_of_length-le xs c.loop-change-test.false) c.is_kept.ensures.value at.invariant c.finish.ensures.all }

pub push_before-requires-clause-fits : goal.push_before-requires-clause-fits
push_before-requires-clause-fits c =
    let at = c.loop-change in
    let xs = c.as_slice-changes.result.now in
    let x = c.change-item.result in
    (subst (ChangesFit (slice_parts plane_parts_of c.args.slice.now)) (drop_read xs at.change-index x (omega arith) c.change-item.is) at.invariant.fits).0

pub push_before-requires-in-loop-change-clause-fits : goal.push_before-requires-in-loop-change-clause-fits
push_before-requires-in-loop-change-clause-fits c =
    let at = c.loop-change in
    let xs = c.as_slice-changes.result.now in
    let x = c.change-item.result in
    (subst (ChangesFit (slice_parts plane_parts_of c.args.slice.now)) (drop_read xs at.change-index x (omega arith) c.change-item.is) at.invariant.fits).0
