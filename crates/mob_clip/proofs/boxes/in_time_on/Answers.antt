use Rattle.std.{proofs.Common.{◌≡◌, sym, subst, true, false}, proofs.lemmas.Result.{err_from_is_err_and}}
use Rattle.mob_span.{specs.Neighbours.{is_inside}, proofs.Insides.{inside_self, meet_left}}
use Rattle.mob_slice.{specs.Cut.{slice_value}, specs.Lines.{plane_value_of}, specs.PlaneLaws.{plane_laws}, specs.Entries.{IsFirst}, specs.OnPiece.{AreKeptOn}}
use Rattle.mob_cells.{specs.Restricted.{kept_value}, proofs.OwnEnds.{own_fit}}
use Rattle.mob_stbox.specs.Boxes.{in_space}
use Rattle.mob_clip.{specs.Boxes.{entries_of_space}, proofs.InTime.{none_shared, cut_fails, time_kept}}
use Rattle.mob_clip.proofs.boxes.in_time_on.Goals as goal

pub piece_on-requires-clause-holds : goal.piece_on-requires-clause-holds
piece_on-requires-clause-holds c = (inside_self c.args.slice.now.span, own_fit plane_laws c.args.slice.now)

pub returns-in-None : goal.returns-in-None
returns-in-None c = record { kept = none_shared c.args.slice.now c.requires.sound c.args.want c.args.time.now c.args.space.now (λ v. v.items) c.piece_on.result c.in-None.ensures.test (rw c.same_bool.ensures.value at c.piece_on.ensures.whole) }

pub cut-requires : goal.cut-requires
cut-requires c =
    let i : is_inside c.args.slice.now.span c.in-Some.shared ≡ true = rw c.in-Some.ensures.ends (meet_left c.args.slice.now.span c.args.time.now) in
    record { holds = (c.requires.sound, i) }

pub returns-in_err-part : goal.returns-in_err-part
returns-in_err-part c =
    let p = err_from_is_err_and c.from_residual.result c.from_residual.ensures.1 in
    record { kept = rw (p.1, p.2) (cut_fails c.args.slice.now c.requires.sound c.args.want c.args.time.now c.args.space.now false c.in-Some.shared c.in_err-part.field-0.0 c.in-Some.ensures.ends c.in-Some.ensures.test c.in_err-part.ensures.slice) }

pub in_space_on-requires-clause-holds : goal.in_space_on-requires-clause-holds
in_space_on-requires-clause-holds c =
    let i : is_inside c.args.slice.now.span c.in-Some.shared ≡ true = rw c.in-Some.ensures.ends (meet_left c.args.slice.now.span c.args.time.now) in
    (c.requires.sound, subst (λ z. is_inside c.args.slice.now.span z ≡ true) (sym c.in_ok-part.ensures.slice.0.on) i)

pub around-requires-clause-holds : goal.around-requires-clause-holds
around-requires-clause-holds c =
    let i : is_inside c.args.slice.now.span c.in-Some.shared ≡ true = rw c.in-Some.ensures.ends (meet_left c.args.slice.now.span c.args.time.now) in
    (c.requires.sound, i)

pub returns : goal.returns
returns c =
    let s = c.args.slice.now in
    let on = c.in_ok-part.ensures.slice.0.on in
    let k = c.in_ok-middle.ensures.kept in
    record {
      kept = time_kept s c.requires.sound c.args.want c.args.time.now c.args.space.now (λ v. v.items) c.around.result c.in-Some.shared c.in_ok-middle.middle.items c.in-Some.ensures.ends c.in-Some.ensures.test c.in_ok-part.ensures.slice.1
          (subst (λ z. AreKeptOn plane_value_of (λ q. q.from) (λ q. q.to) (λ t. kept_value c.args.want (in_space c.args.space.now (slice_value plane_value_of s t)) (slice_value plane_value_of s t)) z c.in_ok-middle.middle.items) on k.0)
          (subst (λ z. IsFirst (entries_of_space c.args.space.now s z) _) on k.1)
          c.around.ensures.around;
    }
