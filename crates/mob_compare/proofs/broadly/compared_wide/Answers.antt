use Rattle.mob_slice.{specs.Sides.{piece_of, pieces, operand_of, HoldsPiece}, specs.Operands.{steady_value, steady_limit}, proofs.Yielded.{clear_along, all_along}}
use Rattle.mob_lift.{specs.Pieces.{pieces_left}, proofs.Overall.{whole}}
use Rattle.mob_compare.{specs.Sql.Wide.{given_changes}, proofs.AtEach.{changes_alone}}
use Rattle.mob_compare.proofs.broadly.compared_wide.Goals as goal

pub lift-requires-clause-clear : goal.lift-requires-clause-clear
lift-requires-clause-clear g c = clear_along piece_of pieces_left (λ p. p.span) c.new.result c.new.ensures.clear

pub lift-requires-clause-fit : goal.lift-requires-clause-fit
lift-requires-clause-fit g c = all_along piece_of pieces_left (HoldsPiece g.C.Course.start_of g.C.Course.end_of g.C.Course.start_of g.C.Course.end_of) c.new.result c.new.ensures.hold

pub lift-requires-clause-sound : goal.lift-requires-clause-sound
lift-requires-clause-sound g c = λ p v s h k.
    let on = (rw k.shows at k.says.met).0 in
    (on.ordered, on.inside)

pub returns : goal.returns
returns g c =
    let entries = given_changes g.C.Course.value_of g.C.Compared.gaps_of (g.C.Compared.relation c.args.rel) in
    let all = whole g.C.Course.value_of g.C.Course.value_of steady_value steady_limit steady_limit (λ v. v.items) (g.C.Compared.relation c.args.rel) entries pieces_left (λ v. v.items) c.new.result (operand_of c.args.a) (operand_of c.args.b) c.requires.moving c.new.ensures.all
    _ _ c.lift.result (λ p v k. rw k.1.shows at k.1.says.met) (λ f p k. rw k.1.shows at k.1.says.met) c.lift.ensures.lifted c.lift.ensures.passed in
    record {
      slices = all.0;
      first = all.1;
      memory = λ s. changes_alone g.met.C.Course.laws g.met.C.Compared.laws s (g.C.Compared.relation c.args.rel) (pieces (operand_of c.args.a) (operand_of c.args.b)) c.lift.result all.1;
    }
