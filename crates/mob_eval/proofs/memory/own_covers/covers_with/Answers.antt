use Rattle.std.proofs.Common.{ap, subst, sym}
use Rattle.mob_typed.proofs.TreeFacts.{typed_is}
use Rattle.mob_eval.{specs.Views.{scene_of}, specs.Remembered.{IsMemoOf, place_of}, proofs.Recalled.{covers_right, value_told}}
use Rattle.mob_eval.proofs.memory.own_covers.covers_with.Goals as goal

pub fill-requires : goal.fill-requires
fill-requires g c =
    let memo = c.in-Some.memo in
    let s = scene_of c.args.view.now in
    let of = subst (λ n. IsMemoOf g.K.Remembering.recollection n s.tuple memo.at memo.place memo.row) (sym (ap place_of (typed_is c.args.operand.now))) c.in-Some.ensures.memo in
    record { told = value_told g.K.Remembering.recollection s c.args.operand.now memo.at memo.place memo.row c.requires.fits of c.args.value.now c.requires.value }

pub returns : goal.returns
returns g c =
    let memo = c.in-Some.memo in
    let s = scene_of c.args.view.now in
    let of = subst (λ n. IsMemoOf g.K.Remembering.recollection n s.tuple memo.at memo.place memo.row) (sym (ap place_of (typed_is c.args.operand.now))) c.in-Some.ensures.memo in
    record { own = covers_right g.K.Remembering.recollection s c.args.operand.now memo.at memo.place memo.row c.requires.fits of c.args.value.now c.kept_covers.result c.requires.value c.kept_covers.ensures.told }
