use Rattle.std.proofs.Common.{ap, subst, sym}
use Rattle.mob_typed.proofs.TreeFacts.{typed_is}
use Rattle.mob_eval.{specs.Views.{scene_of}, specs.Remembered.{IsMemoOf, place_of}, proofs.Recalled.{box_told, told_box}}
use Rattle.mob_clip.proofs.OwnBoxes.{has_given}
use Rattle.mob_eval.proofs.memory.own_box.box_with.Goals as goal

pub returns-in-Some-kept_box : goal.returns-in-Some-kept_box
returns-in-Some-kept_box g c =
    let memo = c.in-Some.memo in
    let s = scene_of c.args.view.now in
    let of = subst (λ n. IsMemoOf g.K.Remembering.recollection n s.tuple memo.at memo.place memo.row) (sym (ap place_of (typed_is c.args.operand.now))) c.in-Some.ensures.memo in
    let has = told_box g.K.Remembering.recollection s c.args.operand.now memo.at memo.place memo.row c.requires.fits of c.args.value.now c.in-Some-kept_box.area c.requires.value c.in-Some-kept_box.ensures.told in
    record { own = has_given c.args.value.now c.in-Some-kept_box.area has }

pub keep-requires : goal.keep-requires
keep-requires g c =
    let memo = c.in-Some.memo in
    let s = scene_of c.args.view.now in
    let of = subst (λ n. IsMemoOf g.K.Remembering.recollection n s.tuple memo.at memo.place memo.row) (sym (ap place_of (typed_is c.args.operand.now))) c.in-Some.ensures.memo in
    record { told = box_told g.K.Remembering.recollection s c.args.operand.now memo.at memo.place memo.row c.requires.fits of c.args.value.now c.in-Some-box_of_value.area c.requires.value c.in-Some-box_of_value.ensures.own }
