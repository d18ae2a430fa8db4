use Rattle.mob_eval.{specs.Views.{scene_of}, proofs.Recalled.{told_says, says_told}}
use Rattle.mob_eval.proofs.walk.remembered.Goals as goal

pub kept-requires : goal.kept-requires
kept-requires g c =
    let memo = c.in-Some.memo in
    record { told = says_told g.K.Remembering.recollection (scene_of c.args.view.now) c.args.e.now memo.at memo.place memo.row c.requires.fits (rw c.in-Some.is at c.requires.memo) c.args.outcome c.requires.says }

pub returns-in-Some : goal.returns-in-Some
returns-in-Some g c =
    let memo = c.in-Some.memo in
    record { says = told_says g.K.Remembering.recollection (scene_of c.args.view.now) c.args.e.now memo.at memo.place memo.row c.requires.fits (rw c.in-Some.is at c.requires.memo) c.kept.result c.kept.ensures.told }
