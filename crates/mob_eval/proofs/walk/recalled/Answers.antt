use Rattle.mob_eval.{specs.Views.{scene_of}, proofs.Recalled.{recalled_says}}
use Rattle.mob_eval.proofs.walk.recalled.Goals as goal

pub returns-in-Some : goal.returns-in-Some
returns-in-Some g c =
    let memo = c.in-Some.memo in
    record { says = recalled_says g.K.Remembering.recollection (scene_of c.args.view.now) c.args.e.now memo.at memo.place memo.row c.requires.fits (rw c.in-Some.is at c.requires.memo) c.told.result c.told.ensures.told }
