use Rattle.std.{proofs.Common.{◌≡◌, ◌∙◌, length, sym, arith}, proofs.lemmas.Result.{IfOk-weaker}}
use Rattle.mob_knn.proofs.Scanning.{all_below}
use Rattle.mob_knn.proofs.scan.are_all_below.Goals as goal

pub returns : goal.returns
returns c =
    let full : length c.args.best.now ≡ c.args.k = omega arith in
    record { below = IfOk-weaker c.is_below.result _ _ (λ b e h. all_below c.args.k c.args.bound.now c.args.best.now c.in-Some._rest.now c.in-Some.last.now c.in-Some.ensures.cases.0 full c.requires.rising (sym e ∙ h)) c.is_below.ensures.value }
