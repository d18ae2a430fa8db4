use Rattle.std.proofs.Common.{◌≡◌, ◌∙◌, ◌+◌, ◌++◌, ◌∷◌, [], ap, sym, arith}
use Rattle.mob_catalog.{specs.Kept.{numbers_from}, proofs.FirstRows.{numbers_more}}
use Rattle.mob_catalog.proofs.first_rows.first_numbers.Goals as goal

pub loop-number-preserved : goal.loop-number-preserved
loop-number-preserved c =
    let number = c.loop-number.number in
    let from : number ≡ 0 + number = omega arith in
    c.in_ok-push.ensures.items ∙ ap (λ ns. ns ++ number ∷ []) c.loop-number.invariant ∙ ap (λ k. numbers_from 0 number ++ k ∷ []) from ∙ sym (numbers_more 0 number)
