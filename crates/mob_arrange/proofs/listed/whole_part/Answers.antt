use Rattle.std.{specs.Int.{w64}, proofs.Common.{rules, ◌≡◌, ◌∙◌, FitsSigned, pos, ap, sym}, proofs.lemmas.Int.{to_z-of_z}}
use Rattle.mob_ratio.specs.Ratio.{whole}
use Rattle.mob_arrange.proofs.WholeNumbers.{is_whole}
use Rattle.mob_arrange.proofs.listed.whole_part.Goals as goal

pub returns-then-den-eq1 : goal.returns-then-den-eq1
returns-then-den-eq1 c =
    let fits : FitsSigned w64 c.num.result = search rules in
    let one : pos c.args.number.now.den ≡ pos 1 = search rules in
    let same : c.args.number.now.den ≡ 1 = cc one in
    record { whole = λ known. simp to_z-of_z (is_whole c.args.number.now same ∙ ap whole (sym c.num.ensures.value)) }
