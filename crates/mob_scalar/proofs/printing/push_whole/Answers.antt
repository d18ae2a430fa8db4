use Rattle.std.{proofs.Common.{◌≤◌, length, ap, arith}, proofs.lemmas.Fmt.{length-decimal-le}, proofs.lemmas.Grind.{common_steps}}
use Rattle.mob_scalar.proofs.printing.push_whole.Goals as goal

pub returns-clause-len : goal.returns-clause-len
returns-clause-len c =
    let short = length-decimal-le 19 c.args.n (omega arith) (omega (arith, c.requires.fits)) (omega (arith, c.requires.fits)) in
    let e = ap length c.format.ensures.text in
    let most : length c.format.result.now ≤ 19 = omega (arith, short, e) in
    grind (arith, common_steps, most)

pub returns-clause-room : goal.returns-clause-room
returns-clause-room c =
    let short = length-decimal-le 19 c.args.n (omega arith) (omega (arith, c.requires.fits)) (omega (arith, c.requires.fits)) in
    let e = ap length c.format.ensures.text in
    let most : length c.format.result.now ≤ 19 = omega (arith, short, e) in
    grind (arith, common_steps, most)
