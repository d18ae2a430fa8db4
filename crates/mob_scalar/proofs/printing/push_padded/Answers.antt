use Rattle.std.{proofs.Common.{◌≡◌, ◌+◌, length, ap, arith}, proofs.lemmas.Grind.{common_steps}}
use Rattle.mob_scalar.proofs.Padding.{decimal_short}
use Rattle.mob_scalar.proofs.printing.push_padded.Goals as goal

pub overflow_sub-width : goal.overflow_sub-width
overflow_sub-width c =
    let s = decimal_short c.args.width c.args.n c.requires.some c.requires.most c.requires.fits in
    let e = ap length c.format-digits.ensures.text in
    omega (arith, s.most, e)

pub zeros-requires : goal.zeros-requires
zeros-requires c =
    let s = decimal_short c.args.width c.args.n c.requires.some c.requires.most c.requires.fits in
    let e = ap length c.format-digits.ensures.text in
    record { count = omega (arith, s.some, e, c.requires.most) }

pub returns-clause-len : goal.returns-clause-len
returns-clause-len c =
    let s = decimal_short c.args.width c.args.n c.requires.some c.requires.most c.requires.fits in
    let e = ap length c.format-digits.ensures.text in
    let total : length c.zeros.result.now + length c.format-digits.result.now ≡ c.args.width = omega (arith, s.most, e, c.zeros.ensures.len) in
    grind (arith, common_steps, total)

pub returns-clause-room : goal.returns-clause-room
returns-clause-room c =
    let s = decimal_short c.args.width c.args.n c.requires.some c.requires.most c.requires.fits in
    let e = ap length c.format-digits.ensures.text in
    let total : length c.zeros.result.now + length c.format-digits.result.now ≡ c.args.width = omega (arith, s.most, e, c.zeros.ensures.len) in
    grind (arith, common_steps, total)
