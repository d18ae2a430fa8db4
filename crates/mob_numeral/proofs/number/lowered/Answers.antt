use Rattle.std.proofs.Common.{◌≡◌, ◌^◌, ◌-◌, ◌*◌}
use Rattle.mob_numeral.proofs.Powers.{ten_pos, halves}
use Rattle.mob_numeral.proofs.number.lowered.Goals as goal

pub over_product-requires-clause-right : goal.over_product-requires-clause-right
over_product-requires-clause-right c = rw c.ten_to-then-down-gt27.ensures.power (ten_pos (c.args.down - 27))

pub over_product-requires-else-down-gt27-clause-left : goal.over_product-requires-else-down-gt27-clause-left
over_product-requires-else-down-gt27-clause-left c = rw c.ten_to-else-down-gt27.ensures.power (ten_pos c.args.down)

pub returns-then-down-gt27 : goal.returns-then-down-gt27
returns-then-down-gt27 c =
    let e : c.ten_to.result * c.ten_to-then-down-gt27.result ≡ 10 ^ c.args.down = rw (c.ten_to.ensures.power, c.ten_to-then-down-gt27.ensures.power) (halves c.args.down c.if-down-gt27.true) in
    record { exact = rw (← e) c.over_product.ensures.exact }
