use Rattle.std.proofs.Common.{sym}
use Rattle.mob_numeral.{proofs.NumberExact.{number_exact}, proofs.Bounded.{number_bounded}}
use Rattle.mob_numeral.proofs.number.number_value_at.Goals as goal

pub fitting_number-requires : goal.fitting_number-requires
fitting_number-requires c =
    let read = number_exact.sound c.args.bytes.now c.in-Some.rest.now c.in-Some.numeral (sym c.in-Some.ensures.value) in
    record { bounded = number_bounded read.front c.in-Some.numeral read.said }
