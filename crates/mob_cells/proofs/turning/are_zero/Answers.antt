use Rattle.std.proofs.Common.{◌≡◌, true, false, refl, sym, ◌∙◌}
use Rattle.mob_ratio.{specs.Order.{same}, specs.Sign.{nil}}
use Rattle.mob_cells.proofs.GapTurns.{nil_test}
use Rattle.mob_cells.proofs.turning.are_zero.Goals as goal

pub returns-then-not-is_zero : goal.returns-then-not-is_zero
returns-then-not-is_zero c =
    let n : same c.args.x.now nil ≡ false = sym (nil_test c.args.x.now c.is_zero.result c.is_zero.ensures.zero) ∙ c.if-not-is_zero.true in
    record { value = rw n refl }

pub returns : goal.returns
returns c =
    let m : same c.args.x.now nil ≡ true = sym (nil_test c.args.x.now c.is_zero.result c.is_zero.ensures.zero) ∙ c.if-not-is_zero.false in
    record { value = rw m (nil_test c.args.y.now c.is_zero-2.result c.is_zero-2.ensures.zero) }
