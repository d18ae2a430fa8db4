use Rattle.std.proofs.Common.{refl, sym, ◌∙◌}
use Rattle.mob_cells.proofs.turning.order_by.Goals as goal

pub returns-then-are_zero : goal.returns-then-are_zero
returns-then-are_zero c = record { value = rw (sym c.are_zero.ensures.value ∙ c.if-are_zero.true) refl }

pub returns : goal.returns
returns c = record { value = rw (sym c.are_zero.ensures.value ∙ c.if-are_zero.false) refl }
