use Rattle.std.proofs.Common.{rules, ap, sym, ◌∙◌}
use Rattle.mob_slice.{specs.Lines.{line_value_of}, specs.Slices.{value_at}, proofs.Orders.{ordered}}
use Rattle.mob_restrict.proofs.Axes.{coordinate_ordered, coordinate_at, not_empty, all_lines}
use Rattle.mob_restrict.proofs.coordinates.coordinate.Goals as goal

pub normal-requires : goal.normal-requires
normal-requires c =
    let made = all_lines c.args.axis c.slices-slices.result.now c.args.a.now c.loop-slice.lines.items c.loop-slice.slice-index c.slices-slices.ensures.same c.loop-slice-test.false c.loop-slice.invariant in
    record { ordered = rw made (coordinate_ordered c.args.axis c.args.a.now (ordered _ _ _ c.args.a.now c.slices-slices.ensures.normal.chained)) }

pub unreachable-requires : goal.unreachable-requires
unreachable-requires c =
    let made = all_lines c.args.axis c.slices-slices.result.now c.args.a.now c.loop-slice.lines.items c.loop-slice.slice-index c.slices-slices.ensures.same c.loop-slice-test.false c.loop-slice.invariant in
    absurd (not_empty c.args.axis c.args.a.now c.slices-slices.ensures.normal.some (sym made ∙ (search rules)))

pub returns : goal.returns
returns c =
    let made = all_lines c.args.axis c.slices-slices.result.now c.args.a.now c.loop-slice.lines.items c.loop-slice.slice-index c.slices-slices.ensures.same c.loop-slice-test.false c.loop-slice.invariant in
    let same = rw c.in-Some.is at c.in_ok-value.ensures.same in
    record { value = λ t. same t ∙ ap (λ z. value_at line_value_of z t) made ∙ coordinate_at c.args.axis c.args.a.now t }
