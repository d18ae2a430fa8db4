use Rattle.std.proofs.Common.{◌∙◌, ap}
use Rattle.mob_slice.{specs.Lines.{line_value_of}, specs.Slices.{value_at}}
use Rattle.mob_value.proofs.Widening.{level_normal, level_at, all_level}
use Rattle.mob_value.proofs.lines.widen.Goals as goal

pub from_normal-requires : goal.from_normal-requires
from_normal-requires c =
    let v = c.args.a.now in
    let made = all_level c.slices-slices.result.now v c.loop-slice.lines.items c.loop-slice.slice-index c.slices-slices.ensures.same c.loop-slice-test.false c.loop-slice.invariant in
    record { normal = level_normal v c.loop-slice.lines.items c.slices-slices.ensures.normal made }

pub returns : goal.returns
returns c =
    let v = c.args.a.now in
    let made = all_level c.slices-slices.result.now v c.loop-slice.lines.items c.loop-slice.slice-index c.slices-slices.ensures.same c.loop-slice-test.false c.loop-slice.invariant in
    record {
      same = λ t. ap (λ z. value_at line_value_of z t) c.from_normal.ensures.same ∙ level_at v c.loop-slice.lines.items made t;
      level = c.from_normal.ensures.same ∙ made;
    }
