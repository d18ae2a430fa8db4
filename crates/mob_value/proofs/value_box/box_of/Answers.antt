use Rattle.std.proofs.Common.{rules, ◌≡◌, get_or}
use Rattle.mob_slice.specs.Lines.{plane_continued}
use Rattle.mob_value.{specs.ValueBoxes.{slice_box, covered}, proofs.ValueBoxes.{is_box_of, is_value_box}}
use Rattle.mob_value.proofs.value_box.box_of.Goals as goal

pub returns : goal.returns
returns c =
    let covers : c.cover_all.result ≡ covered (slice_box c.first-item.result) c.args.moving.now = search rules in
    let first : c.first-item.result ≡ get_or c.args.moving.now 0 c.first-item.result = search rules in
    record {
      least = is_box_of plane_continued c.args.moving.now c.first-item.result c.cover_all.result c.slices-slices.ensures.normal first covers;
      value = is_value_box c.args.moving.now c.first-item.result c.cover_all.result c.slices-slices.ensures.normal.some first covers;
    }
