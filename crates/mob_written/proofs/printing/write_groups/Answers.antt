use Rattle.std.proofs.Common.{string_bytes, arith}
use Rattle.mob_slice.specs.CourseOf.{course_of}
use Rattle.mob_written.{specs.Style.{style_of}, proofs.Groups.{groups_done}}
use Rattle.mob_scalar.proofs.Parted.{parted, on_ok}
use Rattle.mob_written.proofs.printing.write_groups.Goals as goal

pub returns : goal.returns
returns g c =
    let style = style_of (course_of g.C.Course g.C.Base.BaseValue.is_same) g.C.Base.Printed.text c.args.epoch.now in
    record {
      written = on_ok c.write_end.result (λ ends. groups_done style c.args.slices.now c.first-item.result c.loop-next.last.now _ c.loop-next.next-index (string_bytes c.args.into.now) (string_bytes c.write_opening.new.into) (string_bytes c.write_start.new.into) (string_bytes c.loop-next.into) (string_bytes c.write_end.new.into)
          (parted c.args.slices.now c.first-item.result c.first-item.is (omega arith)) (omega arith) c.in_ok-write_opening.ensures.written c.in_ok-write_start.ensures.written c.loop-next.invariant ends) c.write_end.ensures.written;
    }
