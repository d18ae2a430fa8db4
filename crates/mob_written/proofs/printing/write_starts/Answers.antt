use Rattle.std.proofs.Common.{string_bytes, arith}
use Rattle.mob_slice.specs.CourseOf.{course_of}
use Rattle.mob_written.{specs.Style.{style_of}, specs.Printed.{start_text}}
use Rattle.mob_scalar.{proofs.Parted.{parted}, proofs.CommasWritten.{commas_done}}
use Rattle.mob_written.proofs.printing.write_starts.Goals as goal

pub returns : goal.returns
returns g c =
    let style = style_of (course_of g.C.Course g.C.Base.BaseValue.is_same) g.C.Base.Printed.text c.args.epoch.now in
    record {
      written = commas_done (start_text style) c.args.slices.now c.first-item.result _ c.loop-next.next-index (string_bytes c.args.into.now) (string_bytes c.write_start.new.into) (string_bytes c.loop-next.into)
          (parted c.args.slices.now c.first-item.result c.first-item.is (omega arith)) (omega arith) c.in_ok-write_start.ensures.written c.loop-next.invariant;
    }
