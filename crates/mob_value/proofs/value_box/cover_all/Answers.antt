use Rattle.std.proofs.Common.{arith, ap, ◌∙◌, ◌≡◌}
use Rattle.mob_stbox.specs.Boxes.{cover}
use Rattle.mob_value.{specs.ValueBoxes.{slice_box}, proofs.ValueBoxes.{next_covered, next_whole}}
use Rattle.mob_value.proofs.value_box.cover_all.Goals as goal

pub loop-slice-preserved : goal.loop-slice-preserved
loop-slice-preserved c =
    let is : c.cover-over.result ≡ cover c.loop-slice.over (slice_box c.slice-item.result) = c.cover-over.ensures.value ∙ ap (cover c.loop-slice.over) c.slice_box.ensures.value in (
      next_covered c.loop-slice.over c.cover-over.result c.args.first c.args.slices.now c.loop-slice.slice-index c.slice-item.result (omega arith) c.slice-item.is is c.loop-slice.invariant.0,
      next_whole c.loop-slice.over c.cover-over.result c.slice-item.result c.loop-slice.invariant.1 is,
    )
