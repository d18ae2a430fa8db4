use Rattle.mob_knn.{specs.Gaps.{range_gap_parts, gap_east, gap_north}, proofs.Fitting.{behind_both}}
use Rattle.mob_knn.proofs.gaps.measure.area_gap.Goals as goal

pub returns : goal.returns
returns c =
    let a = c.args.a.now in
    let b = c.args.b.now in
    record { value = behind_both (range_gap_parts a.xmin a.xmax b.xmin b.xmax) (range_gap_parts a.ymin a.ymax b.ymin b.ymax) (gap_east a b) (gap_north a b) c.in_ok-x.x c.in_ok-y.y _ c.in_ok-x.ensures.value c.in_ok-y.ensures.value c.square.ensures.value }
