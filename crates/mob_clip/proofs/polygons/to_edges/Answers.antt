use Rattle.mob_slice.{specs.Lines.{plane_continued}, proofs.Orders.{ordered}}
use Rattle.mob_clip.proofs.polygons.to_edges.Goals as goal

pub restricted-requires : goal.restricted-requires
restricted-requires c = record { ordered = rw c.slices.ensures.same (ordered (λ k. k.from) (λ k. k.to) plane_continued c.args.a.now c.slices.ensures.normal.chained) }
