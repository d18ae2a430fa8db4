use Rattle.std.{proofs.Common.{string_bytes, arith}, proofs.lemmas.List.{drop_all}}
use Rattle.mob_scalar.proofs.Parted.{parted}
use Rattle.mob_geotext.{specs.PolygonText.{vertex_text}, proofs.JoinedWritten.{joined_done}}
use Rattle.mob_geotext.proofs.polygon_printing.push_vertices.Goals as goal

pub returns : goal.returns
returns c = record {
  written = joined_done vertex_text c.args.points.now c.first-item.result _ _ (string_bytes c.args.into.now) (string_bytes c.push_vertex.new.into) (string_bytes c.loop-next.into)
      (parted c.args.points.now c.first-item.result c.first-item.is (omega arith)) (drop_all c.loop-next.next-index _ (omega arith)) c.in_ok-push_vertex.ensures.written c.loop-next.invariant;
}
