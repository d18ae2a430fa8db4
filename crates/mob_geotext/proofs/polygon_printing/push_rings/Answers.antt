use Rattle.std.{proofs.Common.{string_bytes, arith, ap}, proofs.lemmas.List.{drop_all}}
use Rattle.mob_plane.specs.Rings.{rings_of}
use Rattle.mob_scalar.proofs.Parted.{parted}
use Rattle.mob_geotext.{specs.PolygonText.{ring_text}, proofs.JoinedWritten.{joined_done}}
use Rattle.mob_geotext.proofs.polygon_printing.push_rings.Goals as goal

pub returns : goal.returns
returns c = record {
  written = joined_done ring_text (rings_of c.args.rings.now) c.first-item.result.items _ _ (string_bytes c.args.into.now) (string_bytes c.push_ring.new.into) (string_bytes c.loop-next.into)
      (ap rings_of (parted c.args.rings.now c.first-item.result c.first-item.is (omega arith))) (ap rings_of (drop_all c.loop-next.next-index _ (omega arith))) (rw c.as_slice.ensures.value at c.in_ok-push_ring.ensures.written) c.loop-next.invariant;
}
