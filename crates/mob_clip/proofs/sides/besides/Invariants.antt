use Rattle.std.proofs.Common.{drop}
use Rattle.mob_clip.{specs.Sides.{beside, beside_parts}, specs.Known.{IsKnown}, proofs.Listing.{IsMapping}}
use Rattle.mob_clip.proofs.sides.besides.Given as goal

abbrev pub invariant-loop-edge : goal.invariant-loop-edge
invariant-loop-edge l = record {
  listed : IsMapping (beside l.p l.q) (beside_parts l.p l.q) l.edges (drop l.edge-index l.edges) l.out.items;
  known : IsKnown l.p l.q l.known;
}
