use Rattle.std.proofs.Common.{drop}
use Rattle.mob_clip.{specs.Sides.{with_turn, turning_parts}, proofs.Listing.{IsMapping}}
use Rattle.mob_clip.proofs.sides.turned.Given as goal

abbrev pub invariant-loop-beside : goal.invariant-loop-beside
invariant-loop-beside l = IsMapping (with_turn l.p l.q) (λ b. turning_parts l.p l.q b.edge) l.edges (drop l.beside-index l.edges) l.out.items
