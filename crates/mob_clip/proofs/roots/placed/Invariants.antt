use Rattle.std.proofs.Common.{drop}
use Rattle.mob_cells.specs.Roots.{roots_parts}
use Rattle.mob_clip.{specs.Roots.{place_edge, listed_ends}, proofs.Listing.{IsMapping}}
use Rattle.mob_clip.proofs.roots.placed.Given as goal

abbrev pub invariant-loop-edge : goal.invariant-loop-edge
invariant-loop-edge l = IsMapping (place_edge l.span) (λ g. roots_parts l.span (listed_ends g)) l.edges (drop l.edge-index l.edges) l.out.items
