use Rattle.std.{specs.List.{flat_map}, proofs.Common.{◌≡◌, ◌++◌, drop}}
use Rattle.mob_clip.specs.Roots.{edge_roots}
use Rattle.mob_clip.proofs.roots.roots_of.Given as goal

abbrev pub invariant-loop-edge : goal.invariant-loop-edge
invariant-loop-edge l = l.out.items ++ flat_map edge_roots (drop l.edge-index l.edges) ≡ flat_map edge_roots l.edges
