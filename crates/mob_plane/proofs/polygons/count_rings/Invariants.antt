use Rattle.std.proofs.Common.{drop}
use Rattle.mob_plane.{specs.Rings.{all_edges, rings_of}, specs.EdgeWise.{none_yet}, proofs.Counts.{IsCounting}}
use Rattle.mob_plane.proofs.polygons.count_rings.Given as goal

abbrev pub invariant-loop-ring : goal.invariant-loop-ring
invariant-loop-ring l = IsCounting l.p (all_edges (rings_of l.rings)) (all_edges (rings_of (drop l.ring-index l.rings))) none_yet l.tally
