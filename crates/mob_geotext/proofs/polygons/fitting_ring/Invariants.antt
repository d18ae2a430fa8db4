use Rattle.std.proofs.Common.{◌≡◌, drop}
use Rattle.mob_scalar.{specs.Traverse.{traverse}, proofs.Traversed.{with_list}}
use Rattle.mob_geotext.proofs.polygons.fitting_ring.Given as goal

-- the points read so far, and those still to be read
abbrev pub invariant-loop-place : goal.invariant-loop-place
invariant-loop-place l = with_list l.points.items (traverse (λ p. p) (drop l.place-index l.ring)) ≡ traverse (λ p. p) l.ring
