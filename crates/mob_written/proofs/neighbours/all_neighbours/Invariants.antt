use Rattle.std.proofs.Common.{◌≡◌, ◌∷◌, drop, Bool}
use Rattle.mob_written.specs.Neighbours.{all_neighbours}
use Rattle.mob_written.proofs.neighbours.all_neighbours.Given as goal

-- all pairs pass if those from the last element seen on do
abbrev pub invariant-loop-next : goal.invariant-loop-next
invariant-loop-next g l = (test : _ → _ → Bool) → ((item : _) (next : _) (passed : Bool) → goal.F-post g l.fn.passes item next passed → passed ≡ test item.now next.now) → all_neighbours test (l.last ∷ drop l.next-index l.rest) ≡ all_neighbours test (l.initial.last ∷ l.rest)
