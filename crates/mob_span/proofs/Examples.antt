-- Worked examples of the definitions. Each holds by computing.
use Rattle.std.specs.Prelude.{◌≡◌, Bool, true, false, pos, [], ◌∷◌, map, refl}
use Rattle.mob_ratio.{specs.Gcd.{gcd, gcd_steps}, specs.Lowest.{in_lowest_terms}, specs.Ratio.{Ratio, over, whole}, specs.Order.{before}}
use Rattle.mob_span.{specs.Span.{SpanOf}, specs.Meets.{shared_pieces}, specs.Remainders.{remainders_of}}

abbrev from_to : Ratio → Ratio → Bool → Bool → SpanOf
from_to l u i j = record { lower = l; upper = u; lower_inc = i; upper_inc = j }

-- [0, 2) and [1, 3] share [1, 2)
shared_example : map (λ p. p.span) (shared_pieces (λ s. s) (λ s. s) (from_to (whole (pos 0)) (whole (pos 2)) true false ∷ []) (from_to (whole (pos 1)) (whole (pos 3)) true true ∷ [])) ≡ from_to (whole (pos 1)) (whole (pos 2)) true false ∷ []
unfolding over gcd gcd_steps in_lowest_terms whole before
shared_example = refl

-- and [0, 2) without [1, 3] is [0, 1)
left_example : remainders_of (from_to (whole (pos 0)) (whole (pos 2)) true false) (from_to (whole (pos 1)) (whole (pos 3)) true true ∷ []) ≡ from_to (whole (pos 0)) (whole (pos 1)) true false ∷ []
unfolding over gcd gcd_steps in_lowest_terms whole before
left_example = refl

-- [0, 4] without the instant 2 is two spans, both excluding 2
hole_example : remainders_of (from_to (whole (pos 0)) (whole (pos 4)) true true) (from_to (whole (pos 2)) (whole (pos 2)) true true ∷ []) ≡ from_to (whole (pos 0)) (whole (pos 2)) true false ∷ from_to (whole (pos 2)) (whole (pos 4)) false true ∷ []
unfolding over gcd gcd_steps in_lowest_terms whole before
hole_example = refl

-- between two spans that exclude one instant, that instant remains
instant_example : remainders_of (from_to (whole (pos 0)) (whole (pos 4)) true true) (from_to (whole (pos 0)) (whole (pos 2)) true false ∷ from_to (whole (pos 2)) (whole (pos 4)) false true ∷ []) ≡ from_to (whole (pos 2)) (whole (pos 2)) true true ∷ []
unfolding over gcd gcd_steps in_lowest_terms whole before
instant_example = refl
