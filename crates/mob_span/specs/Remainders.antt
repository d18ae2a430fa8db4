-- The instants of a span that are not in given spans.
use Rattle.std.specs.Prelude.{◌≡◌, Bool, cond, not, ◌||◌, ◌&&◌, List, [], ◌∷◌}
use Rattle.mob_ratio.{specs.Ratio.{Ratio}, specs.Order.{before, up_to}}
use Rattle.mob_span.{specs.Span.{SpanOf, has, has_instant}, specs.Neighbours.{is_clear}, specs.Sets.{in_some}}

-- the instant t comes before all of r
abbrev pub precedes : Ratio → SpanOf → Bool
precedes t r = before t r.lower || (not r.lower_inc && up_to t r.lower)

-- the instant t comes after all of r
abbrev pub follows : Ratio → SpanOf → Bool
follows t r = before r.upper t || (not r.upper_inc && up_to r.upper t)

-- the part of s before all of r
abbrev pub front_of : SpanOf → SpanOf → SpanOf
front_of s r = record { lower = s.lower; upper = cond (is_clear s r) s.upper r.lower; lower_inc = s.lower_inc; upper_inc = cond (is_clear s r) s.upper_inc (not r.lower_inc) }

-- the part of s after all of r
abbrev pub back_of : SpanOf → SpanOf → SpanOf
back_of s r = record { lower = cond (is_clear r s) s.lower r.upper; upper = s.upper; lower_inc = cond (is_clear r s) s.lower_inc (not r.upper_inc); upper_inc = s.upper_inc }

-- The rest of s without spans that are in order: the part of s before the first of them, and the
-- rest of the part after it without the others.
abbrev pub remainders_of : SpanOf → List SpanOf → List SpanOf
remainders_of s [] = s ∷ []
remainders_of s (r ∷ spans) = cond (has_instant (front_of s r)) (front_of s r ∷ cond (has_instant (back_of s r)) (remainders_of (back_of s r) spans) []) (cond (has_instant (back_of s r)) (remainders_of (back_of s r) spans) [])

-- The remainders have exactly the instants of s that none of the spans has.
abbrev pub AreRemainders : SpanOf → List SpanOf → List SpanOf → Type 0
AreRemainders s spans remainders = (t : Ratio) → in_some remainders t ≡ (has s t && not (in_some spans t))

-- The set has exactly the instants that both sets have.
abbrev pub IsInBoth : List SpanOf → List SpanOf → List SpanOf → Type 0
IsInBoth v w set = (t : Ratio) → in_some set t ≡ (in_some v t && in_some w t)

-- The set has exactly the instants of the first set that are not in the second.
abbrev pub IsInFirstAlone : List SpanOf → List SpanOf → List SpanOf → Type 0
IsInFirstAlone v w set = (t : Ratio) → in_some set t ≡ (in_some v t && not (in_some w t))
