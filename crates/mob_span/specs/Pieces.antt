-- Pieces of time in order, each with its data.
use Rattle.std.specs.Prelude.{◌≡◌, true, cond, List, [], ◌∷◌, Option, None, Some}
use Rattle.mob_ratio.specs.Ratio.{Ratio}
use Rattle.mob_span.{specs.Chained.{Chained}, specs.Span.{SpanOf, has, has_instant}, specs.Neighbours.{is_clear}}

-- the pieces are ordered and disjoint, and each has an instant
abbrev pub PiecesAreClear : {P : Type 0} → (P → SpanOf) → List P → Type 0
PiecesAreClear span pieces = Chained (λ p. has_instant (span p) ≡ true) (λ p q. is_clear (span p) (span q) ≡ true) pieces

-- the piece that has the instant t
abbrev pub piece_at : {P : Type 0} → (P → SpanOf) → List P → Ratio → Option P
piece_at span [] t = None
piece_at span (p ∷ pieces) t = cond (has (span p) t) (Some p) (piece_at span pieces t)
