-- The pieces of time that the entries of two lists share.
use Rattle.std.{specs.Prelude.{◌≡◌, List, map, option_map}, specs.Option.{option_zip}, specs.List.{flat_map, filter}}
use Rattle.mob_ratio.specs.Ratio.{Ratio}
use Rattle.mob_span.{specs.Span.{SpanOf, has_instant}, specs.Meet.{meet_of}, specs.Pieces.{PiecesAreClear, piece_at}}

-- a piece of time, with an entry of each list that holds there
pub record PieceOf (X Y : Type 0) : Type 0 where
  pub span : SpanOf
  pub left : X
  pub right : Y

-- For each x of v, and for each y of w that shares an instant with it: the instants that they
-- share, with x and y. The entries may be of any type that has a span.
abbrev pub shared_pieces : {X Y : Type 0} → (X → SpanOf) → (Y → SpanOf) → List X → List Y → List (PieceOf X Y)
shared_pieces span span' v w = flat_map (λ x. map (λ y. record { span = meet_of (span x) (span' y); left = x; right = y }) (filter (λ y. has_instant (meet_of (span x) (span' y))) w)) v

-- The pieces are ordered and disjoint, and each has an instant. At each instant, the piece there
-- has the entries that the two lists have there. If one of the lists has none, no piece has the
-- instant.
pub record AreCommon {X Y : Type 0} (span : X → SpanOf) (span' : Y → SpanOf) (v : List X) (w : List Y) (pieces : List (PieceOf X Y)) : Type 0 where
  pub clear : PiecesAreClear (λ p. p.span) pieces
  pub at_each : (t : Ratio) → option_map (λ p. (p.left, p.right)) (piece_at (λ p. p.span) pieces t) ≡ option_zip (piece_at span v t) (piece_at span' w t)

-- if two lists are ordered and disjoint, the shared pieces are the common ones
abbrev pub SharedAreCommon : {X Y : Type 0} → (X → SpanOf) → (Y → SpanOf) → Type 0
SharedAreCommon {X} {Y} span span' = (v : List X) (w : List Y) → PiecesAreClear span v → PiecesAreClear span' w → AreCommon span span' v w (shared_pieces span span' v w)
