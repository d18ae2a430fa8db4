-- The pieces of time at which one of two lists has an item.
use Rattle.std.specs.Prelude.{cond, ℕ, ◌+◌, List, [], ◌∷◌, length, Option, Some, None}
use Rattle.mob_span.{specs.Span.{SpanOf, has_instant}, specs.Meet.{meet_of}, specs.Meets.{PieceOf}, specs.Remainders.{front_of}}
use Rattle.mob_shares.specs.Cuts.{CutOf, left_after}

-- A piece of time with the items that two lists have there: one of them, or both.
abbrev pub ShareOf : Type 0 → Type 0 → Type 0
ShareOf X Y = PieceOf (Option X) (Option Y)

-- the piece with which two lists begin: the part of one's first item before that of the other, or
-- the part with which both begin
abbrev pub next_share : {X Y : Type 0} → List (CutOf X) → List (CutOf Y) → Option (ShareOf X Y)
next_share [] [] = None
next_share (c ∷ cs) [] = Some (record { span = c.span; left = Some c.of; right = None })
next_share [] (d ∷ ds) = Some (record { span = d.span; left = None; right = Some d.of })
next_share (c ∷ cs) (d ∷ ds) =
    cond (has_instant (front_of c.span d.span)) (Some (record { span = front_of c.span d.span; left = Some c.of; right = None }))
    (cond (has_instant (front_of d.span c.span)) (Some (record { span = front_of d.span c.span; left = None; right = Some d.of }))
    (Some (record { span = meet_of c.span d.span; left = Some c.of; right = Some d.of })))

-- the rest of a list after a piece in which it has an item, or none
abbrev pub behind_piece : {X : Type 0} → SpanOf → Option X → List (CutOf X) → List (CutOf X)
behind_piece p None cs = cs
behind_piece p (Some x) cs = left_after p cs

-- the piece, if both have an item in it
abbrev pub both_by : {X Y : Type 0} → SpanOf → Option X → Option Y → List (PieceOf X Y)
both_by r None y = []
both_by r (Some x) None = []
both_by r (Some x) (Some y) = record { span = r; left = x; right = y } ∷ []

abbrev pub both_of : {X Y : Type 0} → ShareOf X Y → List (PieceOf X Y)
both_of p = both_by p.span p.left p.right

-- the number of first items that begin before the other list's
abbrev pub fronts : {X Y : Type 0} → List (CutOf X) → List (CutOf Y) → ℕ
fronts [] ds = 0
fronts (c ∷ cs) [] = 0
fronts (c ∷ cs) (d ∷ ds) = cond (has_instant (front_of c.span d.span)) 1 0 + cond (has_instant (front_of d.span c.span)) 1 0

-- an upper bound of the number of pieces
abbrev pub most_shares : {X Y : Type 0} → List (CutOf X) → List (CutOf Y) → ℕ
most_shares cs ds = (length cs + length cs + length cs) + (length ds + length ds + length ds) + fronts cs ds
