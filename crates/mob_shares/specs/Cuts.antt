-- The rest of a list of items with spans of time, from the position of a walk on.
use Rattle.std.specs.Prelude.{cond, List, [], ◌∷◌, ◌++◌, map, Option, Some, None}
use Rattle.mob_ratio.specs.Ratio.{Ratio}
use Rattle.mob_span.{specs.Span.{SpanOf, has, has_instant}, specs.Meet.{meet_of}, specs.Meets.{PieceOf}, specs.Remainders.{back_of}}

-- an item with the instants of it still to come
pub record CutOf (X : Type 0) : Type 0 where
  pub span : SpanOf
  pub of : X

-- the items, each with its whole span
abbrev pub wholes : {X : Type 0} → (X → SpanOf) → List X → List (CutOf X)
wholes span v = map (λ x. record { span = span x; of = x }) v

-- the first of a list
abbrev pub head_of : {X : Type 0} → List X → Option X
head_of [] = None
head_of (x ∷ xs) = Some x

-- a cut before others, if it has an instant
abbrev pub kept : {X : Type 0} → CutOf X → List (CutOf X) → List (CutOf X)
kept c cs = cond (has_instant c.span) (c ∷ cs) cs

-- the rest after the span p, with which the first cut begins
abbrev pub left_after : {X : Type 0} → SpanOf → List (CutOf X) → List (CutOf X)
left_after p [] = []
left_after p (c ∷ cs) = kept (record { span = back_of c.span p; of = c.of }) cs

-- the item at the instant t
abbrev pub entry_at : {X : Type 0} → List (CutOf X) → Ratio → Option X
entry_at [] t = None
entry_at (c ∷ cs) t = cond (has c.span t) (Some c.of) (entry_at cs t)

-- the pieces that one cut shares with each of others, and those of two lists
abbrev pub row_pieces : {X Y : Type 0} → CutOf X → List (CutOf Y) → List (PieceOf X Y)
row_pieces c [] = []
row_pieces c (d ∷ ds) = cond (has_instant (meet_of c.span d.span)) (record { span = meet_of c.span d.span; left = c.of; right = d.of } ∷ row_pieces c ds) (row_pieces c ds)

abbrev pub shared_cuts : {X Y : Type 0} → List (CutOf X) → List (CutOf Y) → List (PieceOf X Y)
shared_cuts [] ds = []
shared_cuts (c ∷ cs) ds = row_pieces c ds ++ shared_cuts cs ds
