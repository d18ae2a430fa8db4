-- The walk over all instants at which one of two temporal values is defined, as contracts see it.
use Rattle.std.{specs.Prelude.{◌≡◌, true, List, [], ◌∷◌, Option, Some, None, MatchOption}, specs.Iterator.{Count, at_most}}
use Rattle.mob_span.{specs.Span.{SpanOf}, specs.Neighbours.{is_inside}, specs.Pieces.{PiecesAreClear}}
use Rattle.mob_slice.{specs.Slices.{IsSound}, specs.declared.slice.Slice.{Slice}, specs.declared.part.One.{One}}
use Rattle.mob_shares.{specs.Cuts.{CutOf, wholes}, specs.Sharing.{ShareOf, next_share, behind_piece, most_shares}, specs.declared.shares.Rest.{Rest}, specs.declared.shares.Share.{Share}}
use Rattle.mob_shares.{specs.declared.shares.Share.TheVariants.{Left, Right, Both}, specs.declared.shares.Shares.{Shares}}

-- a slice with the rest of its span
abbrev pub cut_of : {C : Type 0} → One C → CutOf (Slice C)
cut_of o = record { span = o.span; of = o.slice.now }

-- the slices, the first of them with that rest of its span, or with its whole span
abbrev pub cuts_by : {C : Type 0} → Option SpanOf → List (Slice C) → List (CutOf (Slice C))
cuts_by o [] = []
cuts_by None (s ∷ rest) = record { span = s.span; of = s } ∷ wholes (λ s. s.span) rest
cuts_by (Some r) (s ∷ rest) = record { span = r; of = s } ∷ wholes (λ s. s.span) rest

abbrev pub rest_of : {C : Type 0} → Rest C → List (CutOf (Slice C))
rest_of r = cuts_by r.first r.slices.now

abbrev pub share_of : {C : Type 0} → Share C → ShareOf (Slice C) (Slice C)
share_of (Left o) = record { span = o.span; left = Some o.slice.now; right = None }
share_of (Right o) = record { span = o.span; left = None; right = Some o.slice.now }
share_of (Both p) = record { span = p.span; left = Some p.left.now; right = Some p.right.now }

abbrev pub share_span : {C : Type 0} → Share C → SpanOf
share_span p = (share_of p).span

-- both lists are in order of time
abbrev pub CanShare : {C : Type 0} → Shares C → Type 0
CanShare s = PiecesAreClear (λ c. c.span) (rest_of s.lefts) × PiecesAreClear (λ c. c.span) (rest_of s.rights)

-- the next piece is returned, and the rest after it is left
pub record IsShared {C : Type 0} (s : Shares C) (p : Share C) (t : Shares C) : Type 0 where
  pub next : next_share (rest_of s.lefts) (rest_of s.rights) ≡ Some (share_of p)
  pub left : rest_of t.lefts ≡ behind_piece (share_span p) (share_of p).left (rest_of s.lefts)
  pub right : rest_of t.rights ≡ behind_piece (share_span p) (share_of p).right (rest_of s.rights)

abbrev pub GivesShare : {C : Type 0} → Shares C → Option (Share C) → Shares C → Type 0
GivesShare s r t = MatchOption r ((rest_of s.lefts ≡ []) × (rest_of s.rights ≡ [])) (λ p. IsShared s p t)

abbrev pub shares_left : {C : Type 0} → Shares C → Count
shares_left s = at_most (most_shares (rest_of s.lefts) (rest_of s.rights))

-- a slice is sound and contains a piece
abbrev pub HoldsThere : {C B : Type 0} → (C → B) → (C → B) → SpanOf → Option (Slice C) → Type 0
HoldsThere start end r None = Unit {0}
HoldsThere start end r (Some s) = IsSound start end s × (is_inside s.span r ≡ true)

abbrev pub HoldsShare : {C B : Type 0} → (C → B) → (C → B) → ShareOf (Slice C) (Slice C) → Type 0
HoldsShare start end p = HoldsThere start end p.span p.left × HoldsThere start end p.span p.right
