-- The pieces of the walk, taken together.
use Rattle.std.{specs.Prelude.{◌≡◌, true, List, [], ◌∷◌, Option, Some, None}, specs.List.{AllByRecursion}, specs.Iterator.{Yields, HoldsAlong}, proofs.Common.{sym, subst}}
use Rattle.mob_span.{specs.Span.{SpanOf, has_instant}, specs.Chained.{OfHead}, specs.Neighbours.{is_clear, is_inside}, specs.Pieces.{PiecesAreClear}, proofs.Shared.{AreAllClear}}
use Rattle.mob_slice.{specs.Slices.{IsSound}, specs.declared.slice.Slice.{Slice}}
use Rattle.mob_shares.{specs.Cuts.{CutOf}, specs.Sharing.{behind_piece}, specs.declared.shares.Share.{Share}, specs.declared.shares.Shares.{Shares}}
use Rattle.mob_shares.{specs.Shares.{rest_of, share_of, share_span, CanShare, IsShared, GivesShare, HoldsThere, HoldsShare}, proofs.Sides.{cut_span, IsOf}, proofs.Spans.{inside_by, inside_of}}
use Rattle.mob_shares.{proofs.Steps.{IsStep, next_step}, proofs.Heads.{OnHead, next_heads, of_behind}}

module _ {C : Type 0} where
  abbrev pub Walk : Shares C → List (Share C) → Shares C → Type 0
  Walk = Yields GivesShare

  pub step_of : (s j : Shares C) (p : Share C) → CanShare s → IsShared s p j → IsStep (rest_of s.lefts) (rest_of s.rights) (share_of p) (rest_of j.lefts) (rest_of j.rights)
  step_of s j p can h =
      subst (λ z. IsStep (rest_of s.lefts) (rest_of s.rights) (share_of p) z (rest_of j.rights)) (sym h.left)
      (subst (λ z. IsStep (rest_of s.lefts) (rest_of s.rights) (share_of p) (behind_piece (share_span p) (share_of p).left (rest_of s.lefts)) z) (sym h.right)
      (next_step (rest_of s.lefts) (rest_of s.rights) can.0 can.1 (share_of p) h.next))

  -- the pieces are in order
  clear_from : (xs : List (Share C)) (s t : Shares C) → CanShare s → Walk s xs t → PiecesAreClear share_span xs × ((q : SpanOf) → AreAllClear cut_span q (rest_of s.lefts) → AreAllClear cut_span q (rest_of s.rights) → AreAllClear share_span q xs)
  clear_from [] s t can y = (tt, λ q h k. tt)
  clear_from (p ∷ xs) s t can y =
      let step = step_of s y.0 p can y.1 in
      let rest = clear_from xs y.0 t step.clear y.2 in
      ((step.some, head p xs (rest.1 (share_span p) step.next.0 step.next.1), rest.0), λ q h k. let a = step.after q h k in (a.0, rest.1 q a.1 a.2))
    where
      head : (p : Share C) (xs : List (Share C)) → AreAllClear share_span (share_span p) xs → OfHead (λ p q. is_clear (share_span p) (share_span q) ≡ true) p xs
      head p [] h = tt
      head p (q ∷ xs) h = h.0

  pub shares_clear : (s : Shares C) → CanShare s → HoldsAlong GivesShare s (PiecesAreClear share_span)
  shares_clear s can xs t y = (clear_from xs s t can y).0

  module _ {B : Type 0} (start end : C → B) where
    abbrev pub AreOf : List (CutOf (Slice C)) → Type 0
    AreOf v = AllByRecursion (IsOf (λ s. s.span) (IsSound start end)) v

    pub behind_of : (v : List (CutOf (Slice C))) (p : SpanOf) (o : Option (Slice C)) → OnHead v p o → PiecesAreClear cut_span v → AreOf v → AreOf (behind_piece p o v)
    behind_of v p None h k a = a
    behind_of v p (Some x) h k a = of_behind (λ s. s.span) (IsSound start end) v p x h k a

    holds_there : (v : List (CutOf (Slice C))) (p : SpanOf) (o : Option (Slice C)) → has_instant p ≡ true → OnHead v p o → PiecesAreClear cut_span v → AreOf v → HoldsThere start end p o
    holds_there v p None i h k a = tt
    holds_there v p (Some x) i h k a =
        let first = (subst AreOf h.list a).0 in
        let some = (subst (PiecesAreClear cut_span) h.list k).0 in (
          subst (IsSound start end) h.same first.holds,
          subst (λ z. is_inside z.span p ≡ true) h.same (inside_by h.first.of.span p i (λ t m. inside_of h.first.of.span h.first.span some first.inside t (inside_of h.first.span p i h.inside t m))),
        )

    holds_from : (xs : List (Share C)) (s t : Shares C) → CanShare s → AreOf (rest_of s.lefts) → AreOf (rest_of s.rights) → Walk s xs t → AllByRecursion (λ p. HoldsShare start end (share_of p)) xs
    holds_from [] s t can l r y = tt
    holds_from (p ∷ xs) s t can l r y =
        let step = step_of s y.0 p can y.1 in
        let heads = next_heads (rest_of s.lefts) (rest_of s.rights) (share_of p) y.1.next in (
          (holds_there (rest_of s.lefts) (share_span p) (share_of p).left step.some heads.0 can.0 l, holds_there (rest_of s.rights) (share_span p) (share_of p).right step.some heads.1 can.1 r),
          holds_from xs y.0 t step.clear (subst AreOf (sym y.1.left) (behind_of (rest_of s.lefts) (share_span p) (share_of p).left heads.0 can.0 l)) (subst AreOf (sym y.1.right) (behind_of (rest_of s.rights) (share_span p) (share_of p).right heads.1 can.1 r)) y.2,
        )

    pub shares_hold : (s : Shares C) → CanShare s → AreOf (rest_of s.lefts) → AreOf (rest_of s.rights) → HoldsAlong GivesShare s (AllByRecursion (λ p. HoldsShare start end (share_of p)))
    shares_hold s can l r xs t y = holds_from xs s t can l r y
