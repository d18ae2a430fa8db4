-- The item of a list in a piece is that of the list's first cut.
use Rattle.std.{specs.Prelude.{◌≡◌, Bool, true, false, cond, refl, ◌&&◌, List, [], ◌∷◌, ◌++◌, Option, Some, None}, specs.List.{AllByRecursion}, proofs.Common.{ap, sym, ◌∙◌, subst}}
use Rattle.mob_ratio.specs.Ratio.{Ratio}
use Rattle.mob_span.{specs.Span.{SpanOf, has, has_instant}, specs.Meet.{meet_of}, specs.Meets.{PieceOf}, specs.Neighbours.{is_clear, is_inside}, specs.Pieces.{PiecesAreClear, piece_at}}
use Rattle.mob_span.{specs.Remainders.{precedes, front_of, back_of}, proofs.Insides.{inside_self, meet_left, meet_right}, proofs.Leaving.{front_has}}
use Rattle.mob_shares.{specs.Cuts.{CutOf, left_after}, specs.Sharing.{ShareOf, next_share, both_of}, proofs.Spans.{inside_by}, proofs.Sides.{IsOf, side_of}}

-- x is the item of the first cut, which contains the span
pub record IsHead {X : Type 0} (v : List (CutOf X)) (p : SpanOf) (x : X) : Type 0 where
  pub first : CutOf X
  pub others : List (CutOf X)
  pub list : v ≡ first ∷ others
  pub same : first.of ≡ x
  pub inside : is_inside first.span p ≡ true

abbrev pub OnHead : {X : Type 0} → List (CutOf X) → SpanOf → Option X → Type 0
OnHead v p None = Unit {0}
OnHead v p (Some x) = IsHead v p x

module _ {X Y : Type 0} where
  abbrev BothHead : List (CutOf X) → List (CutOf Y) → ShareOf X Y → Type 0
  BothHead v w p = OnHead v p.span p.left × OnHead w p.span p.right

  same_heads : (v : List (CutOf X)) (w : List (CutOf Y)) (p q : ShareOf X Y) → Some q ≡ Some p → BothHead v w q → BothHead v w p
  same_heads v w p q e h = subst (λ z. BothHead v w z) (one q p e) h
    where
      one : (x y : ShareOf X Y) → Some x ≡ Some y → x ≡ y
      one x y e = cc

  no_heads : {R : Type 0} (p : ShareOf X Y) → None ≡ Some p → R
  no_heads p e = cc

  pub next_heads : (v : List (CutOf X)) (w : List (CutOf Y)) (p : ShareOf X Y) → next_share v w ≡ Some p → OnHead v p.span p.left × OnHead w p.span p.right
  next_heads [] [] p e = no_heads p e
  next_heads (c ∷ cs) [] p e = same_heads (c ∷ cs) [] p (record { span = c.span; left = Some c.of; right = None }) e (record { first = c; others = cs; list = refl; same = refl; inside = inside_self c.span }, tt)
  next_heads [] (d ∷ ds) p e = same_heads [] (d ∷ ds) p (record { span = d.span; left = None; right = Some d.of }) e (tt, record { first = d; others = ds; list = refl; same = refl; inside = inside_self d.span })
  next_heads (c ∷ cs) (d ∷ ds) p e = by (has_instant (front_of c.span d.span)) (has_instant (front_of d.span c.span)) refl refl e
    where
      left : (a b : Bool) → (a && b) ≡ true → a ≡ true
      left true b z = refl
      left false b z = z

      by : (a b : Bool) → has_instant (front_of c.span d.span) ≡ a → has_instant (front_of d.span c.span) ≡ b
          → cond {A = Option (ShareOf X Y)} a (Some (record { span = front_of c.span d.span; left = Some c.of; right = None })) (cond {A = Option (ShareOf X Y)} b (Some (record { span = front_of d.span c.span; left = None; right = Some d.of })) (Some (record { span = meet_of c.span d.span; left = Some c.of; right = Some d.of }))) ≡ Some p
          → BothHead (c ∷ cs) (d ∷ ds) p
      by true b i j z = same_heads (c ∷ cs) (d ∷ ds) p (record { span = front_of c.span d.span; left = Some c.of; right = None }) z (record { first = c; others = cs; list = refl; same = refl; inside = inside_by c.span (front_of c.span d.span) i (λ t k. left (has c.span t) (precedes t d.span) (sym (front_has c.span d.span t) ∙ k)) }, tt)
      by false true i j z = same_heads (c ∷ cs) (d ∷ ds) p (record { span = front_of d.span c.span; left = None; right = Some d.of }) z (tt, record { first = d; others = ds; list = refl; same = refl; inside = inside_by d.span (front_of d.span c.span) j (λ t k. left (has d.span t) (precedes t c.span) (sym (front_has d.span c.span t) ∙ k)) })
      by false false i j z = same_heads (c ∷ cs) (d ∷ ds) p (record { span = meet_of c.span d.span; left = Some c.of; right = Some d.of }) z (record { first = c; others = cs; list = refl; same = refl; inside = meet_left c.span d.span }, record { first = d; others = ds; list = refl; same = refl; inside = meet_right c.span d.span })

  -- the pieces after one that does not have the instant
  pub both_not : (p : ShareOf X Y) (qs : List (PieceOf X Y)) (t : Ratio) → has p.span t ≡ false → piece_at (λ q. q.span) (both_of p ++ qs) t ≡ piece_at (λ q. q.span) qs t
  both_not p qs t h = by p.left p.right
    where
      by : (x : Option X) (y : Option Y) → piece_at (λ q. q.span) (both_of (record { span = p.span; left = x; right = y }) ++ qs) t ≡ piece_at (λ q. q.span) qs t
      by None y = refl
      by (Some x) None = refl
      by (Some x) (Some y) = ap (λ b. cond b (Some (record { span = p.span; left = x; right = y })) (piece_at (λ q. q.span) qs t)) h

module _ {X : Type 0} (P : X → Ratio → Type 0) where
  -- P holds for each item at both ends of its cut
  abbrev pub AtCuts : List (CutOf X) → Type 0
  AtCuts v = AllByRecursion (λ c. P c.of c.span.lower × P c.of c.span.upper) v

  pub at_behind : (v : List (CutOf X)) (p : SpanOf) (x : X) → IsHead v p x → P x p.upper → AtCuts v → AtCuts (left_after p v)
  at_behind v p x h k a = subst (λ z. AtCuts (left_after p z)) (sym h.list) (by (has_instant (back_of h.first.span p)) (subst AtCuts h.list a) (is_clear p h.first.span))
    where
      by : (b : Bool) → AtCuts (h.first ∷ h.others) → (c : Bool) → AtCuts (cond b (record { span = back_of h.first.span p; of = h.first.of } ∷ h.others) h.others)
      by true m c = ((low (is_clear p h.first.span), m.0.1), m.1)
        where
          low : (c : Bool) → P h.first.of (cond c h.first.span.lower p.upper)
          low true = m.0.0
          low false = subst (λ z. P z p.upper) (sym h.same) k
      by false m c = m.1

module _ {X : Type 0} (span : X → SpanOf) (P : X → Type 0) where
  pub of_behind : (v : List (CutOf X)) (p : SpanOf) (x : X) → IsHead v p x → PiecesAreClear (λ c. c.span) v → AllByRecursion (IsOf span P) v → AllByRecursion (IsOf span P) (left_after p v)
  of_behind v p x h k a = subst (λ z. AllByRecursion (IsOf span P) (left_after p z)) (sym h.list) (side_of span P h.first h.others p (subst (PiecesAreClear (λ c. c.span)) h.list k).0 (subst (AllByRecursion (IsOf span P)) h.list a))
