-- The nearest of all pieces is the nearest of all common instants.
use Rattle.std.{specs.Prelude.{◌≡◌, ◌⊎◌, ◌||◌, Bool, true, false, cond, not, List, [], ◌∷◌, Option, Some, None, refl}, specs.List.{AllByRecursion}}
use Rattle.std.proofs.Common.{arith, ap, sym, ◌∙◌, subst, inl, inr}
use Rattle.mob_ratio.{specs.Ratio.{Ratio}, specs.Order.{before, up_to, smaller}, proofs.Order.{before-self, before-trans, up_to-trans}}
use Rattle.mob_plane.specs.declared.point.Point.{Point}
use Rattle.mob_span.{specs.Pieces.{PiecesAreClear, piece_at}, proofs.SpanLemmas.{some_instant}}
use Rattle.mob_slice.{specs.Sides.{OperandOf, side_at, pieces, given_at, has_slices}, specs.Lines.{plane_value_of}, specs.declared.line.PlaneLine.{PlaneLine}, proofs.Options.{none_some}}
use Rattle.mob_lift.{specs.Sometime.{IsSometime}, proofs.Walking.{walked}, proofs.PieceAt.{first_at, later_at, which_at, there, found, no_common, common_by}}
use Rattle.mob_legs.specs.Legs.{PointPiece, nearest_of, piece_approach}
use Rattle.mob_near.{specs.Approaches.{IsNearest, IsApproach}, specs.Distances.{distance_squared}}
use Rattle.mob_near.proofs.OnPieces.{square_on, IsNearestOn}

-- ---- the smaller of two
either_below : (a b n : Ratio) (c : Bool) → before a b ≡ c → before (cond c a b) n ≡ true → (before a n ≡ true) ⊎ (before b n ≡ true)
either_below a b n true e h = inl h
either_below a b n false e h = inr h

up_to_first : (a b m : Ratio) (c : Bool) → before a b ≡ c → up_to m (cond c a b) ≡ true → up_to m a ≡ true
up_to_first a b m true e h = h
up_to_first a b m false e h = up_to-trans m b a h (ap not e)

up_to_second : (a b m : Ratio) (c : Bool) → before a b ≡ c → up_to m (cond c a b) ≡ true → up_to m b ≡ true
up_to_second a b m true e h = up_to-trans m a b h (grind (arith, e, before-trans b a b, before-self b))
up_to_second a b m false e h = h

-- ---- over pieces
-- m is the greatest lower bound of b and of the squares at the instants of the pieces
record IsLeast (b : Ratio) (ps : List PointPiece) (m : Ratio) : Type 0 where
  pub before_all : up_to m b ≡ true
  pub lower : (t : Ratio) (p : PointPiece) → piece_at (λ q. q.span) ps t ≡ Some p → up_to m (square_on p t) ≡ true
  pub greatest : (n : Ratio) → before m n ≡ true → (before b n ≡ true) ⊎ ((t : Ratio) × (p : PointPiece) × (piece_at (λ q. q.span) ps t ≡ Some p) × (before (square_on p t) n ≡ true))

least_step : (b : Ratio) (p : PointPiece) (ps : List PointPiece) (m : Ratio) → PiecesAreClear (λ q. q.span) (p ∷ ps) → IsNearestOn p (piece_approach p) → IsLeast (smaller (piece_approach p) b) ps m → IsLeast b (p ∷ ps) m
least_step b p ps m c near k =
    let a = piece_approach p in
    record {
      before_all = up_to_first b a m (before b a) refl k.before_all;
      lower = λ t q e. elim (which_at (λ q. q.span) p ps t q e) [
        | inl h ↦ subst (λ z. up_to m (square_on z t) ≡ true) h.1 (up_to-trans m a (square_on p t) (up_to_second b a m (before b a) refl k.before_all) (near.lower t h.0))
        | inr h ↦ k.lower t q h
      ];
      greatest = λ n h. elim (k.greatest n h) [
        | inl f ↦ (elim (either_below b a n (before b a) refl f) [
          | inl g ↦ inl g
          | inr g ↦ let w = near.greatest n g in inr (w.0, p, first_at (λ q. q.span) p ps w.0 w.1, w.2)
        ])
        | inr w ↦ inr (w.0, w.1, later_at (λ q. q.span) p ps w.0 w.1 c w.2, w.3)
      ];
    }

least_of : (ps : List PointPiece) → PiecesAreClear (λ q. q.span) ps → AllByRecursion (λ p. IsNearestOn p (piece_approach p)) ps → (b : Ratio) → (m : Ratio) × (walked nearest_of piece_approach (Some b) ps ≡ Some m) × IsLeast b ps m
least_of [] c near b = (b, refl, record { before_all = ap not (before-self b); lower = λ t p e. none_some p e; greatest = λ n h. inl h })
least_of (p ∷ ps) c near b =
    let k = least_of ps c.2 near.1 (smaller (piece_approach p) b) in
    (k.0, k.1, least_step b p ps k.0 c near.0 k.2)

-- ---- two operands
module _ (a b : OperandOf PlaneLine Point) (moving : (has_slices a || has_slices b) ≡ true) where
  abbrev left : Ratio → Option Point
  left t = given_at plane_value_of a t

  abbrev right : Ratio → Option Point
  right t = given_at plane_value_of b t

  abbrev apart : Point × Point → Ratio
  apart z = distance_squared z.0 z.1

  nearest : (p : PointPiece) (ps : List PointPiece) (m : Ratio) → pieces a b ≡ p ∷ ps → PiecesAreClear (λ q. q.span) (p ∷ ps) → IsNearestOn p (piece_approach p) → IsLeast (piece_approach p) ps m → IsNearest left right m
  nearest p ps m e c near k = record {
    lower = λ t x y ex ey.
        let w = found plane_value_of plane_value_of a b moving t x y ex ey in
        ap (λ z. up_to m z) (sym (ap apart w.2)) ∙ least.lower t w.0 (ap (λ l. piece_at (λ q. q.span) l t) (sym e) ∙ w.1);
    greatest = λ n h. elim (least.greatest n h) [
      | inl f ↦ let w = near.greatest n f in at n w.0 p (first_at (λ q. q.span) p ps w.0 w.1) w.2
      | inr w ↦ at n w.0 w.1 w.2 w.3
    ];
  }
    where
      least : IsLeast (piece_approach p) (p ∷ ps) m
      least = record {
        before_all = k.before_all;
        lower = λ t q f. elim (which_at (λ q. q.span) p ps t q f) [
          | inl h ↦ subst (λ z. up_to m (square_on z t) ≡ true) h.1 (up_to-trans m (piece_approach p) (square_on p t) k.before_all (near.lower t h.0))
          | inr h ↦ k.lower t q h
        ];
        greatest = λ n h. elim (k.greatest n h) [
          | inl f ↦ inl f
          | inr w ↦ inr (w.0, w.1, later_at (λ q. q.span) p ps w.0 w.1 c w.2, w.3)
        ];
      }

      at : (n t : Ratio) (q : PointPiece) → piece_at (λ q. q.span) (p ∷ ps) t ≡ Some q → before (square_on q t) n ≡ true → IsSometime (λ x y. before (distance_squared x y) n ≡ true) left right
      at n t q f h = let w = there plane_value_of plane_value_of a b moving t q (ap (λ l. piece_at (λ q. q.span) l t) e ∙ f) in (t, side_at plane_value_of q.left t, side_at plane_value_of q.right t, w.0, w.1, h)

  approach_by_pieces : (all : List PointPiece) → pieces a b ≡ all → PiecesAreClear (λ q. q.span) all → AllByRecursion (λ p. IsNearestOn p (piece_approach p)) all → IsApproach left right (walked nearest_of piece_approach None all)
  approach_by_pieces [] e c near = no_common plane_value_of plane_value_of a b moving e
  approach_by_pieces (p ∷ ps) e c near =
      let k = least_of ps c.2 near.1 (piece_approach p) in
      let i = some_instant p.span c.0 in
      subst (λ o. IsApproach left right o) (sym k.1) (common_by plane_value_of plane_value_of a b moving ps p i.0 e i.1, nearest p ps k.0 e c near.0 k.2)

  -- if each piece has its nearest approach, that of all of them is that of all common instants
  pub is_approach : PiecesAreClear (λ q. q.span) (pieces a b) → AllByRecursion (λ p. IsNearestOn p (piece_approach p)) (pieces a b) → IsApproach left right (walked nearest_of piece_approach None (pieces a b))
  is_approach c near = approach_by_pieces (pieces a b) refl c near
