-- Pieces of points in two rectangles: their distance is not below that of the rectangles.
use Rattle.std.{specs.Prelude.{◌≡◌, Bool, true, false, not, refl}, proofs.Common.{ap, sym, ◌∙◌, true≢false}, proofs.lemmas.Bool.{false_from_ne_true}}
use Rattle.mob_ratio.{specs.Ratio.{Ratio, ◌*ℚ◌}, specs.Order.{before, up_to}, specs.Sign.{nil}, proofs.Order.{not-up_to-le}, proofs.Convex.{square_le}}
use Rattle.mob_span.specs.Span.{has, has_instant}
use Rattle.mob_slice.{specs.Sides.{side_at}, specs.Lines.{plane_value_of}}
use Rattle.mob_legs.{specs.Covers.{CoversSide, IsCovered, is_beyond, cover_gap}, specs.Legs.{PointPiece, piece_reaches, piece_approach}, specs.declared.covers.Cover.{Cover}}
use Rattle.mob_near.{proofs.OnPieces.{IsHeld, square_on, reached_by, nearest_by}, proofs.Apart.{covered_at, gap_below, far_points}}

not_both : (b : Bool) → not b ≡ true → b ≡ true → ⊥
not_both true h k = true≢false (sym h)
not_both false h k = true≢false (sym k)

module _ (p : PointPiece) (held : IsHeld p) (some : has_instant p.span ≡ true) (c e : Cover) (left : CoversSide c p.left) (right : CoversSide e p.right) where
  at_left : (t : Ratio) → has p.span t ≡ true → IsCovered c (side_at plane_value_of p.left t)
  at_left t i = covered_at c p.left p.span t held.0 i left

  at_right : (t : Ratio) → has p.span t ≡ true → IsCovered e (side_at plane_value_of p.right t)
  at_right t i = covered_at e p.right p.span t held.1 i right

  -- beyond d, the points never come within d
  pub far_never : (d : Ratio) → up_to nil d ≡ true → is_beyond d c e ≡ true → piece_reaches (d *ℚ d) p ≡ false
  far_never d hd h = false_from_ne_true (piece_reaches (d *ℚ d) p) (λ r.
      let m = (reached_by (d *ℚ d) p (square_le d) held some (before p.span.lower p.span.upper) refl).0 r in
      true≢false (sym m.2 ∙ far_points c e (side_at plane_value_of p.left m.0) (side_at plane_value_of p.right m.0) (at_left m.0 m.1) (at_right m.0 m.1) d (not-up_to-le nil d hd) h))

  -- the approach is at least the distance of the rectangles
  pub gap_bounds : up_to (cover_gap c e) (piece_approach p) ≡ true
  gap_bounds = ap not (false_from_ne_true (before (piece_approach p) (cover_gap c e)) (λ h.
      let m = (nearest_by p held some (before p.span.lower p.span.upper) refl).greatest (cover_gap c e) h in
      not_both (before (square_on p m.0) (cover_gap c e)) (gap_below c e (side_at plane_value_of p.left m.0) (side_at plane_value_of p.right m.0) (at_left m.0 m.1) (at_right m.0 m.1)) m.2))
