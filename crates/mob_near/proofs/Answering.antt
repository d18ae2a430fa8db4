-- The meaning of the answers of all pieces for a distance.
use Rattle.std.{specs.Prelude.{◌≡◌, ◌↔◌, ◌||◌, Bool, true, false, cond, List, [], ◌∷◌, Option, Some, None, Result, Ok, Err, IfOk, IsTrue, MatchOption, not, refl}, specs.Option.{is_some}}
use Rattle.std.proofs.Common.{ap, sym, ◌∙◌, subst, true≢false}
use Rattle.mob_ratio.{specs.Ratio.{Ratio, ◌*ℚ◌}, specs.Order.{before, up_to}, specs.Sign.{nil}, proofs.Order.{le-up_to}, proofs.Convex.{square_le}}
use Rattle.mob_plane.specs.declared.point.Point.{Point}
use Rattle.mob_span.{specs.Pieces.{PiecesAreClear}, proofs.SpanLemmas.{some_instant}}
use Rattle.mob_slice.{specs.Sides.{OperandOf, pieces, given_at, has_slices}, specs.Lines.{plane_value_of}, specs.declared.line.PlaneLine.{PlaneLine}, specs.declared.formula.Formula.{Formula}}
use Rattle.mob_lift.{specs.Sometime.{HaveCommon, IsEver}, proofs.PieceAt.{no_common, common_by}}
use Rattle.mob_legs.specs.Legs.{PointPiece, are_some}
use Rattle.mob_near.specs.Distances.{distance_squared, are_within}

-- ---- a common instant
-- the first step of a walk shows whether any piece exists
pub next_tells : {A : Type 0} (view : A → PointPiece) (r : Option A) (all rest : List PointPiece) → MatchOption r ((all ≡ []) × (rest ≡ [])) (λ x. all ≡ view x ∷ rest) → is_some r ≡ are_some all
next_tells view None all rest h = sym (ap are_some h.0)
next_tells view (Some x) all rest h = sym (ap are_some h)

module _ (a b : OperandOf PlaneLine Point) (moving : (has_slices a || has_slices b) ≡ true) where
  common_of : (all : List PointPiece) → pieces a b ≡ all → PiecesAreClear (λ q. q.span) all → IsTrue (are_some all) ↔ HaveCommon (given_at plane_value_of a) (given_at plane_value_of b)
  common_of [] e c = (λ h. absurd (true≢false (sym h)), λ h. absurd (no_common plane_value_of plane_value_of a b moving e h))
  common_of (p ∷ ps) e c = let i = some_instant p.span c.0 in (λ h. common_by plane_value_of plane_value_of a b moving ps p i.0 e i.1, λ h. refl)

  -- an instant is common exactly if a piece exists
  pub common_exact : (r : Bool) → r ≡ are_some (pieces a b) → PiecesAreClear (λ q. q.span) (pieces a b) → IsTrue r ↔ HaveCommon (given_at plane_value_of a) (given_at plane_value_of b)
  common_exact r e c = subst (λ z. IsTrue z ↔ HaveCommon (given_at plane_value_of a) (given_at plane_value_of b)) (sym e) (common_of (pieces a b) refl c)

-- ---- answers without a walk
module _ (d : Ratio) (left right : Ratio → Option Point) where
  below_nil : (x y : Point) → before d nil ≡ true → are_within d x y ≡ true → {R : Type 0} → R
  below_nil x y h k = absurd (true≢false (sym (rw h at k)))

  -- nothing is within a distance below 0
  pub never_within : (b : Bool) (r : Option Bool) → IsTrue b ↔ HaveCommon left right → before d nil ≡ true → r ≡ cond b (Some false) None → IsEver (are_within d) left right r
  never_within true r h k e = subst (IsEver (are_within d) left right) (sym e) (h.0 refl, (λ f. absurd (true≢false (sym f)), λ m. below_nil m.1 m.2 k m.5))
  never_within false r h k e = subst (IsEver (are_within d) left right) (sym e) (λ m. true≢false (sym (h.1 m)))

  -- if no instant is common, the answer is none
  pub none_within : (b : Bool) (r : Result (Option Bool) Formula) (f : Formula) → IsTrue b ↔ HaveCommon left right → r ≡ cond b (Err f) (Ok None) → IfOk r (IsEver (are_within d) left right)
  none_within true r f h e = subst (λ z. IfOk z (IsEver (are_within d) left right)) (sym e) tt
  none_within false r f h e = subst (λ z. IfOk z (IsEver (are_within d) left right)) (sym e) (λ m. true≢false (sym (h.1 m)))

  -- ---- by squares
  same_within : (s : Ratio) (x y : Point) → before d nil ≡ false → s ≡ d *ℚ d → up_to (distance_squared x y) s ≡ are_within d x y
  same_within s x y h e = rw h (ap (λ z. up_to (distance_squared x y) z) e)

  pub ever_within_by : (s : Ratio) (r : Option Bool) → before d nil ≡ false → s ≡ d *ℚ d → IsEver (λ x y. up_to (distance_squared x y) s) left right r → IsEver (are_within d) left right r
  ever_within_by s None h e k = k
  ever_within_by s (Some b) h e k = (
    k.0,
    (
      λ f. let m = k.1.0 f in (m.0, m.1, m.2, m.3, m.4, sym (same_within s m.1 m.2 h e) ∙ m.5),
      λ m. k.1.1 (m.0, m.1, m.2, m.3, m.4, same_within s m.1 m.2 h e ∙ m.5),
    ),
  )

  -- two points are within a distance exactly if their squares compare that way
  pub within_by_squares : {E : Type 0} (s : Ratio) (r : Result (Option Bool) E) → before d nil ≡ false → s ≡ d *ℚ d → IfOk r (IsEver (λ x y. up_to (distance_squared x y) s) left right) → IfOk r (IsEver (are_within d) left right)
  within_by_squares s (Ok v) h e k = ever_within_by s v h e k
  within_by_squares s (Err f) h e k = tt

pub square_up_to : (d s : Ratio) → s ≡ d *ℚ d → up_to nil s ≡ true
square_up_to d s e = ap (up_to nil) e ∙ ap not (le-up_to nil (d *ℚ d) (square_le d))
