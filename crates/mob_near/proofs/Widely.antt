-- Nearness in numbers of any size, over all pieces.
use Rattle.std.{specs.Prelude.{◌≡◌, Bool, true, false, cond, ◌||◌, List, [], ◌∷◌, Option, Some, None, Result, Ok, Err, IfOk, refl}, specs.List.{AllByRecursion}}
use Rattle.std.proofs.Common.{arith, ap, sym, ◌∙◌, subst, inr}
use Rattle.mob_ratio.{specs.Ratio.{Ratio, ◌*ℚ◌, ◌≤ℚ◌}, specs.Order.{before, up_to, smaller}, specs.Sign.{nil}, proofs.Order.{before-back, before-neither, before-trans, up_to-trans, smaller_left, smaller_right, greater_left, greater_right}, proofs.Convex.{square_le}}
use Rattle.mob_list.{specs.declared.fault.Fault.{Fault}, specs.declared.fault.Fault.TheVariants.{Because, NoMemory}}
use Rattle.mob_plane.specs.declared.point.Point.{Point}
use Rattle.mob_span.{specs.Span.{SpanOf, has_instant}, specs.Pieces.{PiecesAreClear}}
use Rattle.mob_slice.{specs.Entries.{IsJudged}, specs.Lines.{plane_value_of}, specs.Sides.{SideOf, Moves, Stays, OperandOf, given_at, has_slices, pieces}, specs.declared.formula.Formula.{Formula}}
use Rattle.mob_slice.{specs.declared.line.PlaneLine.{PlaneLine}, specs.declared.mode.Mode.TheVariants.{Wide}, proofs.Narrowing.{given_fits}}
use Rattle.mob_lift.{specs.Sometime.{either, IsEver}, proofs.AllPieces.{is_ever}, proofs.Walking.{IsWalking, walked}}
use Rattle.mob_legs.{specs.Covers.{CoversSide, side_cover, piece_covers, is_beyond, cover_gap}, specs.Legs.{PointPiece}}
use Rattle.mob_near.{specs.Approaches.{IsApproach}, specs.Distances.{distance_squared}}
use Rattle.mob_legs.specs.Legs.{piece_reaches, piece_approach, nearest_of}
use Rattle.mob_near.{specs.Wide.{IsGivenOf, approach_entries_in, least_approach}, proofs.AllNearest.{is_approach}}
use Rattle.mob_near.{proofs.Far.{far_never, gap_bounds}, proofs.OnPieces.{IsHeld, all_reached, all_nearest}}

-- ---- the rectangles of a piece
covers_side : (r : SpanOf) (q : SideOf PlaneLine Point) → CoversSide (side_cover r q) q
covers_side r (Moves s) = (
  record { from_left = smaller_left s.course.from.x s.course.to.x; to_right = greater_left s.course.from.x s.course.to.x; from_low = smaller_left s.course.from.y s.course.to.y; to_high = greater_left s.course.from.y s.course.to.y },
  record { from_left = smaller_right s.course.from.x s.course.to.x; to_right = greater_right s.course.from.x s.course.to.x; from_low = smaller_right s.course.from.y s.course.to.y; to_high = greater_right s.course.from.y s.course.to.y },
)
covers_side r (Stays b) = record { from_left = smaller_left b.x b.x; to_right = greater_left b.x b.x; from_low = smaller_left b.y b.y; to_high = greater_left b.y b.y }

pub far_piece : (d s : Ratio) (p : PointPiece) → IsHeld p → has_instant p.span ≡ true → up_to nil d ≡ true → s ≡ d *ℚ d → is_beyond d (piece_covers p).0 (piece_covers p).1 ≡ true → false ≡ piece_reaches s p
far_piece d s p held some hd e h = sym (ap (λ z. piece_reaches z p) e ∙ far_never p held some (side_cover p.span p.left) (side_cover p.span p.right) (covers_side p.span p.left) (covers_side p.span p.right) d hd h)

-- at most m, whatever is beside it
pub smaller_is : (m f : Ratio) → up_to f m ≡ true → f ≡ smaller m f
smaller_is m f h = by (before f m) refl
  where
    by : (b : Bool) → before f m ≡ b → f ≡ cond b f m
    by true e = refl
    by false e = before-neither f m e (grind (arith, h))

pub beyond_piece : (p : PointPiece) (f : Ratio) → IsHeld p → has_instant p.span ≡ true → up_to f (cover_gap (piece_covers p).0 (piece_covers p).1) ≡ true → f ≡ smaller (piece_approach p) f
beyond_piece p f held some h = smaller_is (piece_approach p) f (up_to-trans f _ (piece_approach p) h (gap_bounds p held some (side_cover p.span p.left) (side_cover p.span p.right) (covers_side p.span p.left) (covers_side p.span p.right)))

-- ---- beyond on one axis, by one of the two sides
pub by_first : (a b : Bool) → a ≡ true → (a || b) ≡ true
by_first true b h = refl
by_first false b h = absurd (cc h)

pub by_second : (a b : Bool) → b ≡ true → (a || b) ≡ true
by_second true b h = refl
by_second false b h = h

-- ---- a walk that stops at a hit
stays_true : (gives : PointPiece → Bool) (ps : List PointPiece) → walked either gives (Some true) ps ≡ Some true
stays_true gives [] = refl
stays_true gives (p ∷ ps) = stays_true gives ps

or_true : (found : Option Bool) → either found true ≡ true
or_true None = refl
or_true (Some true) = refl
or_true (Some false) = refl

pub hit_is : (gives : PointPiece → Bool) (all left rest : List PointPiece) (found : Option Bool) (p : PointPiece) (here : Bool) → left ≡ p ∷ rest → here ≡ gives p → here ≡ true → IsWalking either gives (λ _. []) all left found → Some true ≡ walked either gives None all
hit_is gives all left rest found p here e g h w =
    sym (ap (λ z. walked either gives (Some z) rest) (ap (either found) (sym g ∙ h) ∙ or_true found) ∙ stays_true gives rest) ∙ sym (ap (walked either gives found) e) ∙ w.answer

-- ---- the least of all approaches, in either order
before_up_to : (a b c : Ratio) → before a b ≡ true → before c b ≡ false → before a c ≡ true
before_up_to a b c h k = grind (arith, h, k, before-trans a b c, before-neither b c)

pub smaller_swap : (x y : Ratio) → smaller x y ≡ smaller y x
smaller_swap x y = by (before y x) (before x y) refl refl
  where
    by : (p q : Bool) → before y x ≡ p → before x y ≡ q → cond p y x ≡ cond q x y
    by true true e f = absurd (cc (sym (before-back y x e) ∙ f))
    by true false e f = refl
    by false true e f = refl
    by false false e f = before-neither x y f e

module _ (a b m : Ratio) where
  three_by : (p q : Bool) → before b a ≡ p → before m a ≡ q → smaller m (cond p b a) ≡ smaller (cond q m a) b
  three_by true true e f = refl
  three_by true false e f = rw (before_up_to b a m e f, e) refl
  three_by false true e f = rw (before-back m b (before_up_to m a b f e), before-back m a f) refl
  three_by false false e f = smaller_swap m a ∙ rw (e, f) refl

  -- the smaller of three
  pub three : smaller m (smaller a b) ≡ smaller (smaller a m) b
  three = three_by (before b a) (before m a) refl refl

abbrev or_least : Ratio → Option Ratio → Ratio
or_least b None = b
or_least b (Some m) = smaller m b

least_step : (a b : Ratio) (l : Option Ratio) → or_least (smaller a b) l ≡ smaller (nearest_of l a) b
least_step a b None = refl
least_step a b (Some m) = three a b m

least_from : (b : Ratio) (ps : List PointPiece) → walked nearest_of piece_approach (Some b) ps ≡ Some (or_least b (least_approach ps))
least_from b [] = refl
least_from b (p ∷ ps) = least_from (smaller (piece_approach p) b) ps ∙ ap Some (least_step (piece_approach p) b (least_approach ps))

first_least : (a : Ratio) (l : Option Ratio) → or_least a l ≡ nearest_of l a
first_least a None = refl
first_least a (Some m) = smaller_swap m a

pub least_all : (ps : List PointPiece) → walked nearest_of piece_approach None ps ≡ least_approach ps
least_all [] = refl
least_all (p ∷ ps) = least_from (piece_approach p) ps ∙ ap Some (first_least (piece_approach p) (least_approach ps))

-- ---- whether the number fits
pub given_value : (P : Option Ratio → Type 0) (m : Ratio) (r : Result (Option Ratio) (Fault Formula)) → IsGivenOf m r → P (Some m) → IfOk r P
given_value P m (Ok o) h k = subst P (sym h.0) k
given_value P m (Err f) h k = tt

pub given_judged : (ps : List PointPiece) (m : Ratio) (r : Result (Option Ratio) (Fault Formula)) → Some m ≡ least_approach ps → IsGivenOf m r → IsJudged (approach_entries_in Wide ps) r
given_judged ps m (Ok o) e h = rw (sym e) (given_fits (m ∷ []) (h.1, tt))
given_judged ps m (Err (Because f)) e h = rw (sym e) (inr ((λ all. h.1 all.0), ap Some h.0))
given_judged ps m (Err NoMemory) e h = tt

pub none_judged : (ps : List PointPiece) → None ≡ least_approach ps → IsJudged {V = Option Ratio} (approach_entries_in Wide ps) (Ok None)
none_judged ps e = rw (sym e) (given_fits [] tt)

-- ---- the answers over all pieces
module _ (a b : OperandOf PlaneLine Point) (moving : (has_slices a || has_slices b) ≡ true) (clear : PiecesAreClear (λ p. p.span) (pieces a b)) (hold : AllByRecursion IsHeld (pieces a b)) where
  pub ever_is : (D d : Ratio) (o : Option Bool) → D ≡ d *ℚ d → o ≡ walked either (piece_reaches D) None (pieces a b) → IsEver (λ x y. up_to (distance_squared x y) D) (given_at plane_value_of a) (given_at plane_value_of b) o
  ever_is D d o e h =
      subst (IsEver (λ x y. up_to (distance_squared x y) D) (given_at plane_value_of a) (given_at plane_value_of b)) (sym h)
      (is_ever plane_value_of plane_value_of a b moving (λ x y. up_to (distance_squared x y) D) (piece_reaches D) clear (all_reached D (subst (λ z. nil ≤ℚ z) (sym e) (square_le d)) (pieces a b) clear hold))

  pub nearest_is : (o : Option Ratio) → o ≡ walked nearest_of piece_approach None (pieces a b) → IsApproach (given_at plane_value_of a) (given_at plane_value_of b) o
  nearest_is o h = subst (IsApproach (given_at plane_value_of a) (given_at plane_value_of b)) (sym h) (is_approach a b moving clear (all_nearest (pieces a b) clear hold))
