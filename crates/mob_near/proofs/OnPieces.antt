-- The nearness of two points on a piece of time.
use Rattle.std.{specs.Prelude.{◌≡◌, ◌↔◌, Bool, true, false, cond, not, List, [], ◌∷◌, refl}, specs.List.{AllByRecursion}, proofs.Common.{ap, sym, ◌∙◌, subst}}
use Rattle.mob_ratio.{specs.Ratio.{Ratio, ◌≤ℚ◌}, specs.Order.{before, up_to}, specs.Sign.{nil}, proofs.LineAt.{line_at-short}, proofs.Order.{before-self}}
use Rattle.mob_span.{specs.Span.{SpanOf, has, has_instant}, specs.Pieces.{PiecesAreClear}, proofs.SpanLemmas.{short_has}}
use Rattle.mob_slice.{specs.Sides.{HoldsPiece, side_at}, specs.Lines.{plane_value_of}, specs.LineComparison.{plane_comparison}, specs.PlaneLaws.{plane_laws}, specs.declared.comparison.Gaps.{Gaps}}
use Rattle.mob_slice.specs.declared.comparison.Gaps.TheVariants.{Constant, One, Two}
use Rattle.mob_cells.proofs.AtEnds.{gaps_on}
use Rattle.mob_legs.specs.Legs.{length_squared, PointPiece, leg_of, squares_of, leg_reaches, leg_approach, piece_reaches, piece_approach}
use Rattle.mob_near.specs.Distances.{distance_squared}
use Rattle.mob_legs.specs.declared.legs.Leg.{Leg}
use Rattle.mob_near.proofs.Place.{square_at, reached, approached}

abbrev pub IsHeld : PointPiece → Type 0
IsHeld p = HoldsPiece (λ c. c.from) (λ c. c.to) (λ c. c.from) (λ c. c.to) p

-- the squared distance at an instant
abbrev pub square_on : PointPiece → Ratio → Ratio
square_on p t = distance_squared (side_at plane_value_of p.left t) (side_at plane_value_of p.right t)

abbrev length_of : Gaps → Ratio
length_of Constant = nil
length_of (One g) = nil
length_of (Two g h) = length_squared g h

along_leg : (p : PointPiece) → IsHeld p → has_instant p.span ≡ true → (t : Ratio) → has p.span t ≡ true → square_on p t ≡ square_at (leg_of p) p.span t
along_leg p held some t i = ap length_of (gaps_on plane_laws plane_comparison p held some refl t i)

short_square : (g : Leg) (r : SpanOf) (t : Ratio) → before r.lower r.upper ≡ false → square_at g r t ≡ (squares_of g).first
short_square g r t h = rw (line_at-short g.x0 g.x1 r.lower r.upper t h, line_at-short g.y0 g.y1 r.lower r.upper t h) refl

-- ---- at most D
abbrev pub IsReachedOn : Ratio → PointPiece → Type 0
IsReachedOn D p = (piece_reaches D p ≡ true) ↔ ((t : Ratio) × (has p.span t ≡ true) × (up_to (square_on p t) D ≡ true))

pub reached_by : (D : Ratio) (p : PointPiece) → nil ≤ℚ D → IsHeld p → has_instant p.span ≡ true → (b : Bool) → before p.span.lower p.span.upper ≡ b → IsReachedOn D p
reached_by D p hd held some true e =
    let f = reached (leg_of p) p.span D e hd in (
      (λ h. let m = f.0 (subst (λ b. cond b (leg_reaches D p.span.lower_inc p.span.upper_inc (leg_of p)) (up_to (squares_of (leg_of p)).first D) ≡ true) e h) in (m.0, m.1, ap (λ z. up_to z D) (along_leg p held some m.0 m.1) ∙ m.2)),
      (λ m. rw e (f.1 (m.0, m.1, ap (λ z. up_to z D) (sym (along_leg p held some m.0 m.1)) ∙ m.2))),
    )
reached_by D p hd held some false e =
    let at : (t : Ratio) → has p.span t ≡ true → square_on p t ≡ (squares_of (leg_of p)).first = λ t i. along_leg p held some t i ∙ short_square (leg_of p) p.span t e in
    let i = short_has p.span some e in (
      (λ h. (p.span.lower, i, ap (λ z. up_to z D) (at p.span.lower i) ∙ subst (λ b. cond b (leg_reaches D p.span.lower_inc p.span.upper_inc (leg_of p)) (up_to (squares_of (leg_of p)).first D) ≡ true) e h)),
      (λ m. rw e (ap (λ z. up_to z D) (sym (at m.0 m.1)) ∙ m.2)),
    )

pub all_reached : (D : Ratio) → nil ≤ℚ D → (ps : List PointPiece) → PiecesAreClear (λ p. p.span) ps → AllByRecursion IsHeld ps → AllByRecursion (IsReachedOn D) ps
all_reached D hd [] c h = tt
all_reached D hd (p ∷ ps) c h = (reached_by D p hd h.0 c.0 (before p.span.lower p.span.upper) refl, all_reached D hd ps c.2 h.1)

-- ---- the greatest lower bound
pub record IsNearestOn (p : PointPiece) (m : Ratio) : Type 0 where
  pub lower : (t : Ratio) → has p.span t ≡ true → up_to m (square_on p t) ≡ true
  pub greatest : (n : Ratio) → before m n ≡ true → (t : Ratio) × (has p.span t ≡ true) × (before (square_on p t) n ≡ true)

pub nearest_by : (p : PointPiece) → IsHeld p → has_instant p.span ≡ true → (b : Bool) → before p.span.lower p.span.upper ≡ b → IsNearestOn p (cond b (leg_approach (leg_of p)) (squares_of (leg_of p)).first)
nearest_by p held some true e =
    let f = approached (leg_of p) p.span e in
    record {
      lower = λ t i. ap (λ z. up_to (leg_approach (leg_of p)) z) (along_leg p held some t i) ∙ f.lower t i;
      greatest = λ n h. let m = f.greatest n h in (m.0, m.1, ap (λ z. before z n) (along_leg p held some m.0 m.1) ∙ m.2);
    }
nearest_by p held some false e =
    let at : (t : Ratio) → has p.span t ≡ true → square_on p t ≡ (squares_of (leg_of p)).first = λ t i. along_leg p held some t i ∙ short_square (leg_of p) p.span t e in
    let i = short_has p.span some e in
    record {
      lower = λ t h. ap (λ z. up_to (squares_of (leg_of p)).first z) (at t h) ∙ ap not (before-self (squares_of (leg_of p)).first);
      greatest = λ n h. (p.span.lower, i, ap (λ z. before z n) (at p.span.lower i) ∙ h);
    }

pub all_nearest : (ps : List PointPiece) → PiecesAreClear (λ p. p.span) ps → AllByRecursion IsHeld ps → AllByRecursion (λ p. IsNearestOn p (piece_approach p)) ps
all_nearest [] c h = tt
all_nearest (p ∷ ps) c h = (nearest_by p h.0 c.0 (before p.span.lower p.span.upper) refl, all_nearest ps c.2 h.1)
