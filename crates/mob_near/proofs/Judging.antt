-- The entries of a piece, and of all pieces.
use Rattle.std.{specs.Prelude.{◌≡◌, Bool, true, false, cond, List, [], ◌∷◌, ◌++◌, Option, Some, None, Result, Ok, Err, refl}, specs.List.{flat_map}}
use Rattle.std.proofs.Common.{ap, sym, ◌∙◌, subst, inl, inr, ⊎_elim}
use Rattle.mob_ratio.{specs.Ratio.{Ratio, ◌*ℚ◌}, specs.Order.{before}, specs.Sign.{nil}}
use Rattle.mob_frac.specs.Formula.{AllFit, distance_parts}
use Rattle.mob_slice.{specs.Computed.{IsComputed}, specs.Entries.{Entry, IsFirst, IsDecided}, specs.LineComparison.{point_gaps}, specs.Lines.{plane_value_of, plane_parts_of}}
use Rattle.mob_slice.{specs.Sides.{side_parts, at_ends}, specs.declared.line.PlaneLine.{PlaneLine}, specs.declared.formula.Formula.{Formula}, specs.declared.formula.Formula.TheVariants.{F2, F5, F6}}
use Rattle.mob_slice.{proofs.Cuts.{all_both}, proofs.JoinedFirsts.{first_joined, first_front}}
use Rattle.mob_cells.specs.Gaps.{entries_of_ends}
use Rattle.mob_legs.specs.Legs.{PointPiece, ends_of, leg_between, leg_parts, leg_of, squares_parts, are_some}
use Rattle.mob_near.specs.Entries.{entries_of_squares, entries_of_reach, entries_of_within}
use Rattle.mob_legs.specs.declared.legs.Leg.{Leg}

-- the differences at both ends of a piece, once the points there are known
module _ (p : PointPiece) (l r : PlaneLine) (left : (l ≡ ends_of p.left p.span) × AllFit (at_ends (side_parts plane_parts_of p.left) p.span)) (right : (r ≡ ends_of p.right p.span) × AllFit (at_ends (side_parts plane_parts_of p.right) p.span)) where
  points_fit : AllFit (at_ends (side_parts plane_parts_of p.left) p.span ++ at_ends (side_parts plane_parts_of p.right) p.span)
  points_fit = all_both (at_ends (side_parts plane_parts_of p.left) p.span) (at_ends (side_parts plane_parts_of p.right) p.span) left.1 right.1

  same_parts : leg_parts l r ≡ leg_parts (ends_of p.left p.span) (ends_of p.right p.span)
  same_parts = ap (λ z. leg_parts z r) left.0 ∙ ap (leg_parts (ends_of p.left p.span)) right.0

  pub leg_decided : (q : Result Leg Formula) → IsComputed F2 (leg_parts l r) (leg_between l r) q → IsDecided (entries_of_ends plane_value_of plane_parts_of point_gaps p) q
  leg_decided (Ok g) h = inl (points_fit, inl (subst AllFit same_parts h.1, refl))
  leg_decided (Err f) h = inl (points_fit, inr (λ all. h.1 (subst AllFit (sym same_parts) all), ap Some h.0))

module _ (p : PointPiece) (five : List Ratio) where
  abbrev ends : List Entry
  ends = entries_of_ends plane_value_of plane_parts_of point_gaps p

  abbrev all : List Entry
  all = entries_of_squares p ++ record { formula = F5; parts = five } ∷ []

  abbrev rest : List Entry
  rest = record { formula = F6; parts = squares_parts (leg_of p) } ∷ record { formula = F5; parts = five } ∷ []

  pub leg_fails : (f : Formula) → IsFirst ends (Some f) → IsFirst all (Some f)
  leg_fails f h = first_front ends rest f h

  module _ (fit : IsFirst ends None) (g : Leg) (e : g ≡ leg_of p) where
    pub squares_fail : (f : Formula) → (f ≡ F6) × (¬ AllFit (squares_parts g)) → IsFirst all (Some f)
    squares_fail f h = first_joined ends rest (Some f) fit (inr (λ a. h.1 (subst (λ z. AllFit (squares_parts z)) (sym e) a), ap Some h.0))

-- ---- all pieces, each with the square of the distance first
abbrev with_distance : Ratio → PointPiece → List Entry
with_distance d p = record { formula = F6; parts = distance_parts d } ∷ entries_of_reach (d *ℚ d) p

module _ (d : Ratio) where
  squares_fit : AllFit (distance_parts d) → (ps : List PointPiece) (r : Option Formula) → IsFirst (flat_map (entries_of_reach (d *ℚ d)) ps) r → IsFirst (flat_map (with_distance d) ps) r
  squares_fit fit [] r h = h
  squares_fit fit (p ∷ ps) r h = inl (fit, split (entries_of_reach (d *ℚ d) p) (flat_map (entries_of_reach (d *ℚ d)) ps) (flat_map (with_distance d) ps) r (squares_fit fit ps) h)
    where
      split : (xs ys zs : List Entry) (r : Option Formula) → ((r : Option Formula) → IsFirst ys r → IsFirst zs r) → IsFirst (xs ++ ys) r → IsFirst (xs ++ zs) r
      split [] ys zs r f h = f r h
      split (x ∷ xs) ys zs r f h = ⊎_elim (λ m. inl (m.0, split xs ys zs r f m.1)) (λ m. inr m) h

  -- if the square of a distance of at least 0 fits, only the other entries matter
  pub within_fits : {V : Type 0} (ps : List PointPiece) (r : Result V Formula) → before d nil ≡ false → AllFit (distance_parts d) → IsDecided (flat_map (entries_of_reach (d *ℚ d)) ps) r → IsDecided (entries_of_within d ps) r
  within_fits ps (Ok v) h fit k = rw h (squares_fit fit ps None k)
  within_fits ps (Err e) h fit k = rw h (squares_fit fit ps (Some e) k)

  -- if it does not fit, it is the first fault as soon as a piece exists
  pub within_unfit : (ps : List PointPiece) → before d nil ≡ false → (¬ AllFit (distance_parts d)) → IsDecided {V = Option Bool} (entries_of_within d ps) (cond (are_some ps) (Err (F6)) (Ok None))
  within_unfit [] h bad = rw h refl
  within_unfit (p ∷ ps) h bad = rw h (inr (bad, refl))

  -- a distance below 0 has no formula
  pub within_none : {V : Type 0} (ps : List PointPiece) (v : V) → before d nil ≡ true → IsDecided (entries_of_within d ps) (Ok v)
  within_none ps v h = rw h refl
