-- Where all narrow entries of the nearest approach fit, so does the number that is given.
use Rattle.std.{specs.Prelude.{◌≡◌, Bool, true, false, cond, ◌&&◌, List, [], ◌∷◌, ◌++◌, Option, Some, None}, specs.List.{flat_map}, proofs.Common.{refl, sym, inl, inr, true≢false}}
use Rattle.mob_ratio.{specs.Ratio.{Ratio, ◌+ℚ◌, ◌-ℚ◌, ◌*ℚ◌, ◌/ℚ◌}, specs.Order.{before}, specs.Sign.{nil}, specs.Quadratic.{infimum_by}}
use Rattle.mob_frac.{specs.Fits.{Fits}, specs.Formula.{AllFit, approach_parts, square_parts}}
use Rattle.mob_slice.{specs.Entries.{Entry, IsFirst}, specs.LineComparison.{point_gaps}, specs.Lines.{plane_value_of, plane_parts_of}, specs.Sides.{at_ends}}
use Rattle.mob_slice.specs.declared.formula.Formula.TheVariants.{F5, F6}
use Rattle.mob_cells.{specs.Gaps.{entries_of_ends}, specs.Roots.{as_list}}
use Rattle.mob_legs.specs.Legs.{PointPiece, gap_x, gap_y}
use Rattle.mob_near.specs.Entries.{entries_of_squares, entries_of_approach, parts_between}
use Rattle.mob_legs.specs.Legs.{leg_of, squares_of, foot_of, is_on_the_way, leg_approach, piece_approach, nearest_of, length_squared}
use Rattle.mob_near.specs.Wide.{least_approach}

-- entries of two lists that all fit
none_front : (xs ys : List Entry) → IsFirst (xs ++ ys) None → IsFirst xs None
none_front [] ys h = refl
none_front (x ∷ xs) ys (inl h) = inl (h.0, none_front xs ys h.1)
none_front (x ∷ xs) ys (inr h) = cc h.1

none_back : (xs ys : List Entry) → IsFirst (xs ++ ys) None → IsFirst ys None
none_back [] ys h = h
none_back (x ∷ xs) ys (inl h) = none_back xs ys h.1
none_back (x ∷ xs) ys (inr h) = cc h.1

none_one : (e : Entry) → IsFirst (e ∷ []) None → AllFit e.parts
none_one e (inl h) = h.0
none_one e (inr h) = cc h.1

smaller_fits : (a b : Ratio) (o : Bool) → Fits a → Fits b → Fits (cond o a b)
smaller_fits a b true h k = h
smaller_fits a b false h k = k

-- the squares at both ends fit, and the last quotient between, if there is one
foot_fits : (first last x0 y0 x1 y1 : Ratio) (o : Bool) → Fits first → Fits last
    → (o ≡ true → Fits ((x0 *ℚ (y1 -ℚ y0) -ℚ y0 *ℚ (x1 -ℚ x0)) *ℚ ((x0 *ℚ (y1 -ℚ y0) -ℚ y0 *ℚ (x1 -ℚ x0)) /ℚ ((x1 -ℚ x0) *ℚ (x1 -ℚ x0) +ℚ (y1 -ℚ y0) *ℚ (y1 -ℚ y0)))))
    → Fits (infimum_by first last (cond o (Some ((x0 *ℚ (y1 -ℚ y0) -ℚ y0 *ℚ (x1 -ℚ x0)) *ℚ ((x0 *ℚ (y1 -ℚ y0) -ℚ y0 *ℚ (x1 -ℚ x0)) /ℚ ((x1 -ℚ x0) *ℚ (x1 -ℚ x0) +ℚ (y1 -ℚ y0) *ℚ (y1 -ℚ y0))))) None))
foot_fits first last x0 y0 x1 y1 true h k m = m refl
foot_fits first last x0 y0 x1 y1 false h k m = smaller_fits last first (before last first) k h

by_way : (o : Bool) (q m : Ratio) → AllFit (cond o (q ∷ m ∷ []) []) → o ≡ true → Fits m
by_way true q m h e = h.1.0
by_way false q m h e = absurd (true≢false (sym e))

-- the numbers of F5
abbrev along : Ratio → Ratio → Ratio → Ratio → Ratio
along x0 y0 x1 y1 = x0 *ℚ (x1 -ℚ x0) +ℚ y0 *ℚ (y1 -ℚ y0)

abbrev length : Ratio → Ratio → Ratio → Ratio → Ratio
length x0 y0 x1 y1 = (x1 -ℚ x0) *ℚ (x1 -ℚ x0) +ℚ (y1 -ℚ y0) *ℚ (y1 -ℚ y0)

abbrev across : Ratio → Ratio → Ratio → Ratio → Ratio
across x0 y0 x1 y1 = x0 *ℚ (y1 -ℚ y0) -ℚ y0 *ℚ (x1 -ℚ x0)

quotient_by : (x0 y0 x1 y1 : Ratio) → AllFit (approach_parts x0 y0 x1 y1) → (before (along x0 y0 x1 y1) nil && before nil (length x0 y0 x1 y1 +ℚ along x0 y0 x1 y1)) ≡ true
    → Fits (across x0 y0 x1 y1 *ℚ (across x0 y0 x1 y1 /ℚ length x0 y0 x1 y1))
quotient_by x0 y0 x1 y1 h e =
    by_way (before (along x0 y0 x1 y1) nil && before nil (length x0 y0 x1 y1 +ℚ along x0 y0 x1 y1)) (across x0 y0 x1 y1 /ℚ length x0 y0 x1 y1) (across x0 y0 x1 y1 *ℚ (across x0 y0 x1 y1 /ℚ length x0 y0 x1 y1))
    h.1.1.1.1.1.1.1.1.1.1.1.1 e

long_fits : (p : PointPiece) (long : Bool) → AllFit (cond long (approach_parts (gap_x p p.span.lower) (gap_y p p.span.lower) (gap_x p p.span.upper) (gap_y p p.span.upper)) []) → Fits (length_squared (gap_x p p.span.lower) (gap_y p p.span.lower)) → Fits (length_squared (gap_x p p.span.upper) (gap_y p p.span.upper)) → Fits (cond long (leg_approach (leg_of p)) (squares_of (leg_of p)).first)
long_fits p true h first last = foot_fits _ _ (gap_x p p.span.lower) (gap_y p p.span.lower) (gap_x p p.span.upper) (gap_y p p.span.upper) (is_on_the_way (foot_of (leg_of p))) first last (λ e. quotient_by (gap_x p p.span.lower) (gap_y p p.span.lower) (gap_x p p.span.upper) (gap_y p p.span.upper) h e)
long_fits p false h first last = first

-- the last three entries of a piece
abbrev ends : PointPiece → List Entry
ends p = entries_of_ends plane_value_of plane_parts_of point_gaps p

abbrev squares : PointPiece → Entry
squares p = record { formula = F6; parts = at_ends (λ t. square_parts (gap_x p t) (gap_y p t)) p.span }

abbrev foot : PointPiece → Entry
foot p = record { formula = F5; parts = parts_between approach_parts p }

both_squares : (x0 y0 x1 y1 : Ratio) → AllFit (square_parts x0 y0 ++ square_parts x1 y1) → Fits (length_squared x0 y0) × Fits (length_squared x1 y1)
both_squares x0 y0 x1 y1 h = (h.1.1.0, h.1.1.1.1.1.0)

pub piece_narrows : (p : PointPiece) → IsFirst (entries_of_approach p) None → Fits (piece_approach p)
piece_narrows p h =
    let at_both = both_squares (gap_x p p.span.lower) (gap_y p p.span.lower) (gap_x p p.span.upper) (gap_y p p.span.upper) (none_one (squares p) (none_back (ends p) (squares p ∷ []) (none_front (entries_of_squares p) (foot p ∷ []) h))) in
    long_fits p (before p.span.lower p.span.upper) (none_one (foot p) (none_back (entries_of_squares p) (foot p ∷ []) h)) at_both.0 at_both.1

nearest_fits : (o : Option Ratio) (m : Ratio) → AllFit (as_list o) → Fits m → Fits (nearest_of o m)
nearest_fits None m h k = k
nearest_fits (Some b) m h k = smaller_fits b m (before b m) h.0 k

pub least_narrows : (ps : List PointPiece) → IsFirst (flat_map entries_of_approach ps) None → AllFit (as_list (least_approach ps))
least_narrows [] h = tt
least_narrows (p ∷ ps) h = (nearest_fits (least_approach ps) (piece_approach p) (least_narrows ps (none_back (entries_of_approach p) (flat_map entries_of_approach ps) h)) (piece_narrows p (none_front (entries_of_approach p) (flat_map entries_of_approach ps) h)), tt)
