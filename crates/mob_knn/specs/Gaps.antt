-- The gap of two boxes.
use Rattle.std.specs.Prelude.{◌≡◌, ◌^◌, Bool, true, false, cond, not, ◌&&◌, List, [], ◌∷◌, ◌++◌, Option, Some, None, nat_abs, nat_lt}
use Rattle.mob_ratio.{specs.Ratio.{Ratio, ◌-ℚ◌}, specs.Order.{up_to, smaller, greater}, specs.Sign.{nil}}
use Rattle.mob_frac.specs.Formula.{AllFit, difference_parts, square_parts}
use Rattle.mob_span.specs.Span.{SpanOf, InSpan}
use Rattle.mob_plane.specs.declared.point.Point.{Point}
use Rattle.mob_stbox.{specs.Areas.{InArea}, specs.Boxes.{BoxOf, where_both, spans_meet}, specs.declared.area.Area.{Area}}
use Rattle.mob_legs.specs.Legs.{length_squared}
use Rattle.mob_near.specs.Distances.{distance_squared}
use Rattle.mob_knn.{specs.declared.gaps.kind.Gap.{Gap}, specs.declared.gaps.kind.Gap.TheVariants.{Apart, AtLeast}}

-- The distance between the ranges from a to b and from c to d: the greater of the two lower ends
-- minus the smaller of the two upper ends. If the two ranges overlap it is 0, without an operation.
-- Then the part of this difference.
abbrev pub range_gap : Ratio → Ratio → Ratio → Ratio → Ratio
range_gap a b c d = cond (up_to (greater a c) (smaller b d)) nil (greater a c -ℚ smaller b d)

abbrev pub range_gap_parts : Ratio → Ratio → Ratio → Ratio → List Ratio
range_gap_parts a b c d = cond (up_to (greater a c) (smaller b d)) [] (difference_parts (greater a c) (smaller b d))

abbrev pub gap_east : Area → Area → Ratio
gap_east a b = range_gap a.xmin a.xmax b.xmin b.xmax

abbrev pub gap_north : Area → Area → Ratio
gap_north a b = range_gap a.ymin a.ymax b.ymin b.ymax

-- the square of the distance of two areas, and the parts of its formulas: F2 of both coordinates
-- and F6
abbrev pub area_gap : Area → Area → Ratio
area_gap a b = length_squared (gap_east a b) (gap_north a b)

abbrev pub area_gap_parts : Area → Area → List Ratio
area_gap_parts a b = range_gap_parts a.xmin a.xmax b.xmin b.xmax ++ (range_gap_parts a.ymin a.ymax b.ymin b.ymax ++ square_parts (gap_east a b) (gap_north a b))

-- m is the least squared distance of a point of a and one of b: none is less, and two points have
-- this one
pub record IsLeastSquare (a b : Area) (m : Ratio) : Type 0 where
  pub lower : (p q : Point) → InArea a p → InArea b q → up_to m (distance_squared p q) ≡ true
  pub taken : (p : Point) × (q : Point) × InArea a p × InArea b q × (distance_squared p q ≡ m)

-- both boxes have times, and these share no instant
abbrev pub AreApart : BoxOf → BoxOf → Type 0
AreApart b q = (s : SpanOf) × (r : SpanOf) × (b.time ≡ Some s) × (q.time ≡ Some r) × ((t : Ratio) → InSpan s t → InSpan r t → ⊥)

-- The gap of two boxes: Apart exactly if both have times that share no instant; else the least
-- squared distance of the two areas, or 0 if a part of its formulas does not fit.
pub record IsLeastGap (b q : BoxOf) (m : Ratio) : Type 0 where
  pub together : AreApart b q → ⊥
  pub exact : (a c : Area) → b.space ≡ Some a → q.space ≡ Some c → AllFit (area_gap_parts a c) → IsLeastSquare a c m
  pub large : (a c : Area) → b.space ≡ Some a → q.space ≡ Some c → (AllFit (area_gap_parts a c) → ⊥) → m ≡ nil

abbrev pub IsGap : BoxOf → BoxOf → Gap → Type 0
IsGap b q Apart = AreApart b q
IsGap b q (AtLeast m) = IsLeastGap b q m

-- ---- the same as a function that computes

-- whether a number fits, and whether all parts do
abbrev pub part_fits : Ratio → Bool
part_fits q = nat_lt (nat_abs q.num) (2 ^ 62) && nat_lt q.den (2 ^ 62)

abbrev pub all_fit : List Ratio → Bool
all_fit [] = true
all_fit (q ∷ parts) = part_fits q && all_fit parts

-- x if all parts fit, else 0
unfoldable pub exact_or_nil : List Ratio → Ratio → Ratio
exact_or_nil parts x = cond (all_fit parts) x nil

abbrev pub are_apart : Option SpanOf → Option SpanOf → Bool
are_apart s r = not (where_both spans_meet s r)

abbrev pub space_gap : Option Area → Option Area → Ratio
space_gap (Some a) (Some c) = exact_or_nil (area_gap_parts a c) (area_gap a c)
space_gap (Some a) None = nil
space_gap None o = nil

unfoldable pub gap_of : BoxOf → BoxOf → Gap
gap_of b q = cond (are_apart b.time q.time) Apart (AtLeast (space_gap b.space q.space))

-- the gap is at most m
abbrev pub gap_reaches : Gap → Ratio → Bool
gap_reaches Apart m = false
gap_reaches (AtLeast g) m = up_to g m
