-- Rectangles over runs of slices. A walk over two moving points passes over two runs at once if
-- their rectangles are too far apart to matter.
use Rattle.std.{specs.Prelude.{◌≡◌, ◌≢◌, ℕ, Bool, true, false, cond, ◌||◌, ◌+◌, ◌≤◌, List, [], ◌∷◌, Option, Some, None, length, take, drop}, specs.List.{AllByRecursion}}
use Rattle.mob_ratio.{specs.Ratio.{Ratio, ◌+ℚ◌, ◌-ℚ◌, ◌*ℚ◌}, specs.Order.{before, up_to, smaller, greater}, specs.Sign.{nil}}
use Rattle.mob_span.{specs.Neighbours.{is_inside}, specs.Pieces.{PiecesAreClear}, specs.Span.{SpanOf}}
use Rattle.mob_plane.specs.declared.point.Point.{Point}
use Rattle.mob_slice.{specs.Sides.{SideOf, Moves, Stays, Slices, pieces, side_start}, specs.Slices.{IsRisingInTime}, specs.declared.line.PlaneLine.{PlaneLine}, specs.declared.slice.Slice.{Slice}}
use Rattle.mob_legs.{specs.Legs.{length_squared, PointPiece, piece_reaches, piece_approach}, specs.declared.covers.Cover.{Cover}}

-- the point lies in the rectangle
pub record IsCovered (c : Cover) (p : Point) : Type 0 where
  pub from_left : up_to c.xmin p.x ≡ true
  pub to_right : up_to p.x c.xmax ≡ true
  pub from_low : up_to c.ymin p.y ≡ true
  pub to_high : up_to p.y c.ymax ≡ true

-- both limits of a slice do, and its span lies in the time of the run
pub record CoversSlice (c : Cover) (s : Slice PlaneLine) : Type 0 where
  pub start : IsCovered c s.course.from
  pub end : IsCovered c s.course.to
  pub inside : is_inside c.span s.span ≡ true

-- both limits of a side do
abbrev pub CoversSide : Cover → SideOf PlaneLine Point → Type 0
CoversSide c (Moves s) = IsCovered c s.course.from × IsCovered c s.course.to
CoversSide c (Stays p) = IsCovered c p

-- the rectangle of a side: that of both limits of its slice, or that of its point
abbrev pub side_cover : SpanOf → SideOf PlaneLine Point → Cover
side_cover r q = record {
  span = r;
  xmin = smaller (side_start (λ c. c.from) q).x (side_start (λ c. c.to) q).x;
  xmax = greater (side_start (λ c. c.from) q).x (side_start (λ c. c.to) q).x;
  ymin = smaller (side_start (λ c. c.from) q).y (side_start (λ c. c.to) q).y;
  ymax = greater (side_start (λ c. c.from) q).y (side_start (λ c. c.to) q).y;
  start = 0;
  count = 1;
}

-- those of both sides of a piece
abbrev pub piece_covers : PointPiece → Cover × Cover
piece_covers p = (side_cover p.span p.left, side_cover p.span p.right)

-- each slice of the run is covered, and there is one
pub record CoversRun (c : Cover) (run : List (Slice PlaneLine)) : Type 0 where
  pub some : run ≢ []
  pub each : AllByRecursion (CoversSlice c) run

-- the slices, the first with the number k, are runs of these numbers of slices, in order, each with
-- its cover
abbrev pub AreRunsFrom : ℕ → List (Slice PlaneLine) → List Cover → Type 0
AreRunsFrom k slices [] = slices ≡ []
AreRunsFrom k slices (c ∷ covers) = (c.start ≡ k) × (c.count ≤ length slices) × CoversRun c (take c.count slices) × AreRunsFrom (k + c.count) (drop c.count slices) covers

-- the covers of slices in order of time: their times are ordered and disjoint too
pub record AreCoversOf (slices : List (Slice PlaneLine)) (covers : List Cover) : Type 0 where
  pub order : IsRisingInTime (λ c. c.from) (λ c. c.to) slices
  pub runs : AreRunsFrom 0 slices covers
  pub clear : PiecesAreClear (λ c. c.span) covers

-- the run of a cover
abbrev pub run_of : List (Slice PlaneLine) → Cover → List (Slice PlaneLine)
run_of slices c = take c.count (drop c.start slices)

-- a cover and its run
pub record IsRunOf (slices : List (Slice PlaneLine)) (c : Cover) : Type 0 where
  pub room : c.start + c.count ≤ length slices
  pub covers : CoversRun c (run_of slices c)

-- ---- results over pieces

-- the squared distance is at most D at some instant of one of the pieces
abbrev pub some_reach : Ratio → List PointPiece → Bool
some_reach D [] = false
some_reach D (p ∷ ps) = piece_reaches D p || some_reach D ps

-- the smaller of two results, either of which may be missing
abbrev pub nearer_of : Option Ratio → Option Ratio → Option Ratio
nearer_of None o = o
nearer_of (Some a) None = Some a
nearer_of (Some a) (Some b) = Some (smaller a b)

-- ---- what they say

-- two ranges are more than d apart
abbrev pub is_apart_on : Ratio → Ratio → Ratio → Ratio → Ratio → Bool
is_apart_on d a b c e = before (b +ℚ d) c || before (e +ℚ d) a

-- one rectangle lies beyond the distance d of the other, to one of four sides; one that touches at
-- d does not
abbrev pub is_beyond : Ratio → Cover → Cover → Bool
is_beyond d c e = is_apart_on d c.xmin c.xmax e.xmin e.xmax || is_apart_on d c.ymin c.ymax e.ymin e.ymax

-- the distance between two ranges, 0 if they overlap
abbrev pub range_between : Ratio → Ratio → Ratio → Ratio → Ratio
range_between a b c d = cond (before b c) (c -ℚ b) (cond (before d a) (a -ℚ d) nil)

-- the squared distance of two rectangles
abbrev pub cover_gap : Cover → Cover → Ratio
cover_gap c e = length_squared (range_between c.xmin c.xmax e.xmin e.xmax) (range_between c.ymin c.ymax e.ymin e.ymax)

-- runs whose rectangles lie beyond d of each other do not come within d
abbrev pub BeyondNeverReaches : Type 0
BeyondNeverReaches = (d : Ratio) (c e : Cover) (v w : List (Slice PlaneLine)) → up_to nil d ≡ true → IsRisingInTime (λ z. z.from) (λ z. z.to) v → IsRisingInTime (λ z. z.from) (λ z. z.to) w → CoversRun c v → CoversRun e w → is_beyond d c e ≡ true
    → AllByRecursion (λ p. piece_reaches (d *ℚ d) p ≡ false) (pieces (Slices v) (Slices w))

-- no approach of two runs is below the squared distance of their rectangles
abbrev pub GapsBoundApproaches : Type 0
GapsBoundApproaches = (c e : Cover) (v w : List (Slice PlaneLine)) → IsRisingInTime (λ z. z.from) (λ z. z.to) v → IsRisingInTime (λ z. z.from) (λ z. z.to) w → CoversRun c v → CoversRun e w
    → AllByRecursion (λ p. up_to (cover_gap c e) (piece_approach p) ≡ true) (pieces (Slices v) (Slices w))
