-- Boxes of the plane and of time, and the relations between two of them.
use Rattle.std.specs.Prelude.{◌≡◌, ◌⊎◌, Bool, true, false, cond, ◌&&◌, ◌||◌, Option, Some, None, is_some, IfSome, MatchOption}
use Rattle.mob_ratio.{specs.Ratio.{Ratio, ◌<ℚ◌}, specs.Order.{same}, specs.Sign.{nil}}
use Rattle.mob_span.{specs.Span.{SpanOf, InSpan, has, has_instant}, specs.Meet.{meet_of, starts_before, ends_before}, specs.Neighbours.{is_inside}, specs.Flags.{same_bool}}
use Rattle.mob_plane.specs.declared.point.Point.{Point}
use Rattle.mob_stbox.{specs.Areas.{InArea, in_area, is_area, areas_meet, area_over, area_cover, same_area}, specs.declared.area.Area.{Area}}

-- a closed area of the plane, a span of time, or both
pub record BoxOf : Type 0 where
  pub space : Option Area
  pub time : Option SpanOf

-- no box has these two dimensions: both are missing, or a smallest coordinate is above its greatest
abbrev pub NoBox : Option Area → Option SpanOf → Type 0
NoBox space time = ((space ≡ None) × (time ≡ None)) ⊎ ((a : Area) × (space ≡ Some a) × ((a.xmax <ℚ a.xmin) ⊎ (a.ymax <ℚ a.ymin)))

-- no smallest coordinate of the area is above its greatest, if the box has an area
abbrev pub area_stands : Option Area → Bool
area_stands None = true
area_stands (Some a) = is_area a

-- the span has an instant, if the box has a span
abbrev pub span_stands : Option SpanOf → Bool
span_stands None = true
span_stands (Some s) = has_instant s

-- the box has a dimension, no smallest coordinate is above its greatest, and the span has an
-- instant
abbrev pub is_box : BoxOf → Bool
is_box b = (is_some b.space || is_some b.time) && (area_stands b.space && span_stands b.time)

-- the point 0 0 at any time
abbrev pub origin : BoxOf
origin = record { space = Some (record { xmin = nil; xmax = nil; ymin = nil; ymax = nil }); time = None }

-- the box has space and time
unfoldable pub is_whole : BoxOf → Bool
is_whole b = is_some b.space && is_some b.time

-- The position p at the instant t is in the box: p lies in its area, if the box has space, and t in
-- its span, if it has time.
pub record InBox (b : BoxOf) (t : Ratio) (p : Point) : Type 0 where
  pub in_space : IfSome b.space (λ a. InArea a p)
  pub in_time : IfSome b.time (λ s. InSpan s t)

-- the point lies in the area, if the box has one
abbrev pub in_space : Option Area → Point → Bool
in_space None p = true
in_space (Some a) p = in_area a p

-- the instant is in the span, if the box has one
abbrev pub in_time : Option SpanOf → Ratio → Bool
in_time None t = true
in_time (Some s) t = has s t

-- InBox as a test that computes
abbrev pub in_box : BoxOf → Ratio → Point → Bool
in_box b t p = in_space b.space p && in_time b.time t

-- both have this dimension
abbrev pub both_have : {A : Type 0} → Option A → Option A → Bool
both_have a b = is_some a && is_some b

-- Two boxes overlap: they share at least one dimension and, on every dimension that both have, a
-- value. So boxes whose sides touch overlap. Boxes whose spans end and begin at one instant overlap
-- if both include it.
pub record BoxesMeet (a b : BoxOf) : Type 0 where
  pub share : (both_have a.space b.space || both_have a.time b.time) ≡ true
  pub in_space : IfSome a.space (λ x. IfSome b.space (λ y. (p : Point) × InArea x p × InArea y p))
  pub in_time : IfSome a.time (λ s. IfSome b.time (λ r. (t : Ratio) × InSpan s t × InSpan r t))

-- a test of a dimension that both have; true if one of them lacks it
abbrev pub where_both : {A : Type 0} → (A → A → Bool) → Option A → Option A → Bool
where_both test None b = true
where_both test (Some x) None = true
where_both test (Some x) (Some y) = test x y

-- some instant is in both spans
abbrev pub spans_meet : SpanOf → SpanOf → Bool
spans_meet s r = has_instant (meet_of s r)

-- BoxesMeet as a test on the sides
unfoldable pub overlaps : BoxOf → BoxOf → Bool
overlaps a b = (both_have a.space b.space || both_have a.time b.time) && (where_both areas_meet a.space b.space && where_both spans_meet a.time b.time)

-- The box a contains b: b has every dimension of a, and lies in a on each.
pub record BoxContains (a b : BoxOf) : Type 0 where
  pub in_space : IfSome a.space (λ x. MatchOption b.space ⊥ (λ y. (p : Point) → InArea y p → InArea x p))
  pub in_time : IfSome a.time (λ s. MatchOption b.time ⊥ (λ r. (t : Ratio) → InSpan r t → InSpan s t))

-- a test of a dimension that the first has: the second has it too, and lies in the first
abbrev pub lies_in : {A : Type 0} → (A → A → Bool) → Option A → Option A → Bool
lies_in over None b = true
lies_in over (Some x) None = false
lies_in over (Some x) (Some y) = over x y

-- BoxContains as a test on the sides
unfoldable pub contains : BoxOf → BoxOf → Bool
contains a b = lies_in area_over a.space b.space && lies_in is_inside a.time b.time

-- The box c is the smallest that covers a and b: it contains both, and each box that contains both
-- contains c.
pub record IsCover (a b c : BoxOf) : Type 0 where
  pub first : BoxContains c a
  pub second : BoxContains c b
  pub least : (d : BoxOf) → BoxContains d a → BoxContains d b → BoxContains d c

-- the smallest span that contains both: from the earlier start to the later end
abbrev pub span_cover : SpanOf → SpanOf → SpanOf
span_cover s r = record {
  lower = cond (starts_before r s) r.lower s.lower;
  upper = cond (ends_before s r) r.upper s.upper;
  lower_inc = cond (starts_before r s) r.lower_inc s.lower_inc;
  upper_inc = cond (ends_before s r) r.upper_inc s.upper_inc;
}

-- a dimension of the two, joined if both have it
abbrev pub of_both : {A : Type 0} → (A → A → A) → Option A → Option A → Option A
of_both join None b = None
of_both join (Some x) None = None
of_both join (Some x) (Some y) = Some (join x y)

-- the smallest box that contains both, by the sides
unfoldable pub cover : BoxOf → BoxOf → BoxOf
cover a b = record { space = of_both area_cover a.space b.space; time = of_both span_cover a.time b.time }

-- the two spans have the same ends, with the same inclusion
abbrev pub same_span : SpanOf → SpanOf → Bool
same_span s r = same s.lower r.lower && same s.upper r.upper && (same_bool s.lower_inc r.lower_inc && same_bool s.upper_inc r.upper_inc)

-- a dimension is missing in both, or is equal in both
abbrev pub same_part : {A : Type 0} → (A → A → Bool) → Option A → Option A → Bool
same_part test None None = true
same_part test None (Some y) = false
same_part test (Some x) None = false
same_part test (Some x) (Some y) = test x y

-- the two boxes are equal: they have the same dimensions, the same sides and the same span
unfoldable pub same_box : BoxOf → BoxOf → Bool
same_box a b = same_part same_area a.space b.space && same_part same_span a.time b.time
