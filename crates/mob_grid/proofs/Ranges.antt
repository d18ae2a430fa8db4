-- Each point at each instant is in one tile, which is in the range of each box that contains it.
use Rattle.std.{proofs.Common.{◌≡◌, ◌↔◌, inl, inr, Bool, true, false, ℤ, pos, ◌*ℤ◌, ◌≤ℤ◌, ◌<ℤ◌, arith, refl, sym, subst, ◌&&◌, int_lt, negsuc, nat_abs, ◌<◌, ◌^◌}, proofs.lemmas.Int.{ints}}
use Rattle.std.proofs.lemmas.Bool.{and_parts, and_from}
use Rattle.mob_ratio.{specs.Ratio.{Ratio, ◌≤ℚ◌}, proofs.Field.{le_of_lt, le_of_eq}, proofs.IntRing.{le_mul, mul_comm, products, linear}}
use Rattle.mob_span.specs.Span.{SpanOf, InSpan}
use Rattle.mob_plane.specs.declared.point.Point.{Point}
use Rattle.mob_stbox.{specs.Areas.{InArea}, specs.declared.area.Area.{Area}}
use Rattle.mob_grid.{specs.Bands.{in_band}, specs.Tiles.{GridOf, IsGrid, InTile, in_tile, tile_of, InRange, IsRange, range_of}, specs.declared.tile.Tile.{Tile}}
use Rattle.mob_grid.proofs.BandNumbers.{band_has, band_is, bands_rise, in_band_exact}

pub tile_has : (g : GridOf) (t : Ratio) (p : Point) → IsGrid g → InTile g (tile_of g t p) t p
tile_has g t p h = record { in_x = band_has g.size p.x h.some_size; in_y = band_has g.size p.y h.some_size; in_time = band_has g.width t h.some_width }

pub tile_is : (g : GridOf) (a : Tile) (t : Ratio) (p : Point) → IsGrid g → InTile g a t p → a ≡ tile_of g t p
tile_is g a t p h i =
    let x = band_is g.size a.i p.x h.some_size i.in_x in
    let y = band_is g.size a.j p.y h.some_size i.in_y in
    let z = band_is g.width a.k t h.some_width i.in_time in
    λ k. record { i = x k; j = y k; k = z k }

pub in_tile_exact : (g : GridOf) (a : Tile) (t : Ratio) (p : Point) → (in_tile g a t p ≡ true) ↔ InTile g a t p
in_tile_exact g a t p = (
  (λ h. let w = and_parts (in_band g.size a.i p.x && in_band g.size a.j p.y) (in_band g.width a.k t) h in let v = and_parts (in_band g.size a.i p.x) (in_band g.size a.j p.y) w.0 in
      record { in_x = (in_band_exact g.size a.i p.x).0 v.0; in_y = (in_band_exact g.size a.j p.y).0 v.1; in_time = (in_band_exact g.width a.k t).0 w.1 }),
  λ i. and_from (in_band g.size a.i p.x && in_band g.size a.j p.y) (in_band g.width a.k t)
      (and_from (in_band g.size a.i p.x) (in_band g.size a.j p.y) ((in_band_exact g.size a.i p.x).1 i.in_x) ((in_band_exact g.size a.j p.y).1 i.in_y))
      ((in_band_exact g.width a.k t).1 i.in_time),
)

-- the tile of each point of the rectangle, at each instant between the ends of the span or at an
-- end, is in the range
pub closed_reach : (g : GridOf) (a : Area) (s : SpanOf) (t : Ratio) (p : Point) → IsGrid g → InArea a p → s.lower ≤ℚ t → t ≤ℚ s.upper → InRange (range_of g a s) (tile_of g t p)
closed_reach g a s t p h i l u = record {
  from_i = bands_rise g.size a.xmin p.x h.some_size i.from_west;
  to_i = bands_rise g.size p.x a.xmax h.some_size i.to_east;
  from_j = bands_rise g.size a.ymin p.y h.some_size i.from_south;
  to_j = bands_rise g.size p.y a.ymax h.some_size i.to_north;
  from_k = bands_rise g.width s.lower t h.some_width l;
  to_k = bands_rise g.width t s.upper h.some_width u;
}

from_lower : (s : SpanOf) (t : Ratio) → InSpan s t → s.lower ≤ℚ t
from_lower s t i = elim i.from_lower [ inl h ↦ le_of_lt s.lower t h | inr h ↦ le_of_eq s.lower t (sym h.1) ]

to_upper : (s : SpanOf) (t : Ratio) → InSpan s t → t ≤ℚ s.upper
to_upper s t i = elim i.to_upper [ inl h ↦ le_of_lt t s.upper h | inr h ↦ le_of_eq t s.upper h.1 ]

pub reach : (g : GridOf) (a : Area) (s : SpanOf) (t : Ratio) (p : Point) → IsGrid g → InArea a p → InSpan s t → InRange (range_of g a s) (tile_of g t p)
reach g a s t p h i j = closed_reach g a s t p h i (from_lower s t j) (to_upper s t j)

-- ---- how many tiles
one_times : (a : ℤ) → pos 1 *ℤ a ≡ a
one_times a = simp products (omega (arith, linear))

pub times_more : (a b : ℤ) → pos 0 ≤ℤ a → pos 1 ≤ℤ b → a ≤ℤ (a *ℤ b)
times_more a b h k = subst (λ z. a ≤ℤ z) (mul_comm b a) (subst (λ z. z ≤ℤ (b *ℤ a)) (one_times a) (le_mul (pos 1) b a h k))

-- a range with one long side has many tiles
module _ (a b c : ℤ) (i : pos 1 ≤ℤ a) (j : pos 1 ≤ℤ b) (k : pos 1 ≤ℤ c) where
  some : (z : ℤ) → pos 1 ≤ℤ z → pos 0 ≤ℤ z
  some z h = omega (arith, ints)

  more : (n z w : ℤ) → n <ℤ z → z ≤ℤ w → n <ℤ w
  more n z w h k = omega (arith, ints)

  two : pos 0 ≤ℤ (a *ℤ b)
  two = let h = times_more a b (some a i) j in let g = some a i in omega (arith, ints)

  pub long_first : pos 10000 <ℤ a → pos 10000 <ℤ (a *ℤ b *ℤ c)
  long_first h = more (pos 10000) (a *ℤ b) (a *ℤ b *ℤ c) (more (pos 10000) a (a *ℤ b) h (times_more a b (some a i) j)) (times_more (a *ℤ b) c two k)

  pub long_second : pos 10000 <ℤ b → pos 10000 <ℤ (a *ℤ b *ℤ c)
  long_second h = more (pos 10000) (a *ℤ b) (a *ℤ b *ℤ c) (subst (λ z. pos 10000 <ℤ z) (mul_comm b a) (more (pos 10000) b (b *ℤ a) h (times_more b a (some b j) i))) (times_more (a *ℤ b) c two k)

  pub long_third : pos 10000 <ℤ c → pos 10000 <ℤ (a *ℤ b *ℤ c)
  long_third h =
      let g = times_more a b (some a i) j in
      let one : pos 1 ≤ℤ (a *ℤ b) = omega (arith, ints) in
      subst (λ z. pos 10000 <ℤ z) (mul_comm c (a *ℤ b)) (more (pos 10000) c (c *ℤ (a *ℤ b)) h (times_more c (a *ℤ b) (some c k) one))

-- the range of a rectangle that contains a point and a span that contains an instant
pub range_stands : (g : GridOf) (a : Area) (s : SpanOf) → IsGrid g → a.xmin ≤ℚ a.xmax → a.ymin ≤ℚ a.ymax → s.lower ≤ℚ s.upper → IsRange (range_of g a s)
range_stands g a s h x y t = record {
  by_i = bands_rise g.size a.xmin a.xmax h.some_size x;
  by_j = bands_rise g.size a.ymin a.ymax h.some_size y;
  by_k = bands_rise g.width s.lower s.upper h.some_width t;
}

pub short : (n : ℤ) → pos 1 ≤ℤ n → (pos 10000 <ℤ n → ⊥) → nat_abs n < 2 ^ 14
short (pos a) h k = by (int_lt (pos 10000) (pos a)) refl
  where
    by : (b : Bool) → int_lt (pos 10000) (pos a) ≡ b → a < 2 ^ 14
    by true e = absurd (k (omega (arith, ints)))
    by false e = omega (arith, ints)
short (negsuc a) h k = absurd (omega (arith, ints))
