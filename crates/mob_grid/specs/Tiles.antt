-- Tiles of space and time, and the tiles that a box reaches.
use Rattle.std.{specs.Prelude.{◌≡◌, Bool, false, cond, ◌&&◌, ℤ, int_lt, pos, ◌+ℤ◌, ◌-ℤ◌, ◌*ℤ◌, ◌≤ℤ◌, ◌<ℤ◌, List, [], ◌∷◌, Some}, specs.Ordering.{int_cmp, is_eq, is_gt, ordering_then}}
use Rattle.std.specs.declared.cmp.Ordering.{Ordering}
use Rattle.mob_ratio.{specs.Ratio.{Ratio, ◌/ℚ◌, ◌<ℚ◌}, specs.Sign.{nil}}
use Rattle.mob_span.specs.Span.{SpanOf}
use Rattle.mob_plane.specs.declared.point.Point.{Point}
use Rattle.mob_stbox.{specs.Boxes.{BoxOf}, specs.declared.area.Area.{Area}}
use Rattle.mob_grid.{specs.Bands.{InBand, in_band, band_of}, specs.declared.tile.Tile.{Tile}, specs.declared.tile.TileRange.{TileRange}}

-- the sides of the tiles: `size` in units of length, the same in x and y, and `width` in seconds
pub record GridOf : Type 0 where
  pub size : Ratio
  pub width : Ratio

pub record IsGrid (g : GridOf) : Type 0 where
  pub some_size : nil <ℚ g.size
  pub some_width : nil <ℚ g.width

-- The tile a contains the point p at the instant t.
pub record InTile (g : GridOf) (a : Tile) (t : Ratio) (p : Point) : Type 0 where
  pub in_x : InBand g.size a.i p.x
  pub in_y : InBand g.size a.j p.y
  pub in_time : InBand g.width a.k t

-- the same as a test that computes
abbrev pub in_tile : GridOf → Tile → Ratio → Point → Bool
in_tile g a t p = in_band g.size a.i p.x && in_band g.size a.j p.y && in_band g.width a.k t

-- the tile that contains p at t
abbrev pub tile_of : GridOf → Ratio → Point → Tile
tile_of g t p = record { i = band_of g.size p.x; j = band_of g.size p.y; k = band_of g.width t }

-- tiles by i, then by j, then by k
abbrev pub compare_later : Tile → Tile → Ordering
compare_later a b = ordering_then (int_cmp a.j b.j) (int_cmp a.k b.k)

abbrev pub compare_tiles : Tile → Tile → Ordering
compare_tiles a b = ordering_then (int_cmp a.i b.i) (compare_later a b)

-- ---- ranges

-- a is in the range, in each of its numbers
pub record InRange (r : TileRange) (a : Tile) : Type 0 where
  pub from_i : r.low.i ≤ℤ a.i
  pub to_i : a.i ≤ℤ r.high.i
  pub from_j : r.low.j ≤ℤ a.j
  pub to_j : a.j ≤ℤ r.high.j
  pub from_k : r.low.k ≤ℤ a.k
  pub to_k : a.k ≤ℤ r.high.k

-- the range of a rectangle and a span: the floors of its sides and ends, whether or not they are
-- included
abbrev pub range_of : GridOf → Area → SpanOf → TileRange
range_of g a s = record {
  low = record { i = band_of g.size a.xmin; j = band_of g.size a.ymin; k = band_of g.width s.lower };
  high = record { i = band_of g.size a.xmax; j = band_of g.size a.ymax; k = band_of g.width s.upper };
}

-- F2: the six quotients
abbrev pub range_parts : GridOf → Area → SpanOf → List Ratio
range_parts g a s = (a.xmin /ℚ g.size) ∷ (a.ymin /ℚ g.size) ∷ (s.lower /ℚ g.width) ∷ (a.xmax /ℚ g.size) ∷ (a.ymax /ℚ g.size) ∷ (s.upper /ℚ g.width) ∷ []

-- what holds of the rectangle and the span of a box that has both
abbrev pub OnSides : BoxOf → (Area → SpanOf → Type 0) → Type 0
OnSides b P = (a : Area) (s : SpanOf) → b.space ≡ Some a → b.time ≡ Some s → P a s

-- how many numbers there are from one to another, both included
abbrev pub tile_side : ℤ → ℤ → ℤ
tile_side low high = (high -ℤ low) +ℤ pos 1

-- how many tiles a range has
abbrev pub tiles_in : TileRange → ℤ
tiles_in r = tile_side r.low.i r.high.i *ℤ tile_side r.low.j r.high.j *ℤ tile_side r.low.k r.high.k

-- no low number is above its high one
pub record IsRange (r : TileRange) : Type 0 where
  pub by_i : r.low.i ≤ℤ r.high.i
  pub by_j : r.low.j ≤ℤ r.high.j
  pub by_k : r.low.k ≤ℤ r.high.k

-- the range has more than 10,000 tiles
abbrev pub HasMany : TileRange → Type 0
HasMany r = pos 10000 <ℤ tiles_in r

-- ---- the tiles that two ranges share

abbrev pub greater_number : ℤ → ℤ → ℤ
greater_number a b = cond (int_lt a b) b a

-- if two ranges share a tile, this is the least one that they share
abbrev pub least_shared : TileRange → TileRange → Tile
least_shared r s = record { i = greater_number r.low.i s.low.i; j = greater_number r.low.j s.low.j; k = greater_number r.low.k s.low.k }

abbrev pub is_least_shared : Tile → TileRange → TileRange → Bool
is_least_shared a r s = is_eq (compare_tiles a (least_shared r s))

-- a is in both ranges, and no tile in both comes before it
pub record IsLeastShared (r s : TileRange) (a : Tile) : Type 0 where
  pub first : InRange r a
  pub second : InRange s a
  pub least : (b : Tile) → InRange r b → InRange s b → is_gt (compare_tiles a b) ≡ false
