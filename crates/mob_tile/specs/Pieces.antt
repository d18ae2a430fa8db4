-- Pieces of a moving point, each in one tile.
use Rattle.std.{specs.Prelude.{◌≡◌, ◌⊎◌, true, List, [], ◌∷◌, ◌++◌, map, Some}, specs.List.{AllByRecursion}}
use Rattle.mob_ratio.{specs.Ratio.{Ratio, ◌≤ℚ◌}, specs.Order.{smaller, greater}}
use Rattle.mob_span.specs.Span.{SpanOf, has}
use Rattle.mob_plane.specs.declared.point.Point.{Point}
use Rattle.mob_stbox.specs.Areas.{InArea, area_between}
use Rattle.mob_slice.{specs.Cut.{slice_value}, specs.Sides.{HasValues}, specs.Lines.{plane_value_of}, specs.declared.slice.Slice.{Slice}, specs.declared.line.PlaneLine.{PlaneLine}}
use Rattle.mob_slice.specs.OnPiece.{AreKeptOn}
use Rattle.mob_cells.{specs.Cells.{AreSplit, IsCut, IsSomeEnd}, specs.Restricted.{AreRestricted}}
use Rattle.mob_grid.{specs.Tiles.{GridOf, InTile, InRange, tile_of}, specs.declared.tile.Tile.{Tile}, specs.declared.tile.TileRange.{TileRange}}
use Rattle.mob_tile.specs.declared.pieces.TilePiece.{TilePiece}

-- the least corner of the bounding rectangle of two points, and the greatest
abbrev pub least_of : Point → Point → Point
least_of p q = record { x = smaller p.x q.x; y = smaller p.y q.y }

abbrev pub greatest_of : Point → Point → Point
greatest_of p q = record { x = greater p.x q.x; y = greater p.y q.y }

-- the tile of the least corner of a piece, at its lower end
abbrev pub tile_on : GridOf → Slice PlaneLine → SpanOf → Tile
tile_on g s c = tile_of g c.lower (least_of (slice_value plane_value_of s c.lower) (slice_value plane_value_of s c.upper))

-- the whole cell lies in one tile
abbrev pub HasOneTile : GridOf → Slice PlaneLine → SpanOf → Type 0
HasOneTile g s c = (t : Ratio) → has c t ≡ true → InTile g (tile_on g s c) t (slice_value plane_value_of s t)

-- each position between the limits of a slice, at each instant between its ends, has a tile in the
-- range
abbrev pub Reaches : GridOf → TileRange → Slice PlaneLine → Type 0
Reaches g r s = (t : Ratio) (p : Point) → InArea (area_between s.course.from s.course.to) p → s.span.lower ≤ℚ t → t ≤ℚ s.span.upper → InRange r (tile_of g t p)

-- the piece lies in its tile
abbrev pub IsInItsTile : GridOf → TilePiece → Type 0
IsInItsTile g q = (t : Ratio) → has q.slice.span t ≡ true → InTile g q.tile t (slice_value plane_value_of q.slice t)

abbrev pub piece_slices : List TilePiece → List (Slice PlaneLine)
piece_slices pieces = map (λ q. q.slice) pieces

-- the pieces of the slice s: they have its values on its span, and each lies in its tile
pub record ArePiecesOf (g : GridOf) (s : Slice PlaneLine) (pieces : List TilePiece) : Type 0 where
  pub kept : AreKeptOn plane_value_of (λ c. c.from) (λ c. c.to) (λ t. Some (slice_value plane_value_of s t)) s.span (piece_slices pieces)
  pub tiles : AllByRecursion (IsInItsTile g) pieces

-- the pieces of the value a, in order of time: they have its values, and each lies in its tile
pub record AreTilePieces (g : GridOf) (a : List (Slice PlaneLine)) (pieces : List TilePiece) : Type 0 where
  pub kept : AreRestricted plane_value_of (λ c. c.from) (λ c. c.to) true (λ t p. true) a (piece_slices pieces)
  pub tiles : AllByRecursion (IsInItsTile g) pieces

-- Each cut is an end of the span or of a cell, and each end of a cell is an end of the span or a
-- cut.
pub record AreCutsOf (s : SpanOf) (cuts : List Ratio) (cells : List SpanOf) : Type 0 where
  pub each : AllByRecursion (λ r. (r ≡ s.lower) ⊎ ((r ≡ s.upper) ⊎ IsSomeEnd r cells)) cuts
  pub only : AllByRecursion (λ c. IsCut s cuts c.lower × IsCut s cuts c.upper) cells

-- what holds of the cells of a slice
pub record AreTileCells (g : GridOf) (s : Slice PlaneLine) (cuts : List Ratio) (cells : List SpanOf) : Type 0 where
  pub split : AreSplit s.span cells
  pub cut : AreCutsOf s.span cuts cells
  pub tiles : AllByRecursion (HasOneTile g s) cells

-- a piece with the values of the slice s on the cell c, in its tile, is appended
pub record IsPushed (g : GridOf) (s : Slice PlaneLine) (c : SpanOf) (old new : List TilePiece) : Type 0 where
  pub piece : TilePiece
  pub is : new ≡ old ++ piece ∷ []
  pub values : HasValues plane_value_of (λ c. c.from) (λ c. c.to) (slice_value plane_value_of s) c piece.slice
  pub tile : IsInItsTile g piece
