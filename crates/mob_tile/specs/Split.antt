-- The split of a moving point by tiles.
use Rattle.std.{specs.Prelude.{◌≡◌, ◌⊎◌, true, List, [], ◌∷◌, Some, None, Result, Ok, Err}, specs.List.{AllByRecursion, flat_map}, specs.declared.cmp.Ordering.TheVariants.{Less}}
use Rattle.mob_ratio.specs.Ratio.{Ratio}
use Rattle.mob_frac.specs.Formula.{AllFit}
use Rattle.mob_span.{specs.Chained.{Chained}, specs.Span.{SpanOf}}
use Rattle.mob_plane.specs.declared.point.Point.{Point}
use Rattle.mob_slice.{specs.Slices.{value_at, IsNormal}, specs.Lines.{plane_value_of, plane_continued}, specs.Entries.{IsFirst}, specs.declared.slice.Slice.{Slice}}
use Rattle.mob_slice.{specs.declared.line.PlaneLine.{PlaneLine}, specs.declared.formula.Formula.TheVariants.{F2}}
use Rattle.mob_cells.specs.Restricted.{where_wanted}
use Rattle.mob_stbox.specs.declared.area.Area.{Area}
use Rattle.mob_value.specs.ValueBoxes.{IsBoxOf}
use Rattle.mob_grid.{specs.Tiles.{GridOf, in_tile, tile_of, compare_tiles, range_of, range_parts, HasMany}, specs.declared.tile.Tile.{Tile}, specs.declared.tile.TileRange.{TileRange}}
use Rattle.mob_list.{specs.declared.fault.Fault.{Fault}, specs.declared.fault.Fault.TheVariants.{Because, NoMemory}}
use Rattle.mob_tile.{specs.declared.splitting.SplitCause.{SplitCause}, specs.declared.splitting.SplitCause.TheVariants.{Passed, Limit}, specs.Edges.{entries_of_slice}}

-- The part of the value a in a tile: it is normal, and has the value of a at each instant at which
-- a is in the tile, and none elsewhere.
pub record IsTilePart (g : GridOf) (a : List (Slice PlaneLine)) (tile : Tile) (part : List (Slice PlaneLine)) : Type 0 where
  pub normal : IsNormal (λ c. c.from) (λ c. c.to) plane_continued part
  pub same : (t : Ratio) → value_at plane_value_of part t ≡ where_wanted true (in_tile g tile t) (value_at plane_value_of a t)

-- some part has the tile
abbrev pub HasTile : Tile → List (Tile × List (Slice PlaneLine)) → Type 0
HasTile tile [] = ⊥
HasTile tile (p ∷ parts) = (p.0 ≡ tile) ⊎ HasTile tile parts

-- Split(a): the tiles in which a is at some instant, in ascending order, each with the part there.
pub record IsSplit (g : GridOf) (a : List (Slice PlaneLine)) (parts : List (Tile × List (Slice PlaneLine))) : Type 0 where
  pub rising : Chained (λ p. Unit {0}) (λ p q. compare_tiles p.0 q.0 ≡ Less) parts
  pub each : AllByRecursion (λ p. IsTilePart g a p.0 p.1) parts
  pub all : (t : Ratio) (p : Point) → value_at plane_value_of a t ≡ Some p → HasTile (tile_of g t p) parts

-- some part has the tile, and the value p at t
abbrev pub HasPartAt : Tile → Ratio → Point → List (Tile × List (Slice PlaneLine)) → Type 0
HasPartAt tile t p [] = ⊥
HasPartAt tile t p (q ∷ parts) = ((q.0 ≡ tile) × (value_at plane_value_of q.1 t ≡ Some p)) ⊎ HasPartAt tile t p parts

-- a has a box, and this holds for the quotients and the range of that box
pub record OnRange (g : GridOf) (a : List (Slice PlaneLine)) (P : List Ratio → TileRange → Type 0) : Type 0 where
  pub area : Area
  pub time : SpanOf
  pub box : IsBoxOf a (record { space = Some area; time = Some time })
  pub holds : P (range_parts g area time) (range_of g area time)

-- The refusals of the split, in their order: a quotient of the range of the box of a does not fit;
-- else the range has more than 10,000 tiles; else the first entry of a slice with a part that does
-- not fit, slice by slice. There is an answer only if there is no refusal.
abbrev pub SplitAnswer : {V : Type 0} → GridOf → List (Slice PlaneLine) → List Ratio → TileRange → Result V (Fault SplitCause) → Type 0
SplitAnswer g a quotients range (Ok v) = AllFit quotients × (¬ HasMany range) × IsFirst (flat_map (entries_of_slice g) a) None
SplitAnswer g a quotients range (Err (Because (Passed f))) = ((f ≡ F2) × (¬ AllFit quotients)) ⊎ (AllFit quotients × (¬ HasMany range) × IsFirst (flat_map (entries_of_slice g) a) (Some f))
SplitAnswer g a quotients range (Err (Because Limit)) = AllFit quotients × HasMany range
SplitAnswer g a quotients range (Err NoMemory) = Unit {0}

-- The quotients and the limit are tested before anything is allocated.
pub record IsLimited {V : Type 0} (quotients : List Ratio) (range : TileRange) (r : Result V (Fault SplitCause)) : Type 0 where
  pub quotients_first : (¬ AllFit quotients) → r ≡ Err (Because (Passed F2))
  pub limit_then : (AllFit quotients × HasMany range) → r ≡ Err (Because Limit)
