-- Pieces sorted by their tiles, and grouped.
use Rattle.std.{specs.Prelude.{◌≡◌, ◌≢◌, Bool, cond, List, [], ◌∷◌, ◌++◌}, specs.List.Sorted.{IsPermutation, IsSortedBy, IsStableBy}, specs.Ordering.{is_lt, is_eq}}
use Rattle.mob_ratio.specs.Ratio.{Ratio}
use Rattle.mob_slice.{specs.Slices.{value_at, IsNormal, IsRisingInTime}, specs.Lines.{plane_value_of, plane_continued}, specs.declared.slice.Slice.{Slice}, specs.declared.line.PlaneLine.{PlaneLine}}
use Rattle.mob_grid.{specs.Tiles.{compare_tiles}, specs.declared.tile.Tile.{Tile}}
use Rattle.mob_tile.specs.declared.pieces.TilePiece.{TilePiece}

-- the tile of one comes before that of the other
abbrev pub piece_before : TilePiece → TilePiece → Bool
piece_before p q = is_lt (compare_tiles p.tile q.tile)

abbrev pub same_tile : Tile → Tile → Bool
same_tile a b = is_eq (compare_tiles a b)

-- the pieces sorted by their tiles, where those of one tile keep their order
pub record IsByTile (pieces ordered : List TilePiece) : Type 0 where
  pub same : IsPermutation pieces ordered
  pub sorted : IsSortedBy piece_before ordered
  pub stable : IsStableBy piece_before pieces ordered

-- the groups of sorted pieces: those taken so far of the tile a, then the rest
abbrev pub group_with : Tile → List (Slice PlaneLine) → List TilePiece → List (Tile × List (Slice PlaneLine))
group_with a taken [] = (a, taken) ∷ []
group_with a taken (q ∷ rest) = cond (same_tile a q.tile) (group_with a (taken ++ q.slice ∷ []) rest) ((a, taken) ∷ group_with q.tile (q.slice ∷ []) rest)

abbrev pub tile_groups : List TilePiece → List (Tile × List (Slice PlaneLine))
tile_groups [] = []
tile_groups (q ∷ rest) = group_with q.tile (q.slice ∷ []) rest

-- slices that can form a value
pub record IsTileGroup (group : Tile × List (Slice PlaneLine)) : Type 0 where
  pub some : group.1 ≢ []
  pub ordered : IsRisingInTime (λ c. c.from) (λ c. c.to) group.1

-- the normal value of the slices of a group, with its tile
pub record IsPartOfGroup (group part : Tile × List (Slice PlaneLine)) : Type 0 where
  pub tile : part.0 ≡ group.0
  pub normal : IsNormal (λ c. c.from) (λ c. c.to) plane_continued part.1
  pub same : (t : Ratio) → value_at plane_value_of part.1 t ≡ value_at plane_value_of group.1 t

-- each part is that of its group
abbrev pub AreParts : List (Tile × List (Slice PlaneLine)) → List (Tile × List (Slice PlaneLine)) → Type 0
AreParts [] [] = Unit {0}
AreParts (g ∷ groups) (p ∷ parts) = IsPartOfGroup g p × AreParts groups parts
AreParts [] (p ∷ parts) = ⊥
AreParts (g ∷ groups) [] = ⊥

-- the part of a group is appended
pub record IsPartPushed (group : Tile × List (Slice PlaneLine)) (old new : List (Tile × List (Slice PlaneLine))) : Type 0 where
  pub part : Tile × List (Slice PlaneLine)
  pub is : new ≡ old ++ part ∷ []
  pub of : IsPartOfGroup group part

-- what is done and what is left are all groups, and the parts are those of what is done
pub record IsGrouping (all rest : List TilePiece) (a : Tile) (taken : List (Slice PlaneLine)) (parts : List (Tile × List (Slice PlaneLine))) : Type 0 where
  pub done : List (Tile × List (Slice PlaneLine))
  pub made : done ++ group_with a taken rest ≡ tile_groups all
  pub are : AreParts done parts
