-- The records of an answer.
use Rattle.std.{specs.Prelude.{◌∷◌, ◌++◌, ℕ, ℤ, List, [], codes}, specs.Fmt.{signed_decimal}}
use Rattle.mob_value.{specs.declared.value.Value.{Value}, specs.declared.value.Value.TheVariants.{MovingPoint}}
use Rattle.mob_literal.specs.Fields.{field_text}
use Rattle.mob_grid.specs.declared.tile.Tile.{Tile}
use Rattle.mob_trips.specs.Rows.{Trip, id_at}

-- a tile: its three numbers, with spaces between them
abbrev pub tile_text : Tile → List ℕ
tile_text a = signed_decimal a.i ++ (codes " " ++ signed_decimal a.j) ++ (codes " " ++ signed_decimal a.k)

-- a part of the trip of a row: the id of the row, the tile and the part
abbrev pub part_fields : ℤ → List Value → ℕ → Tile × Trip → List (List ℕ)
part_fields day ids row part = field_text day (id_at ids row) ∷ tile_text part.0 ∷ field_text day (MovingPoint part.1) ∷ []

abbrev pub part_names : List (List ℕ)
part_names = codes "id" ∷ codes "tile" ∷ codes "part" ∷ []

-- a pair of rows: their ids
abbrev pub pair_fields : ℤ → List Value → ℕ × ℕ → List (List ℕ)
pair_fields day ids pair = field_text day (id_at ids pair.0) ∷ field_text day (id_at ids pair.1) ∷ []

abbrev pub pair_names : List (List ℕ)
pair_names = codes "a" ∷ codes "b" ∷ []
