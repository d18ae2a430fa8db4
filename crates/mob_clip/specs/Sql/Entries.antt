-- The entries of the operators on boxes and polygons.
use Rattle.std.{specs.Prelude.{List, [], ◌∷◌}, specs.List.{flat_map}}
use Rattle.mob_slice.{specs.Entries.{Entry}, specs.declared.formula.Formula.TheVariants.{F7}}
use Rattle.mob_stbox.{specs.Boxes.{BoxOf}, specs.Expansion.{parts_of_expansion}}
use Rattle.mob_value.{specs.ValueBoxes.{OnBox}, specs.declared.value.Value.{Value}, specs.declared.value.Value.TheVariants.{Number, Box, MovingPoint, Polygon}}
use Rattle.mob_clip.{specs.Boxes.{entries_of_box}, specs.Polygons.{entries_of_polygon}}

-- the one entry of expandSpace: F7, the new sides
abbrev pub entries_outward : BoxOf → Value → List Entry
entries_outward b (Number d) = record { formula = F7; parts = parts_of_expansion b d } ∷ []
entries_outward b _ = []

-- what holds of the entries of expandSpace
abbrev pub OnExpansion : Value → Value → (List Entry → Type 0) → Type 0
OnExpansion a d P = OnBox a (λ b. P (entries_outward b d)) (P [])

-- the entries of atStbox and minusStbox, on each slice
abbrev pub box_entries : Value → Value → List Entry
box_entries (MovingPoint a) (Box b) = flat_map (entries_of_box b) a
box_entries _ _ = []

-- the entries of atGeometry, minusGeometry and eIntersects, on each slice
abbrev pub polygon_entries : Value → Value → List Entry
polygon_entries (MovingPoint a) (Polygon rings) = flat_map (entries_of_polygon rings) a
polygon_entries _ _ = []
