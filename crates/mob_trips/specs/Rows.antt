-- The ids and the trips of the rows of a table.
use Rattle.std.specs.Prelude.{◌∷◌, ℕ, List, [], Option, Some, None, map, slice_get}
use Rattle.mob_slice.{specs.declared.slice.Slice.{Slice}, specs.declared.line.PlaneLine.{PlaneLine}}
use Rattle.mob_value.{specs.declared.value.Value.{Value}, specs.declared.value.Value.TheVariants.{Null, MovingPoint}}

abbrev pub Trip : Type 0
Trip = List (Slice PlaneLine)

-- the moving point of a value; NULL has none
abbrev pub moving_point : Value → Option Trip
moving_point (MovingPoint v) = Some v
moving_point _ = None

-- the id and the trip of a row
abbrev pub id_of : List Value → Value
id_of (id ∷ trip ∷ []) = id
id_of _ = Null

abbrev pub trip_of : List Value → Option Trip
trip_of (id ∷ trip ∷ []) = moving_point trip
trip_of _ = None

abbrev pub trips_in : List (List Value) → List (Option Trip)
trips_in rows = map trip_of rows

-- the id of the row of this number
abbrev pub known_id : Option Value → Value
known_id None = Null
known_id (Some id) = id

abbrev pub id_at : List Value → ℕ → Value
id_at ids row = known_id (slice_get ids row)
