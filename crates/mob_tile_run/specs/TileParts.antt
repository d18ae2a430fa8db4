-- The parts of the trips of a table, and the first row without a split.
use Rattle.std.{specs.Prelude.{◌≡◌, ◌∷◌, ◌++◌, ◌+◌, ℕ, ℤ, List, [], Option, Some, None, Err, map, length}, specs.List.{AllZip, flat_map}}
use Rattle.mob_frac.specs.Formula.{AllFit}
use Rattle.mob_slice.specs.Entries.{IsFirst}
use Rattle.mob_value.specs.declared.value.Value.{Value}
use Rattle.mob_tile.{specs.Edges.{entries_of_slice}, specs.Split.{IsSplit, OnRange, SplitAnswer}, specs.declared.splitting.SplitCause.{SplitCause}}
use Rattle.mob_grid.{specs.Tiles.{GridOf, HasMany}, specs.declared.tile.Tile.{Tile}}
use Rattle.mob_list.{specs.declared.fault.Fault.{Fault}, specs.declared.fault.Fault.TheVariants.{Because, NoMemory}}
use Rattle.mob_pairs.{specs.declared.fault.PairCause.{PairCause}, specs.declared.fault.PairCause.TheVariants.{Passed, Limit}}
use Rattle.mob_records.specs.AnswerText.{answer_text}
use Rattle.mob_trips.specs.Rows.{Trip}
use Rattle.mob_tile_run.specs.TileTexts.{part_fields, part_names}
use Rattle.mob_tile.specs.declared.splitting.SplitCause.TheVariants as split

-- The split of a trip, if all parts of formulas fit and the range of its box has at most 10,000
-- tiles; a row without a trip has none.
abbrev pub IsSplitOf : GridOf → Option Trip → List (Tile × Trip) → Type 0
IsSplitOf g None parts = parts ≡ []
IsSplitOf g (Some v) parts = IsSplit g v parts × OnRange g v (λ quotients range. AllFit quotients × (¬ HasMany range) × IsFirst (flat_map (entries_of_slice g) v) None)

-- the fault of a row, from that of its trip
abbrev pub row_fault : ℕ → Fault SplitCause → Fault PairCause
row_fault row (Because (split.Passed formula)) = Because (Passed (row ∷ []) formula)
row_fault row (Because split.Limit) = Because (Limit row)
row_fault row NoMemory = NoMemory

-- why a trip is not split
abbrev pub SplitFails : GridOf → Trip → Fault SplitCause → Type 0
SplitFails g v fault = OnRange g v (λ quotients range. SplitAnswer {V = List (Tile × Trip)} g v quotients range (Err fault))

-- The fault of a row: why its trip is not split, with this row. Out of memory has no row.
abbrev pub IsSplitFault : GridOf → Option Trip → ℕ → Fault PairCause → Type 0
IsSplitFault g None row fault = ⊥
IsSplitFault g (Some v) row (Because (Passed rows formula)) = (rows ≡ row ∷ []) × SplitFails g v (Because (split.Passed formula))
IsSplitFault g (Some v) row (Because (Limit r)) = (r ≡ row) × SplitFails g v (Because split.Limit)
IsSplitFault g (Some v) row NoMemory = Unit {0}

-- the fault of a row, where all rows before it are split
pub record IsSomeSplitFault (g : GridOf) (trips : List (Option Trip)) (fault : Fault PairCause) : Type 0 where
  pub before : List (Option Trip)
  pub here : Option Trip
  pub after : List (Option Trip)
  pub splits : List (List (Tile × Trip))
  pub is : trips ≡ before ++ here ∷ after
  pub first : AllZip (IsSplitOf g) before splits
  pub cause : IsSplitFault g here (length before) fault

abbrev pub IsFirstSplitFault : GridOf → List (Option Trip) → Fault PairCause → Type 0
IsFirstSplitFault g trips NoMemory = Unit {0}
IsFirstSplitFault g trips (Because cause) = IsSomeSplitFault g trips (Because cause)

-- the records of the parts of rows, from row n on
abbrev pub records_from : ℤ → List Value → ℕ → List (List (Tile × Trip)) → List (List (List ℕ))
records_from day ids n [] = []
records_from day ids n (parts ∷ splits) = map (part_fields day ids n) parts ++ records_from day ids (n + 1) splits

-- the records of the splits of these trips
pub record ArePartRecords (g : GridOf) (day : ℤ) (ids : List Value) (trips : List (Option Trip)) (records : List (List (List ℕ))) : Type 0 where
  pub splits : List (List (Tile × Trip))
  pub are : AllZip (IsSplitOf g) trips splits
  pub records_are : records ≡ records_from day ids 0 splits

-- their text
pub record PartsText (g : GridOf) (day : ℤ) (ids : List Value) (trips : List (Option Trip)) (text : List ℕ) : Type 0 where
  pub records : List (List (List ℕ))
  pub of : ArePartRecords g day ids trips records
  pub text_is : text ≡ answer_text part_names records
