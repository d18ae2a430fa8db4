-- The text of records reads back as these records.
use Rattle.std.{specs.Prelude.{List, [], ◌∷◌, ℕ, map}, specs.List.{concat, AllByRecursion}}
use Rattle.csv.specs.Reading.{AreRecords, default_config}
use Rattle.mob_records.specs.AnswerText.{record_line}
use Rattle.csv.specs.declared.parser.State.TheVariants as st

-- a record has at least one field; one without fields would be read as one empty field
abbrev pub HasFields : List (List ℕ) → Type 0
HasFields [] = ⊥
HasFields (field ∷ fields) = Unit {0}

-- the text of records with at least one field each reads back as these records
abbrev pub ReadsAgain : Type 0
ReadsAgain = (rows : List (List (List ℕ))) → AllByRecursion HasFields rows → AreRecords default_config st.StartRecord (concat (map record_line rows)) rows
