-- The rows of a table with each trip simplified, their first fault, and the file that is written
-- for them.
use Rattle.std.{specs.Prelude.{◌≡◌, ◌⊎◌, ℕ, ℤ, List, [], ◌∷◌, ◌++◌, length, map, codes, Some, None}, specs.List.{AllZip, AllByRecursion, concat}}
use Rattle.csv.specs.Records.{AllText}
use Rattle.mob_ratio.specs.Ratio.{Ratio}
use Rattle.mob_value.{specs.declared.value.Value.{Value}, specs.declared.value.Value.TheVariants.{MovingPoint}}
use Rattle.mob_slice.{specs.Entries.{Entry, IsFirst}, specs.declared.formula.Formula.{Formula}, specs.declared.mode.Mode.{Mode}}
use Rattle.mob_literal.specs.Fields.{field_text}
use Rattle.mob_records.specs.AnswerText.{record_line}
use Rattle.mob_simplify.specs.Thinned.{IsThin, OnRuns, tests_by_mode}

-- a trip becomes the simplified one, within d; every other value stays
abbrev pub IsThinValue : Ratio → Value → Value → Type 0
IsThinValue d (MovingPoint slices) (MovingPoint thin) = IsThin d slices thin
IsThinValue d (MovingPoint slices) w = ⊥
IsThinValue d v w = w ≡ v

-- each value of each row
abbrev pub AreThinRows : Ratio → List (List Value) → List (List Value) → Type 0
AreThinRows d rows thin = AllZip (AllZip (IsThinValue d)) rows thin

-- the fields of a row with each trip simplified; they are UTF-8
abbrev pub IsThinRecord : Ratio → ℤ → List Value → List (List ℕ) → Type 0
IsThinRecord d day row fields = (thin : List Value) × AllZip (IsThinValue d) row thin × AllText fields × (fields ≡ map (field_text day) thin)

-- what holds of the tests of a value: the formula of the first part that does not fit, or that all
-- fit; only a trip has tests, and in the wide mode they have no parts
abbrev pub OnTests : Mode → Ratio → Value → (List Entry → Type 0) → Type 0
OnTests mode d (MovingPoint slices) P = OnRuns d slices (λ runs. P (tests_by_mode mode d runs))
OnTests mode d v P = P []

-- all parts of all tests of the values fit
abbrev pub RowTestsFit : Mode → Ratio → List Value → Type 0
RowTestsFit mode d row = AllByRecursion (λ v. OnTests mode d v (λ tests. IsFirst tests None)) row

-- the first value of the row with a part that does not fit has it in a test by this formula
abbrev pub RowTestPasses : Mode → Ratio → List Value → Formula → Type 0
RowTestPasses mode d [] formula = ⊥
RowTestPasses mode d (v ∷ row) formula = OnTests mode d v (λ tests. IsFirst tests (Some formula)) ⊎ (OnTests mode d v (λ tests. IsFirst tests None) × RowTestPasses mode d row formula)

-- the first row with a part that does not fit has this number
pub record PassesFirst (mode : Mode) (d : Ratio) (rows : List (List Value)) (row : ℕ) (formula : Formula) : Type 0 where
  pub before : List (List Value)
  pub here : List Value
  pub after : List (List Value)
  pub parts : rows ≡ before ++ here ∷ after
  pub number : row ≡ length before
  pub fit : AllByRecursion (RowTestsFit mode d) before
  pub passes : RowTestPasses mode d here formula

-- The file: the names of the columns and the rows, as records of their fields.
abbrev pub table_text : ℤ → List (List Value) → List ℕ
table_text day rows = concat (map record_line ((codes "id" ∷ codes "trip" ∷ []) ∷ map (map (field_text day)) rows))

-- the fields of a row are UTF-8
abbrev pub HasText : ℤ → List Value → Type 0
HasText day row = AllText (map (field_text day) row)

-- the text of the rows with each trip simplified; its fields are UTF-8
abbrev pub IsThinText : Ratio → ℤ → List (List Value) → List ℕ → Type 0
IsThinText d day rows text = (thin : List (List Value)) × AreThinRows d rows thin × AllByRecursion (HasText day) thin × (text ≡ table_text day thin)
