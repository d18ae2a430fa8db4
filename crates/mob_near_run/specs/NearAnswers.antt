-- The answer of mobnear on the rows of a table of trips, and why it may have none.
use Rattle.std.{specs.Prelude.{◌≡◌, ◌∷◌, ◌++◌, ℕ, ℤ, List, [], Option, codes, map}, specs.List.{AllByRecursion}}
use Rattle.mob_ratio.specs.Ratio.{Ratio}
use Rattle.mob_numeral.specs.NumberText.{number_text}
use Rattle.mob_frac.specs.Fits.{Fits}
use Rattle.mob_slice.{specs.Modes.{mode_of}, specs.Sides.{Slices, Base}, specs.declared.formula.Formula.{Formula}, specs.declared.formula.Formula.TheVariants.{Given}, specs.declared.mode.Mode.{Mode}, specs.declared.mode.Mode.TheVariants.{Narrow, Wide}}
use Rattle.mob_value.specs.declared.value.Value.{Value}
use Rattle.mob_literal.specs.Fields.{field_text}
use Rattle.mob_records.specs.AnswerText.{answer_text}
use Rattle.mob_knn.specs.Nearest.{Asked, AreNearest, IsPassed}
use Rattle.mob_trips.specs.Rows.{Trip, id_of, id_at, trips_in}
use Rattle.mob_near_run.{specs.declared.settings.NearSettings.{NearSettings}, specs.declared.settings.Target.{Target}, specs.declared.settings.Target.TheVariants.{Moving, Fixed}}

abbrev pub target_operand : Target → Asked
target_operand (Moving v) = Slices v
target_operand (Fixed p) = Base p

-- the fields of one row of the answer: the id, and the square of the nearest approach
abbrev pub near_fields : ℤ → List Value → ℕ × Ratio → List (List ℕ)
near_fields day ids near = field_text day (id_at ids near.0) ∷ number_text near.1 ∷ []

abbrev pub near_names : List (List ℕ)
near_names = codes "id" ∷ codes "approach" ∷ []

-- the approaches of these rows can be printed
abbrev pub ArePrintable : List (ℕ × Ratio) → Type 0
ArePrintable near = AllByRecursion (λ r. Fits r.1) near

-- the text of the nearest rows
abbrev pub NearWrites : NearSettings → List (List Value) → List ℕ → Type 0
NearWrites settings rows text = (near : List (ℕ × Ratio)) × AreNearest (trips_in rows) (target_operand settings.to) settings.k near × ArePrintable near × (text ≡ answer_text near_names (map (near_fields settings.epoch (map id_of rows)) near))

-- the first row whose approach does not fit
pub record IsFirstLarge (near : List (ℕ × Ratio)) (row : ℕ) : Type 0 where
  pub before : List (ℕ × Ratio)
  pub approach : Ratio
  pub after : List (ℕ × Ratio)
  pub parts : near ≡ before ++ (row, approach) ∷ after
  pub fit : AllByRecursion (λ r. Fits r.1) before
  pub large : ¬ Fits approach

-- this row is the first of the nearest whose approach does not fit
pub record IsUnprintable (trips : List (Option Trip)) (asked : Asked) (k row : ℕ) (formula : Formula) : Type 0 where
  pub near : List (ℕ × Ratio)
  pub are : AreNearest trips asked k near
  pub first : IsFirstLarge near row
  pub named : formula ≡ Given

-- In the narrow mode this is the first formula of the row's nearest approach with a part that does
-- not fit, and fewer than K rows have an approach below the gap of its box. In the wide mode the row
-- is the first that cannot be printed.
abbrev pub IsPassedIn : Mode → List (Option Trip) → Asked → ℕ → ℕ → Formula → Type 0
IsPassedIn Narrow trips asked k row formula = IsPassed trips asked k row formula
IsPassedIn Wide trips asked k row formula = IsUnprintable trips asked k row formula

abbrev pub IsRowPassed : NearSettings → List (List Value) → ℕ → Formula → Type 0
IsRowPassed settings rows row formula = IsPassedIn (mode_of settings.wide) (trips_in rows) (target_operand settings.to) settings.k row formula
