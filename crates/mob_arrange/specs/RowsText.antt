-- The text of an answer.
use Rattle.std.specs.Prelude.{◌≡◌, Bool, ℕ, List, Option}
use Rattle.mob_records.specs.AnswerText.{answer_text}
use Rattle.mob_arrange.{specs.Keyed.{Keyed}, specs.Rows.{AreDistinct, AreArranged, limited}}

-- the text of these names and of the rows given of sorted rows
abbrev pub IsTextOfGiven : List (List ℕ) → Bool → Option ℕ → List (List (List ℕ)) → List ℕ → Type 0
IsTextOfGiven names distinct limit rows text = (kept : List (List (List ℕ))) × AreDistinct distinct rows kept × (text ≡ answer_text names (limited limit kept))

-- the text of these names and of the rows of the answer
abbrev pub IsTextOfArranged : List (List ℕ) → List Bool → Bool → Option ℕ → List Keyed → List ℕ → Type 0
IsTextOfArranged names falls distinct limit rows text = (answer : List (List (List ℕ))) × AreArranged falls distinct limit rows answer × (text ≡ answer_text names answer)
