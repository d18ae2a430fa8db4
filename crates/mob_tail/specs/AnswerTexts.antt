-- The text of an answer.
use Rattle.std.specs.Prelude.{◌≡◌, ℕ, List, Result, Ok, map}
use Rattle.mob_typed.specs.Selects.{TypedSelectParts}
use Rattle.mob_eval.specs.QueryFaults.{TupleFault}
use Rattle.mob_records.specs.AnswerText.{answer_text}

-- the names of the columns
abbrev pub answer_names : TypedSelectParts → List (List ℕ)
answer_names select = map (λ item. item.1) select.items

-- the text of the names and of the rows of an answer
abbrev pub IsAnswerText : TypedSelectParts → (Result (List (List (List ℕ))) TupleFault → Type 0) → List ℕ → Type 0
IsAnswerText select IsAnswer text = (rows : List (List (List ℕ))) × IsAnswer (Ok rows) × (text ≡ answer_text (answer_names select) rows)
