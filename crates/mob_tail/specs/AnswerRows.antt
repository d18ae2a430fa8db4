-- The rows of an answer before they are printed.
use Rattle.std.specs.Prelude.{ℤ, ℕ, Bool, List, length, map}
use Rattle.mob_typed.specs.Selects.{TypedSelectParts}
use Rattle.mob_value.{specs.declared.value.Value.{Value}, specs.declared.store.Store.{Store}}
use Rattle.mob_arrange.specs.Keyed.{Keyed, row_of_values}
use Rattle.mob_tail.specs.GroupedAnswers.{IsGroupRow}
use Rattle.mob_meaning.specs.declared.terms.Terms.{Terms}

-- for each key, whether it is descending
abbrev pub falls_of : TypedSelectParts → List Bool
falls_of select = map (λ key. key.1) select.keys

-- the row: the values of its keys, then those of its fields
abbrev pub answer_row : TypedSelectParts → ℤ → List Value → Keyed
answer_row select day values = row_of_values day (length (falls_of select)) values

-- the row of a group, as values
abbrev pub IsGroupRowOf : TypedSelectParts → Store → Terms → List (List ℕ) → List Value → Type 0
IsGroupRowOf select store terms group values = IsGroupRow select store terms group (answer_row select terms.epoch values)
