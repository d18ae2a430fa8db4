-- A row of an answer, and a row before it is printed.
use Rattle.std.specs.Prelude.{ℕ, ℤ, List, map, take, drop}
use Rattle.mob_value.specs.declared.value.Value.{Value}
use Rattle.mob_literal.specs.Fields.{field_text}

-- the printed text of its fields, and the values of its keys, the first one first
pub record Keyed : Type 0 where
  pub fields : List (List ℕ)
  pub keys : List Value

-- the row of these values: so many keys, then its fields
abbrev pub row_of_values : ℤ → ℕ → List Value → Keyed
row_of_values day keys values = record { fields = map (field_text day) (drop keys values); keys = take keys values }
