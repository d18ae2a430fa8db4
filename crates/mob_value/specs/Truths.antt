-- Truth values as values of SQL.
use Rattle.std.specs.Prelude.{◌≡◌, ◌↔◌, Bool, IsTrue, Option, Some, None}
use Rattle.mob_span.specs.Flags.{same_bool}
use Rattle.mob_value.{specs.declared.value.Value.{Value}, specs.declared.value.Value.TheVariants.{Null, Bool as Truth}}

-- a truth value, or NULL if there is none
abbrev pub known : Option Bool → Value
known None = Null
known (Some b) = Truth b

-- v is the truth value of P if `wanted` is true, and its opposite if it is false
abbrev pub IsTruthOf : Bool → Type 0 → Value → Type 0
IsTruthOf wanted P v = (c : Bool) × (IsTrue c ↔ P) × (v ≡ Truth (same_bool wanted c))
