-- Logic and joining, of plain texts and at each instant.
use Rattle.std.specs.Prelude.{◌≡◌, not, option_map}
use Rattle.mob_span.specs.Flags.{same_bool}
use Rattle.mob_slice.specs.CourseOf.{steady_course}
use Rattle.mob_value.{specs.declared.value.Value.{Value}, specs.declared.value.Value.TheVariants.{Null, Text, MovingBool}, specs.Moving.{step_function, IsFunction}, specs.Lifted.{IsMovingText}}
use Rattle.mob_value.specs.Pairs.{text_pair, OnPair}
use Rattle.mob_ast.specs.declared.types.SqlType.{SqlType}
use Rattle.mob_arith.specs.Operations.{text_of}
use Rattle.mob_ast.specs.declared.types.SqlType.TheVariants as sql

-- the opposite truth value at each instant
abbrev pub IsLiftedNot : Value → Value → Type 0
IsLiftedNot (MovingBool a) v = IsFunction (steady_course same_bool) MovingBool (λ t. option_map not (step_function a t)) v
IsLiftedNot _ v = v ≡ Null

-- the first text followed by the second
abbrev pub concatenation : Value → Value → Value
concatenation (Text a) (Text b) = Text (text_of a b)
concatenation _ _ = Null

-- `||` with a result of this type: a text, or one at each instant
abbrev pub IsJoined : SqlType → Value → Value → Value → Type 0
IsJoined sql.Text a b v = v ≡ concatenation a b
IsJoined sql.TText a b v = OnPair (text_pair a b) (IsMovingText text_of) v
IsJoined _ a b v = v ≡ Null
