-- The operators on temporal values: at each instant the ordinary operator, if both operands are
-- defined there; NULL if they are never both defined. A base value with a temporal one has the same
-- value at every instant.
use Rattle.std.specs.Prelude.{Bool, ℕ, List}
use Rattle.mob_ratio.{specs.Ratio.{Ratio}, specs.Order.{same}}
use Rattle.mob_span.specs.Flags.{same_bool}
use Rattle.mob_slice.{specs.CourseOf.{steady_course, line_course}, specs.Operands.{steady_value, IsPointwise}, specs.Sameness.{same_bytes}, specs.Lines.{line_value_of}}
use Rattle.mob_value.{specs.declared.value.Value.{Value}, specs.declared.value.Value.TheVariants.{MovingBool, MovingInt, MovingText, MovingFrac}}
use Rattle.mob_value.specs.Moving.{SteadySlices, OverTime, IsFunctionOrNull}

-- v is the lifted operation on the two operands: the one normal value that is, at each instant, the
-- operation on their values there
abbrev pub IsLifted : {X Y Z : Type 0} → (SteadySlices Z → Value) → (Z → Z → Bool) → (X → Y → Z) → OverTime X → OverTime Y → Value → Type 0
IsLifted make is_same op left right v = IsFunctionOrNull (steady_course is_same) make (IsPointwise steady_value op left right) v

abbrev pub IsMovingBool : {X Y : Type 0} → (X → Y → Bool) → OverTime X → OverTime Y → Value → Type 0
IsMovingBool op left right v = IsLifted MovingBool same_bool op left right v

abbrev pub IsMovingInt : {X Y : Type 0} → (X → Y → Ratio) → OverTime X → OverTime Y → Value → Type 0
IsMovingInt op left right v = IsLifted MovingInt same op left right v

abbrev pub IsMovingText : {X Y : Type 0} → (X → Y → List ℕ) → OverTime X → OverTime Y → Value → Type 0
IsMovingText op left right v = IsLifted MovingText same_bytes op left right v

-- v is the one normal tfrac that is, at each instant, the operation on the two operands
abbrev pub IsMovingFrac : {X Y : Type 0} → (X → Y → Ratio) → OverTime X → OverTime Y → Value → Type 0
IsMovingFrac op left right v = IsFunctionOrNull line_course MovingFrac (IsPointwise line_value_of op left right) v
