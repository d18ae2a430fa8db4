-- The instants at which a temporal truth value is true.
use Rattle.std.specs.Prelude.{◌≡◌, List, [], ◌∷◌}
use Rattle.mob_span.specs.Span.{SpanOf}
use Rattle.mob_value.{specs.declared.value.Value.{Value}, specs.declared.value.Value.TheVariants.{Null, SpanSet, MovingBool}, specs.Moving.{step_function}, specs.Sets.{AreInstantsOf}}
use Rattle.mob_compare.specs.Times.{is_true}

-- a span set, or NULL if it has no instant
abbrev pub set_or_null : List SpanOf → Value
set_or_null [] = Null
set_or_null (s ∷ spans) = SpanSet (s ∷ spans)

-- whenTrue: the instants at which the value is true
abbrev pub IsTrueTime : Value → Value → Type 0
IsTrueTime (MovingBool a) v = (spans : List SpanOf) × AreInstantsOf (λ t. is_true (step_function a t)) spans × (v ≡ set_or_null spans)
IsTrueTime _ v = v ≡ Null
