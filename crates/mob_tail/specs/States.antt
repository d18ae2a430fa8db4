-- The state of an aggregate of the values so far.
use Rattle.std.specs.Prelude.{◌≡◌, ◌+◌, ◌<◌, ◌^◌, Bool, true, false, List, [], ◌∷◌, ◌++◌, length, Option, Some, None, MatchOption, Result, Ok, Err}
use Rattle.mob_ratio.{specs.Ratio.{Ratio}, specs.Order.{same}}
use Rattle.mob_span.specs.Flags.{same_bool}
use Rattle.mob_arith.specs.Operations.{sum_of, both_hold, one_holds}
use Rattle.mob_slice.{specs.CourseOf.{steady_course}, specs.Operands.{steady_value}, specs.Slices.{value_at}, specs.declared.steady.Steady.{Steady}, specs.declared.formula.Formula.{Formula}}
use Rattle.mob_list.{specs.declared.fault.Fault.{Fault}, specs.declared.fault.Fault.TheVariants.{Because, NoMemory}}
use Rattle.mob_ast.specs.declared.types.SqlType.{SqlType}
use Rattle.mob_operators.{specs.declared.aggregate.AggKind.{AggKind}, specs.declared.aggregate.AggKind.TheVariants.{CountAll, Count, TCount, TAnd, TOr}}
use Rattle.mob_value.{specs.declared.value.Value.{Value}, specs.declared.value.Value.TheVariants.{MovingBool, MovingInt}, specs.Moving.{AreNormalBy, SteadySlices, or_nothing}}
use Rattle.mob_tagg.{specs.Gathered.{united_all, gathered_parts}, specs.United.{united_by}, specs.declared.parts.Part.{Part}}
use Rattle.mob_tail.{specs.declared.state.State.{State}, specs.declared.state.State.TheVariants.{Whole, Counts, All, Any}}
use Rattle.mob_tail.specs.Aggregated.{steps_of, truths_of, slices_there, IsAggregated, AddingPasses}

-- The parts together, by the operation, are the value r: at each instant they have its value. r is
-- a normal value or NULL.
pub record AreTogether {B : Type 0} (is_same : B → B → Bool) (make : SteadySlices B → Value) (see : Value → Option (SteadySlices B)) (op : B → B → B) (parts : List (Part (Steady B) B)) (r : Value) : Type 0 where
  pub seen : r ≡ or_nothing make (see r)
  pub normal : MatchOption (see r) (Unit {0}) (AreNormalBy (steady_course is_same))
  pub at_each : (t : Ratio) → united_all op (gathered_parts steady_value parts t) ≡ slices_there steady_value (see r) t

-- the new parts have, at each instant, the value of the others with that of w
abbrev pub IsOneMore : {B : Type 0} → (B → B → B) → List (Part (Steady B) B) → List (Part (Steady B) B) → SteadySlices B → Type 0
IsOneMore op parts new w = (t : Ratio) → united_all op (gathered_parts steady_value new t) ≡ united_by op (united_all op (gathered_parts steady_value parts t)) (value_at steady_value w t)

-- parts of truth values with one more value; unchanged if there is none
abbrev pub AreTruthsWith : (Bool → Bool → Bool) → List (Part (Steady Bool) Bool) → Option (SteadySlices Bool) → List (Part (Steady Bool) Bool) → Type 0
AreTruthsWith op parts None new = new ≡ parts
AreTruthsWith op parts (Some w) new = AreNormalBy (steady_course same_bool) w × IsOneMore op parts new w

-- the aggregates that are kept in parts: those over time for which the order of adding is free
abbrev pub is_in_parts : AggKind → Bool
is_in_parts TCount = true
is_in_parts TAnd = true
is_in_parts TOr = true
is_in_parts _ = false

-- the counts
abbrev pub is_counting : AggKind → Bool
is_counting CountAll = true
is_counting Count = true
is_counting TCount = true
is_counting _ = false

-- the state of an aggregate of this kind has the value r
abbrev pub IsKeptIn : AggKind → State → Value → Type 0
IsKeptIn TCount (Counts parts) r = AreTogether same MovingInt steps_of sum_of parts r
IsKeptIn TCount _ r = ⊥
IsKeptIn TAnd (All parts) r = AreTogether same_bool MovingBool truths_of both_hold parts r
IsKeptIn TAnd _ r = ⊥
IsKeptIn TOr (Any parts) r = AreTogether same_bool MovingBool truths_of one_holds parts r
IsKeptIn TOr _ r = ⊥
IsKeptIn kind (Whole v) r = v ≡ r
IsKeptIn kind _ r = ⊥

-- the state of the aggregate of no value
abbrev pub IsStartState : AggKind → State → Type 0
IsStartState kind s = (ty : SqlType) → (r : Value) × IsKeptIn kind s r × IsAggregated kind ty [] r

-- What holds of the state of an aggregate of values with one more, fewer than 2^62 in all, where
-- `before` is that of the values without it; or of the formula that overflows. The first argument
-- is whether the value is ignored.
abbrev pub IsStateWith : Bool → AggKind → SqlType → State → Value → Result State (Fault Formula) → Type 0
IsStateWith left_out kind ty before v (Ok s) =
    (r : Value) → IsKeptIn kind before r → (vs : List Value) → IsAggregated kind ty vs r → length vs + 1 < 2 ^ 62
    → (u : Value) × IsKeptIn kind s u × IsAggregated kind ty (vs ++ v ∷ []) u × AddingPasses left_out kind ty vs v None
IsStateWith left_out kind ty before v (Err (Because f)) = (r : Value) → IsKeptIn kind before r → (vs : List Value) → IsAggregated kind ty vs r → AddingPasses left_out kind ty vs v (Some f)
IsStateWith left_out kind ty before v (Err NoMemory) = Unit {0}
