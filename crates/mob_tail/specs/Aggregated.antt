-- The aggregate of the values of an argument in a group, and the overflow of adding one more value.
use Rattle.std.{specs.Prelude.{◌≡◌, not, Bool, true, false, ℕ, pos, List, [], ◌∷◌, ◌++◌, filter, length, Option, Some, None, option_map, Result, Ok, Err}, specs.List.{flat_map}}
use Rattle.mob_ratio.{specs.Ratio.{Ratio, whole}, specs.Order.{same}}
use Rattle.mob_span.specs.Flags.{same_bool}
use Rattle.mob_slice.{specs.CourseOf.{CourseOf, steady_course, line_course}, specs.Entries.{Entry, IsFirst}, specs.Lines.{line_value_of}, specs.Operands.{steady_value}, specs.Slices.{value_at}}
use Rattle.mob_slice.{specs.Modes.{entry_given}, specs.declared.slice.Slice.{Slice}, specs.declared.formula.Formula.{Formula}, specs.declared.line.Line.{Line}, specs.declared.mode.Mode.{Mode}, specs.declared.mode.Mode.TheVariants.{Narrow, Wide}}
use Rattle.mob_list.{specs.declared.fault.Fault.{Fault}, specs.declared.fault.Fault.TheVariants.{Because, NoMemory}}
use Rattle.mob_ast.specs.declared.types.SqlType.{SqlType}
use Rattle.mob_operators.{specs.declared.aggregate.AggKind.{AggKind}, specs.declared.aggregate.AggKind.TheVariants.{CountAll, Count, Sum, TCount, TSum, TAnd, TOr}}
use Rattle.mob_typed.specs.declared.typed.Agg.{Agg}
use Rattle.mob_value.{specs.declared.value.Value.{Value}, specs.declared.value.Value.TheVariants.{Null, Number, MovingBool, MovingInt, MovingFrac, MovingText, MovingPoint}}
use Rattle.mob_value.specs.Moving.{AreNormalBy, SteadySlices, or_nothing, step_function, line_function, plane_function}
use Rattle.mob_arith.{specs.declared.sql.calculation.Calculation.TheVariants.{Sum as Added}, specs.Sql.Entries.{arithmetic_entries}, specs.Sql.Wide.{wide_arithmetic_entries}}
use Rattle.mob_ordinary.specs.Ordinary.{is_null}
use Rattle.mob_tagg.{specs.United.{AreUnited}, specs.Aggregates.{put_there, made_of, IsAggregate, total, count, all_hold, some_holds}}
use Rattle.mob_ast.specs.declared.types.SqlType.TheVariants as sql

-- a count, as a value
abbrev pub counted_values : ℕ → Value
counted_values n = Number (whole (pos n))

-- the values that are not NULL
abbrev pub known_of : List Value → List Value
known_of vs = filter (λ v. not (is_null v)) vs

-- the number of a plain number
abbrev pub number_of_value : Value → Option Ratio
number_of_value (Number a) = Some a
number_of_value _ = None

-- the plain numbers among values
abbrev pub numbers_of : List Value → List Ratio
numbers_of [] = []
numbers_of (v ∷ vs) = put_there (number_of_value v) (numbers_of vs)

-- the slices of a tbool, a tint or a tfrac
abbrev pub truths_of : Value → Option (SteadySlices Bool)
truths_of (MovingBool m) = Some m
truths_of _ = None

abbrev pub steps_of : Value → Option (SteadySlices Ratio)
steps_of (MovingInt m) = Some m
steps_of _ = None

abbrev pub aggregate_lines : Value → Option (List (Slice Line))
aggregate_lines (MovingFrac m) = Some m
aggregate_lines _ = None

-- the value of slices at an instant, if there are slices
abbrev pub slices_there : {C B : Type 0} → (C → Ratio → Ratio → Ratio → B) → Option (List (Slice C)) → Ratio → Option B
slices_there value None t = None
slices_there value (Some slices) t = value_at value slices t

-- the value at an instant: a truth value, a number that changes in steps, a number that changes
-- linearly
abbrev pub truth_there : Value → Ratio → Option Bool
truth_there v t = slices_there steady_value (truths_of v) t

abbrev pub step_there : Value → Ratio → Option Ratio
step_there v t = slices_there steady_value (steps_of v) t

abbrev pub line_there : Value → Ratio → Option Ratio
line_there v t = slices_there line_value_of (aggregate_lines v) t

-- 1 where a temporal value of any type is defined
abbrev pub one_where : {B : Type 0} → Option B → Option Ratio
one_where o = option_map (λ x. whole (pos 1)) o

abbrev pub one_there : Value → Ratio → Option Ratio
one_there (MovingBool m) t = one_where (step_function m t)
one_there (MovingInt m) t = one_where (step_function m t)
one_there (MovingFrac m) t = one_where (line_function m t)
one_there (MovingText m) t = one_where (step_function m t)
one_there (MovingPoint m) t = one_where (plane_function m t)
one_there _ t = None

-- v is the one normal value that is, at each instant, f of the values that are defined there; or
-- NULL if none is defined at any instant
abbrev pub IsOverTime : {C B Z : Type 0} → CourseOf C Z → (List (Slice C) → Value) → (List B → Z) → (Value → Ratio → Option B) → List Value → Value → Type 0
IsOverTime {C} course make f there vs v = (r : Option (List (Slice C))) × IsAggregate there course.value course.start course.end course.continues f vs r × (v ≡ or_nothing make r)

-- The aggregate of values of this type. count(*) is the number of all values, count the number of
-- those that are not NULL, sum their sum. At each instant tCount is how many are defined there,
-- tSum their sum, tAnd whether all are true, and tOr whether one is.
abbrev pub IsAggregated : AggKind → SqlType → List Value → Value → Type 0
IsAggregated CountAll ty vs v = v ≡ counted_values (length vs)
IsAggregated Count ty vs v = v ≡ counted_values (length (known_of vs))
IsAggregated Sum ty vs v = v ≡ or_nothing Number (made_of total (numbers_of vs))
IsAggregated TCount ty vs v = IsOverTime (steady_course same) MovingInt count one_there vs v
IsAggregated TSum sql.TInt vs v = IsOverTime (steady_course same) MovingInt total step_there vs v
IsAggregated TSum sql.TFrac vs v = IsOverTime line_course MovingFrac total line_there vs v
IsAggregated TSum _ vs v = v ≡ Null
IsAggregated TAnd ty vs v = IsOverTime (steady_course same_bool) MovingBool all_hold truth_there vs v
IsAggregated TOr ty vs v = IsOverTime (steady_course same_bool) MovingBool some_holds truth_there vs v

-- ---- faults of adding

-- the type in which an aggregate adds
abbrev pub adding_type : AggKind → SqlType → SqlType
adding_type TCount ty = sql.TInt
adding_type TSum ty = ty
adding_type _ ty = sql.Numeric

-- the entries of adding the second of two aggregates to the first: those of `+`, and none for tAnd
-- and tOr, which add nothing
abbrev pub adding_entries : AggKind → SqlType → Value → Value → List Entry
adding_entries TAnd ty r a = []
adding_entries TOr ty r a = []
adding_entries kind ty r a = arithmetic_entries Added (adding_type kind ty) r a

-- whether an aggregate ignores a value: all but count(*) ignore NULL
abbrev pub leaves_out : AggKind → Value → Bool
leaves_out CountAll v = false
leaves_out _ v = is_null v

-- The first formula that overflows when a value is added to the aggregate of those before it, or
-- none. What is added is the aggregate of this value alone: 1 for a count, and for tCount 1 where
-- it is defined. A first value is added to NULL or to 0, which never overflows.
abbrev pub AddingPasses : Bool → AggKind → SqlType → List Value → Value → Option Formula → Type 0
AddingPasses true kind ty before v f = f ≡ None
AddingPasses false kind ty before v f = (r : Value) × IsAggregated kind ty before r × ((a : Value) × IsAggregated kind ty (v ∷ []) a × IsFirst (adding_entries kind ty r a) f)

abbrev pub IsAdding : Agg → List Value → Value → Option Formula → Type 0
IsAdding agg before v f = AddingPasses (leaves_out agg.kind v) agg.kind agg.ty before v f

-- ---- faults of adding in the wide mode

-- the instants and the values that a sum over time has
abbrev pub sum_numbers : Value → List Ratio
sum_numbers (MovingInt m) = flat_map (λ s. s.span.lower ∷ s.span.upper ∷ s.course.value ∷ []) m
sum_numbers (MovingFrac m) = flat_map (λ s. s.span.lower ∷ s.span.upper ∷ s.course.from ∷ s.course.to ∷ []) m
sum_numbers _ = []

-- the entries of adding a to r, where u is the sum: those of `+`, and over time the numbers of u
abbrev pub wide_adding_entries : AggKind → SqlType → Value → Value → Value → List Entry
wide_adding_entries TAnd ty r a u = []
wide_adding_entries TOr ty r a u = []
wide_adding_entries TCount ty r a u = wide_arithmetic_entries Added sql.TInt r a ++ entry_given (sum_numbers u)
wide_adding_entries TSum ty r a u = wide_arithmetic_entries Added ty r a ++ entry_given (sum_numbers u)
wide_adding_entries kind ty r a u = wide_arithmetic_entries Added sql.Numeric r a

abbrev pub AddsWidely : Bool → AggKind → SqlType → List Value → Value → Option Formula → Type 0
AddsWidely true kind ty before v f = f ≡ None
AddsWidely false kind ty before v f =
    (r : Value) × IsAggregated kind ty before r × ((a : Value) × IsAggregated kind ty (v ∷ []) a × ((u : Value) × IsAggregated kind ty (before ++ v ∷ []) u × IsFirst (wide_adding_entries kind ty r a u) f))

-- the first formula of adding that overflows, or none, in a mode
abbrev pub IsAddingIn : Mode → Agg → List Value → Value → Option Formula → Type 0
IsAddingIn Narrow agg before v f = IsAdding agg before v f
IsAddingIn Wide agg before v f = AddsWidely (leaves_out agg.kind v) agg.kind agg.ty before v f

-- ---- one more value

-- r joins two values over time: by an operation where both are defined, else it is the one that is
-- defined
abbrev pub IsUnion : {C B : Type 0} → CourseOf C B → (List (Slice C) → Value) → (B → B → B) → Option (List (Slice C)) → Option (List (Slice C)) → Value → Value → Type 0
IsUnion {C} course make op (Some t) (Some a) before r = (u : List (Slice C)) × (r ≡ make u) × AreNormalBy course u × AreUnited course.value op t a u
IsUnion course make op None (Some a) before r = r ≡ make a
IsUnion course make op t None before r = r ≡ before

-- What holds of the aggregate of values with one more, where `before` is that of the values without
-- it; or of the formula that overflows. The first argument is whether the value is ignored.
abbrev pub IsAggregateWith : Bool → AggKind → SqlType → Value → Value → Result Value (Fault Formula) → Type 0
IsAggregateWith left_out kind ty before v (Ok r) = (vs : List Value) → IsAggregated kind ty vs before → IsAggregated kind ty (vs ++ v ∷ []) r × AddingPasses left_out kind ty vs v None
IsAggregateWith left_out kind ty before v (Err (Because f)) = (vs : List Value) → IsAggregated kind ty vs before → AddingPasses left_out kind ty vs v (Some f)
IsAggregateWith left_out kind ty before v (Err NoMemory) = Unit {0}
