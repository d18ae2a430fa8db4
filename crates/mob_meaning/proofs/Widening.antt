-- Where all parts fit in the narrow mode they fit in the wide one, and the values are the same.
use Rattle.std.{specs.Prelude.{◌⊎◌}, proofs.Common.{◌≡◌, inl, inr, refl, Bool, true, false, ℕ, ℤ, List, [], ◌∷◌, Option, Some, None, Ok, Err}}
use Rattle.mob_ratio.specs.Ratio.{Ratio}
use Rattle.mob_frac.{specs.Formula.{AllFit}, proofs.Fits.{all_fit_or}}
use Rattle.mob_ast.specs.declared.types.SqlType.{SqlType}
use Rattle.mob_operators.specs.declared.operator.Op.{Op}
use Rattle.mob_slice.{specs.Entries.{Entry, IsFirst}, specs.declared.formula.Formula.{Formula}, specs.declared.mode.Mode.TheVariants.{Narrow, Wide}}
use Rattle.mob_slice.proofs.Narrowing.{given_fits}
use Rattle.mob_typed.specs.Trees.{TypedTree, typed, TypedTrees, none, more, arg_types}
use Rattle.mob_value.{specs.declared.store.Store.{Store}, specs.declared.value.Value.{Value}, specs.declared.value.Value.TheVariants.{Number, MovingPoint, Box}, specs.ValueBoxes.{OnBox}, specs.Pairs.{PlaneOperand, plane_pair}}
use Rattle.mob_slice.specs.Sides.{pieces}
use Rattle.mob_arith.{specs.declared.sql.calculation.Calculation.{Calculation}, specs.declared.sql.calculation.Calculation.TheVariants.{Sum, Difference, Product}, specs.Sql.Entries.{arithmetic_entries, divided_entries}}
use Rattle.mob_clip.specs.Sql.Entries.{entries_outward}
use Rattle.mob_near.{specs.Sql.Entries.{approach_on, within_on}, specs.Wide.{least_approach}, proofs.Narrowing.{least_narrows}}
use Rattle.mob_cells.specs.Roots.{as_list}
use Rattle.mob_meaning.{specs.Scene.{Scene}, specs.Types.{meeting}, specs.Modes.{Expansions, given_for}, specs.Operators.{OperatorGives, IsFirstFormula, OnEntriesOfTwo, calculated_entries, entries_of_two, entries_of_three, quotient_entries_in}}
use Rattle.mob_meaning.{specs.Evaluation.{PlacedFormula, TreeEvaluatesTo, OperandsEvaluateTo, stop_of, stops}, specs.Widening.{WideFaultsAreNarrow, WideKeepsValues, narrow_scene, wide_scene}, proofs.AnyMode.{gives_any}, proofs.ChangesWiden.{signs_widen, values_widen}, proofs.Named.{none_given}, proofs.OneEntries.{one_formula}}
use Rattle.mob_ast.specs.declared.types.SqlType.TheVariants as sql
use Rattle.mob_operators.specs.declared.operator.Op.TheVariants as op

-- ---- entries

-- each list of entries has a first formula with a part that does not fit, or none
pub some_first : (entries : List Entry) → (f : Option Formula) × IsFirst entries f
some_first [] = (None, refl)
some_first (e ∷ entries) = by (all_fit_or e.parts) (some_first entries)
  where
    by : AllFit e.parts ⊎ (¬ AllFit e.parts) → (f : Option Formula) × IsFirst entries f → (f : Option Formula) × IsFirst (e ∷ entries) f
    by (inl h) k = (k.0, inl (h, k.1))
    by (inr h) k = (Some e.formula, inr (h, refl))

-- ---- operators: where nothing passes in the narrow mode, nothing does in the wide one

calculated_widens : (by : Calculation) (ty : SqlType) (a b : Value) → IsFirst (calculated_entries Narrow by ty a b) None → IsFirst (calculated_entries Wide by ty a b) None
calculated_widens by sql.TInt a b h = h
calculated_widens by sql.TFrac a b h = h
calculated_widens by ty a b h = none_given (arithmetic_entries by ty a b) h

quotient_widens : (ty : SqlType) (a b : Value) → IsFirst (quotient_entries_in Narrow ty a b) None → IsFirst (quotient_entries_in Wide ty a b) None
quotient_widens sql.TFrac a b h = h
quotient_widens ty a b h = none_given (divided_entries ty a b) h

approach_widens : (pair : Option (PlaneOperand × PlaneOperand)) → IsFirst (approach_on Narrow pair) None → IsFirst (approach_on Wide pair) None
approach_widens None h = h
approach_widens (Some p) h = given_fits (as_list (least_approach (pieces p.0 p.1))) (least_narrows (pieces p.0 p.1) h)

within_widens : (d : Ratio) (pair : Option (PlaneOperand × PlaneOperand)) → IsFirst (within_on Wide d pair) None
within_widens d None = refl
within_widens d (Some p) = refl

two_widen : (o : Op) (ty : SqlType) (ts : List SqlType) (a b : Value) → IsFirst (entries_of_two Narrow o ty ts a b) None → IsFirst (entries_of_two Wide o ty ts a b) None
two_widen op.Add ty ts a b h = calculated_widens Sum ty a b h
two_widen op.Subtract ty ts a b h = calculated_widens Difference ty a b h
two_widen op.Multiply ty ts a b h = calculated_widens Product ty a b h
two_widen op.Divide ty ts a b h = quotient_widens ty a b h
two_widen (op.Lifted c) ty ts a b h = signs_widen c (meeting ts) a b h
two_widen (op.Ever c) ty ts a b h = refl
two_widen (op.Always c) ty ts a b h = refl
two_widen op.AtValues ty ts a b h = values_widen a b h
two_widen op.MinusValues ty ts a b h = values_widen a b h
two_widen op.NearestApproachSquared ty ts a b h = approach_widens (plane_pair a b) h
two_widen _ ty ts a b h = h

three_widen : (o : Op) (a b c : Value) → IsFirst (entries_of_three Narrow o a b c) None → IsFirst (entries_of_three Wide o a b c) None
three_widen op.EDwithin a b (Number d) h = within_widens d (plane_pair a b)
three_widen op.EDwithin a b _ h = h
three_widen _ a b c h = h

on_two_widens : (o : Op) (ty : SqlType) (ts : List SqlType) (a b : Value) → OnEntriesOfTwo Narrow o ty ts a b (λ entries. IsFirst entries None) → OnEntriesOfTwo Wide o ty ts a b (λ entries. IsFirst entries None)
on_two_widens op.ExpandSpace ty ts (Box c) b h = none_given (entries_outward c b) h
on_two_widens op.ExpandSpace ty ts (MovingPoint a) b h = (h.0, h.1, none_given (entries_outward h.0 b) h.2)
on_two_widens op.ExpandSpace ty ts _ b h = h
on_two_widens o ty ts a b h = two_widen o ty ts a b h

pub widens : (o : Op) (ty : SqlType) (ts : List SqlType) (vs : List Value) → IsFirstFormula Narrow o ty ts vs None → IsFirstFormula Wide o ty ts vs None
widens o ty ts [] h = h
widens o ty ts (a ∷ []) h = h
widens o ty ts (a ∷ b ∷ []) h = on_two_widens o ty ts a b h
widens o ty ts (a ∷ b ∷ c ∷ []) h = three_widen o a b c h
widens o ty ts (a ∷ b ∷ c ∷ d ∷ rest) h = h

-- an operator that has a first formula, or none, in the wide mode has one, or none, in the narrow
-- mode
outward_narrow : (a b : Value) (f : Option Formula) → OnBox a (λ c. IsFirst (given_for Expansions Wide (entries_outward c b)) f) (IsFirst [] f) → (g : Option Formula) × OnBox a (λ c. IsFirst (entries_outward c b) g) (IsFirst [] g)
outward_narrow (Box c) b f h = some_first (entries_outward c b)
outward_narrow (MovingPoint a) b f h = let first = some_first (entries_outward h.0 b) in (first.0, (h.0, h.1, first.1))
outward_narrow _ b f h = (f, h)

on_two_narrow : (o : Op) (ty : SqlType) (ts : List SqlType) (a b : Value) (f : Option Formula) → OnEntriesOfTwo Wide o ty ts a b (λ entries. IsFirst entries f) → (g : Option Formula) × OnEntriesOfTwo Narrow o ty ts a b (λ entries. IsFirst entries g)
on_two_narrow op.ExpandSpace ty ts a b f h = outward_narrow a b f h
on_two_narrow o ty ts a b f h = some_first (entries_of_two Narrow o ty ts a b)

narrow_first : (o : Op) (ty : SqlType) (ts : List SqlType) (vs : List Value) (f : Option Formula) → IsFirstFormula Wide o ty ts vs f → (g : Option Formula) × IsFirstFormula Narrow o ty ts vs g
narrow_first o ty ts [] f h = (None, refl)
narrow_first o ty ts (a ∷ []) f h = (None, refl)
narrow_first o ty ts (a ∷ b ∷ []) f h = on_two_narrow o ty ts a b f h
narrow_first o ty ts (a ∷ b ∷ c ∷ []) f h = some_first (entries_of_three Narrow o a b c)
narrow_first o ty ts (a ∷ b ∷ c ∷ d ∷ rest) f h = (None, refl)

-- ---- expressions

module _ (store : Store) (from tuple : List ℕ) (epoch : ℤ) where
  abbrev narrow : Scene
  narrow = narrow_scene store from tuple epoch

  abbrev wide : Scene
  wide = wide_scene store from tuple epoch

  mutual
    pub kept_value : (e : TypedTree) (v : Value) → TreeEvaluatesTo narrow e (Ok v) → TreeEvaluatesTo wide e (Ok v)
    kept_value (typed o ty place args) v h =
        (h.0, kept_values (stop_of o) args h.0 h.1, widens o ty (arg_types args) h.0 h.2, gives_any store from tuple epoch Narrow Wide o ty (arg_types args) h.0 v h.3)

    kept_values : (stop : Option Bool) (es : TypedTrees) (vs : List Value) → OperandsEvaluateTo narrow stop es (Ok vs) → OperandsEvaluateTo wide stop es (Ok vs)
    kept_values stop none vs h = h
    kept_values stop (more e rest) [] h = h
    kept_values stop (more e rest) (v ∷ vs) (h, inl k) = (kept_value e v h, inl k)
    kept_values stop (more e rest) (v ∷ vs) (h, inr k) = (kept_value e v h, inr (k.0, kept_values stop rest vs k.1))

  -- what an expression evaluates to in the wide mode, in the narrow one: the value, or a fault
  abbrev IsValueOrFault : TypedTree → Value → Type 0
  IsValueOrFault e v = TreeEvaluatesTo narrow e (Ok v) ⊎ ((g : PlacedFormula) × TreeEvaluatesTo narrow e (Err g))

  abbrev AreValuesOrFault : Option Bool → TypedTrees → List Value → Type 0
  AreValuesOrFault stop es vs = OperandsEvaluateTo narrow stop es (Ok vs) ⊎ ((g : PlacedFormula) × OperandsEvaluateTo narrow stop es (Err g))

  value_by : (o : Op) (ty : SqlType) (place : ℕ) (args : TypedTrees) (vs : List Value) (v : Value) (f : Option Formula) → AreValuesOrFault (stop_of o) args vs → IsFirstFormula Narrow o ty (arg_types args) vs f → OperatorGives narrow o ty (arg_types args) vs v
      → IsValueOrFault (typed o ty place args) v
  value_by o ty place args vs v None (inl h) first gives = inl (vs, h, first, gives)
  value_by o ty place args vs v (Some f) (inl h) first gives = inr ((place, f), inr (vs, h, first, refl))
  value_by o ty place args vs v f (inr h) first gives = inr (h.0, inl h.1)

  fault_by : (o : Op) (ty : SqlType) (place : ℕ) (args : TypedTrees) (vs : List Value) (f : Formula) (g : Option Formula) → AreValuesOrFault (stop_of o) args vs → IsFirstFormula Wide o ty (arg_types args) vs (Some f) → IsFirstFormula Narrow o ty (arg_types args) vs g
      → (g : PlacedFormula) × TreeEvaluatesTo narrow (typed o ty place args) (Err g)
  fault_by o ty place args vs f None (inl h) wide_first first = absurd (cc (one_formula Wide o ty (arg_types args) vs None (Some f) (widens o ty (arg_types args) vs first) wide_first))
  fault_by o ty place args vs f (Some g) (inl h) wide_first first = ((place, g), inr (vs, h, first, refl))
  fault_by o ty place args vs f g (inr h) wide_first first = (h.0, inl h.1)

  more_by : (stop : Option Bool) (e : TypedTree) (rest : TypedTrees) (v : Value) (vs : List Value) → stops stop v ≡ false → IsValueOrFault e v → AreValuesOrFault stop rest vs → AreValuesOrFault stop (more e rest) (v ∷ vs)
  more_by stop e rest v vs goes (inl h) (inl k) = inl (h, inr (goes, k))
  more_by stop e rest v vs goes (inl h) (inr k) = inr (k.0, inr (v, h, goes, k.1))
  more_by stop e rest v vs goes (inr h) k = inr (h.0, inl h.1)

  last_by : (stop : Option Bool) (e : TypedTree) (rest : TypedTrees) (v : Value) (vs : List Value) → stops stop v ≡ true → vs ≡ [] → IsValueOrFault e v → AreValuesOrFault stop (more e rest) (v ∷ vs)
  last_by stop e rest v vs ends is (inl h) = inl (h, inl (ends, is))
  last_by stop e rest v vs ends is (inr h) = inr (h.0, inl h.1)

  mutual
    value_there : (e : TypedTree) (v : Value) → TreeEvaluatesTo wide e (Ok v) → IsValueOrFault e v
    value_there (typed o ty place args) v h =
        let first = narrow_first o ty (arg_types args) h.0 None h.2 in
        value_by o ty place args h.0 v first.0 (values_there (stop_of o) args h.0 h.1) first.1 (gives_any store from tuple epoch Wide Narrow o ty (arg_types args) h.0 v h.3)

    values_there : (stop : Option Bool) (es : TypedTrees) (vs : List Value) → OperandsEvaluateTo wide stop es (Ok vs) → AreValuesOrFault stop es vs
    values_there stop none vs h = inl h
    values_there stop (more e rest) [] h = absurd h
    values_there stop (more e rest) (v ∷ vs) (h, inl k) = last_by stop e rest v vs k.0 k.1 (value_there e v h)
    values_there stop (more e rest) (v ∷ vs) (h, inr k) = more_by stop e rest v vs k.0 (value_there e v h) (values_there stop rest vs k.1)

  abbrev HasFault : Option Bool → TypedTrees → Type 0
  HasFault stop es = (g : PlacedFormula) × OperandsEvaluateTo narrow stop es (Err g)

  later_by : (stop : Option Bool) (e : TypedTree) (rest : TypedTrees) (v : Value) → stops stop v ≡ false → IsValueOrFault e v → HasFault stop rest → HasFault stop (more e rest)
  later_by stop e rest v goes (inl h) k = (k.0, inr (v, h, goes, k.1))
  later_by stop e rest v goes (inr h) k = (h.0, inl h.1)

  mutual
    pub fault_there : (e : TypedTree) (f : PlacedFormula) → TreeEvaluatesTo wide e (Err f) → (g : PlacedFormula) × TreeEvaluatesTo narrow e (Err g)
    fault_there (typed o ty place args) f (inl h) = let fault = faults_there (stop_of o) args f h in (fault.0, inl fault.1)
    fault_there (typed o ty place args) f (inr h) =
        let first = narrow_first o ty (arg_types args) h.0 (Some f.1) h.2 in
        fault_by o ty place args h.0 f.1 first.0 (values_there (stop_of o) args h.0 h.1) h.2 first.1

    faults_there : (stop : Option Bool) (es : TypedTrees) (f : PlacedFormula) → OperandsEvaluateTo wide stop es (Err f) → HasFault stop es
    faults_there stop none f h = absurd h
    faults_there stop (more e rest) f (inl h) = let fault = fault_there e f h in (fault.0, inl fault.1)
    faults_there stop (more e rest) f (inr h) = later_by stop e rest h.0 h.2 (value_there e h.0 h.1) (faults_there stop rest f h.3)

pub keeps_values : WideKeepsValues
keeps_values store from tuple epoch e v h = kept_value store from tuple epoch e v h

pub faults_are_narrow : WideFaultsAreNarrow
faults_are_narrow store from tuple epoch e f h = fault_there store from tuple epoch e f h
