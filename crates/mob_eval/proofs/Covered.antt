-- What two values give by their covers is what the operator gives.
use Rattle.std.proofs.Common.{◌≡◌, List, Some, None, refl}
use Rattle.mob_ratio.specs.Ratio.{Ratio}
use Rattle.mob_list.{specs.Faults.{OnCause}, specs.declared.fault.Fault.{Fault}}
use Rattle.mob_slice.{specs.Entries.{IsFirst}, specs.Lines.{plane_value_of}, specs.Sides.{Slices, pieces}, specs.Slices.{value_at}, specs.declared.formula.Formula.{Formula}}
use Rattle.mob_slice.{specs.declared.line.PlaneLine.{PlaneLine}, specs.declared.mode.Mode.{Mode}, specs.declared.mode.Mode.TheVariants.{Wide}, specs.declared.slice.Slice.{Slice}}
use Rattle.mob_legs.specs.declared.covers.Cover.{Cover}
use Rattle.mob_value.{specs.declared.value.Value.{Value}, specs.declared.value.Value.TheVariants.{MovingPoint, Number}}
use Rattle.mob_near.{specs.Distances.{are_within}, specs.Sql.Entries.{approach_entries, within_entries}, specs.Sql.Nearness.{IsApproachValue, IsEverValue, IsEverWithin, IsNearestApproach}, specs.Wide.{approach_entries_in}}
use Rattle.mob_eval.specs.Remembered.{HasCovers}

-- only a moving point has covers
pub has_moving : (v : Value) (covers : List Cover) → HasCovers v covers → (a : List (Slice PlaneLine)) × (v ≡ MovingPoint a)
has_moving (MovingPoint a) covers h = (a, refl)
has_moving _ covers h = absurd h

pub within_is : (mode : Mode) (left right distance v : Value) (a b : List (Slice PlaneLine)) (d : Ratio) → mode ≡ Wide → left ≡ MovingPoint a → right ≡ MovingPoint b → distance ≡ Number d
    → IsEverValue (are_within d) (value_at plane_value_of a) (value_at plane_value_of b) v
    → IsEverWithin left right distance v × IsFirst (within_entries mode left right distance) None
within_is mode left right distance v a b d wide l r n ever = rw (wide, l, r, n) (ever, refl)

pub approach_is : (mode : Mode) (left right v : Value) (a b : List (Slice PlaneLine)) → mode ≡ Wide → left ≡ MovingPoint a → right ≡ MovingPoint b
    → IsApproachValue (value_at plane_value_of a) (value_at plane_value_of b) v → IsFirst (approach_entries_in Wide (pieces (Slices a) (Slices b))) None
    → IsNearestApproach left right v × IsFirst (approach_entries mode left right) None
approach_is mode left right v a b wide l r least first = rw (wide, l, r) (least, first)

pub approach_fault : (mode : Mode) (left right : Value) (a b : List (Slice PlaneLine)) (fault : Fault Formula) → mode ≡ Wide → left ≡ MovingPoint a → right ≡ MovingPoint b
    → OnCause (λ f. IsFirst (approach_entries_in Wide (pieces (Slices a) (Slices b))) (Some f)) fault
    → OnCause (λ f. IsFirst (approach_entries mode left right) (Some f)) fault
approach_fault mode left right a b fault wide l r first = rw (wide, l, r) first
