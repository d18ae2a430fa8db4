-- The result of an operator on one piece of time.
use Rattle.std.specs.Prelude.{◌≡◌, true, List, Option, Result}
use Rattle.mob_ratio.specs.Ratio.{Ratio}
use Rattle.mob_span.specs.Span.{SpanOf, has}
use Rattle.mob_slice.{specs.Slices.{value_at, IsRisingInTime}, specs.Pieces.{AreInside}, specs.Entries.{Entry, IsMadeByAll}, specs.declared.slice.Slice.{Slice}}
use Rattle.mob_slice.specs.declared.formula.Formula.{Formula}
use Rattle.mob_list.specs.declared.fault.Fault.{Fault}

-- The slices are ordered, lie in the span r, and have at each instant of r the value f, or none.
pub record AreKeptOn {C B : Type 0} (value : C → Ratio → Ratio → Ratio → B) (start end : C → B) (f : Ratio → Option B) (r : SpanOf) (slices : List (Slice C)) : Type 0 where
  pub ordered : IsRisingInTime start end slices
  pub inside : AreInside r slices
  pub values : (t : Ratio) → has r t ≡ true → value_at value slices t ≡ f t

-- An operator on one piece: slices with the values f, if every entry fits, or the formula of the
-- first that does not.
abbrev pub IsKeptBy : {C B V : Type 0} → (C → Ratio → Ratio → Ratio → B) → (C → B) → (C → B) → (V → List (Slice C)) → (Ratio → Option B) → SpanOf → List Entry → Result V (Fault Formula) → Type 0
IsKeptBy value start end items f r entries result = IsMadeByAll entries (λ v. AreKeptOn value start end f r (items v)) result
