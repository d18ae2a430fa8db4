-- The value of a slice at an instant, kept for later.
use Rattle.std.specs.Prelude.{◌≡◌, List}
use Rattle.mob_ratio.specs.Ratio.{Ratio}
use Rattle.mob_frac.specs.Formula.{AllFit}
use Rattle.mob_slice.{specs.Cut.{slice_value, slice_parts}, specs.declared.slice.Slice.{Slice}}

-- a slice, an instant, and a course that ends with the value of the slice there
pub record FoundOf (C : Type 0) : Type 0 where
  pub slice : Slice C
  pub at : Ratio
  pub value : C

-- the course ends with the value of a slice at an instant, and each part of its formula fits
abbrev pub IsFoundOn : {C B : Type 0} → (C → Ratio → Ratio → Ratio → B) → (C → B) → (C → Ratio → Ratio → Ratio → List Ratio) → Slice C → Ratio → C → Type 0
IsFoundOn value end parts s t c = (end c ≡ slice_value value s t) × AllFit (slice_parts parts s t)

abbrev pub IsFound : {C B : Type 0} → (C → Ratio → Ratio → Ratio → B) → (C → B) → (C → Ratio → Ratio → Ratio → List Ratio) → FoundOf C → Type 0
IsFound value end parts f = IsFoundOn value end parts f.slice f.at f.value
