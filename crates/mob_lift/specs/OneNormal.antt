-- A function has one normal value.
use Rattle.std.specs.Prelude.{◌≡◌, Bool, List}
use Rattle.mob_ratio.specs.Ratio.{Ratio}
use Rattle.mob_slice.{specs.declared.slice.Slice.{Slice}, specs.Slices.{IsNormal, value_at}}

-- two normal lists of slices that have the same value at every rational instant are the same list
abbrev pub OneNormal : {C B : Type 0} → (C → Ratio → Ratio → Ratio → B) → (C → B) → (C → B) → (C → C → Ratio → Ratio → Ratio → Bool) → Type 0
OneNormal {C} value start end continues = (v w : List (Slice C)) → IsNormal start end continues v → IsNormal start end continues w → ((t : Ratio) → value_at value v t ≡ value_at value w t) → v ≡ w
