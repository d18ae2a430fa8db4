-- Values that are kept, and used again.
use Rattle.std.{specs.Prelude.{◌≡◌, List}, proofs.Common.{sym}}
use Rattle.mob_ratio.specs.Ratio.{Ratio}
use Rattle.mob_frac.specs.Formula.{AllFit}
use Rattle.mob_slice.specs.declared.slice.Slice.{Slice}
use Rattle.mob_lift.{specs.Alike.{AreAlike}, specs.Found.{FoundOf, IsFound, IsFoundOn}, proofs.OneFunction.{alike_at}}

-- the value of a slice with the same function at the same instant
pub same_found : {C B : Type 0} (value : C → Ratio → Ratio → Ratio → B) (end : C → B) (parts : C → Ratio → Ratio → Ratio → List Ratio) (f : FoundOf C) (s : Slice C) (t : Ratio) → IsFound value end parts f → f.at ≡ t → AreAlike s f.slice → IsFoundOn value end parts s t f.value
same_found value end parts f s t h a k = (alike_at (λ x. end f.value ≡ x) value s f.slice t f.at k (sym a) h.0, alike_at AllFit parts s f.slice t f.at k (sym a) h.1)
