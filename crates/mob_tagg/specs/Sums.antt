-- The result on one piece that two values share.
use Rattle.std.specs.Prelude.{◌≡◌, List, [], ◌∷◌, Result, MatchResult}
use Rattle.mob_ratio.specs.Ratio.{Ratio}
use Rattle.mob_frac.specs.Formula.{AllFit, sum_parts}
use Rattle.mob_list.{specs.Faults.{OnCause}, specs.declared.fault.Fault.{Fault}}
use Rattle.mob_slice.{specs.declared.slice.Slice.{Slice}, specs.declared.part.Pair.{Pair}, specs.declared.steady.Steady.{Steady}, specs.declared.formula.Formula.TheVariants.{F2}}
use Rattle.mob_slice.specs.declared.formula.Formula.{Formula}
use Rattle.mob_lift.{specs.Given.{IsGiven, on_sides}, specs.Common.{pair_of}}
use Rattle.mob_arith.specs.Termwise.{entries_at_ends}
use Rattle.mob_tagg.specs.United.{united_sides}

-- the sum of two values, if all parts of F2 fit; otherwise the formula is F2
abbrev pub IsSumOf : {B : Type 0} → (B → B → B) → (B → Ratio) → B → B → Result B (Fault Formula) → Type 0
IsSumOf added number x y result =
    MatchResult result (λ z. (z ≡ added x y) × AllFit (sum_parts (number x) (number y))) (OnCause (λ f. (f ≡ F2) × (¬ AllFit (sum_parts (number x) (number y)))))

-- the sum on a shared piece, if every entry fits, or the formula of the first that does not
abbrev pub IsSumGiven : {C B : Type 0} → (C → Ratio → Ratio → Ratio → B) → (C → B) → (C → B) → (C → Ratio → Ratio → Ratio → List Ratio) → (B → Ratio) → (B → B → B) → Pair C C → Result (Slice C) (Fault Formula) → Type 0
IsSumGiven value start end parts number added p result =
    IsGiven value start end (λ s. s ∷ []) (on_sides value value added (united_sides (pair_of p))) p.span
    (entries_at_ends value parts value parts (λ x y. sum_parts (number x) (number y)) (united_sides (pair_of p))) result

-- the slice on a shared piece of two steady values with the operation on the two
abbrev pub steady_on : {B : Type 0} → (B → B → B) → Pair (Steady B) (Steady B) → Slice (Steady B)
steady_on op p = record { span = p.span; course = record { value = op p.left.now.course.value p.right.now.course.value } }
