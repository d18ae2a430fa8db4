-- One step of a search.
use Rattle.std.{specs.Prelude.{Result, Ok, Err, OnOk}, specs.List.Sorted.{IsPermutation}, proofs.Common.{◌≡◌, ℕ, ◌+◌, List, ◌++◌, Option, sym, subst}}
use Rattle.mob_ratio.specs.Ratio.{Ratio}
use Rattle.mob_stbox.specs.Boxes.{BoxOf}
use Rattle.mob_rtree_nodes.specs.Reach.{Branch}
use Rattle.mob_knn.{specs.declared.waiting.WaitingKind.{WaitingKind}, specs.declared.waiting.WaitingKind.TheVariants.{Entry}, specs.Steps.{IsOnly, found_answer, State, IsAdvanced}}

pub looked_advanced : {A E : Type 0} (bs : List Branch) (q : BoxOf) (has : ℕ → Ratio → Type 0) (key : Ratio) (what : WaitingKind) (row : ℕ) (r : Result A E) (old new : State) → what ≡ Entry row
    → OnOk r ((o : Option Ratio) × IsOnly (has row) o × IsPermutation (found_answer row o ++ old.heap) new.heap) → new.found ≡ old.found → new.steps ≡ old.steps + 1 → OnOk r (IsAdvanced bs q has key what old new)
looked_advanced bs q has key what row (Ok u) old new e h f s = subst (λ z. IsAdvanced bs q has key z old new) (sym e) (record { answer = h.0; only = h.1; heap = h.2; found = f; steps = s })
looked_advanced bs q has key what row (Err u) old new e h f s = tt
