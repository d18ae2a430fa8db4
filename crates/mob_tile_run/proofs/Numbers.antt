-- A text has one side.
use Rattle.std.{specs.Prelude.{◌≡◌, ◌↔◌, Bool, true, false, List, ℕ, Option, Some, None, Ok}, proofs.Common.{sym, ◌∙◌, subst, true≢false}}
use Rattle.mob_ratio.{specs.Ratio.{Ratio, ◌<ℚ◌}, specs.Sign.{nil}}
use Rattle.mob_numeral.{specs.Numbers.{numbers}, specs.Verdict.{Lit}}
use Rattle.mob_arguments.{specs.Arguments.{IsRequired}, proofs.Readings.{one_ratio}}
use Rattle.mob_tile_run.specs.CommandLine.{IsSide}

-- a number that is not positive is not a side
pub not_above : (text : List ℕ) (q d : Ratio) (b : Bool) → Lit numbers text (Ok q) → (b ≡ true) ↔ (nil <ℚ q) → b ≡ false → Lit numbers text (Ok d) → nil <ℚ d → ⊥
not_above text q d b h e f i j = true≢false (sym (e.1 (subst (λ z. nil <ℚ z) (sym (one_ratio text q d h i)) j)) ∙ f)

-- a side is positive
pub side_above : (value : Option (List ℕ)) (d : Ratio) → IsRequired IsSide value d → nil <ℚ d
side_above None d h = absurd h
side_above (Some text) d h = h.1
