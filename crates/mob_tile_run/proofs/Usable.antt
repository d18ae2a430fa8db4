-- The settings of accepted arguments are usable.
use Rattle.std.{specs.Prelude.{◌≡◌, ◌≤◌, List, ℕ, Option, Some, None, IfSome, codes, true}, proofs.Common.{arith, sym, subst}}
use Rattle.mob_ratio.{specs.Ratio.{Ratio}, specs.Order.{up_to}, specs.Sign.{nil}}
use Rattle.mob_arguments.specs.Arguments.{IsWorkers, option_value}
use Rattle.mob_tile_run.{specs.CommandLine.{TileSays, IsNear, tile_command}, specs.TileAnswers.{IsUsable}, specs.declared.settings.TileSettings.{TileSettings}}

near_usable : (value : Option (List ℕ)) (near : Option Ratio) → IsNear value near → IfSome near (λ d. up_to nil d ≡ true)
near_usable None near h = subst (λ n. IfSome n (λ d. up_to nil d ≡ true)) (sym h) tt
near_usable (Some text) near h = subst (λ n. IfSome n (λ d. up_to nil d ≡ true)) (sym h.1) h.2.1

some_workers : (value : Option (List ℕ)) (n : ℕ) → IsWorkers value n → 1 ≤ n
some_workers None n h = omega (arith, h)
some_workers (Some text) n h = h.1

few_workers : (value : Option (List ℕ)) (n : ℕ) → IsWorkers value n → n ≤ 64
few_workers None n h = omega (arith, h)
few_workers (Some text) n h = h.2

pub usable : (words : List (List ℕ)) (s : TileSettings) → TileSays words s → IsUsable s
usable words s h = record {
  distance = near_usable (option_value tile_command (codes "near") words) s.near h.distance;
  some_workers = some_workers (option_value tile_command (codes "workers") words) s.workers h.count;
  few_workers = few_workers (option_value tile_command (codes "workers") words) s.workers h.count;
}
