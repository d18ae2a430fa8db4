use Rattle.std.{specs.Prelude.{Contains}, specs.List.{AllByRecursion}, proofs.Common.{sym, subst}, proofs.lemmas.List.Sorted.{Contains-permutation, IsPermutation-sym}}
use Rattle.mob_ratio.specs.Ratio.{Ratio}
use Rattle.mob_cells.{specs.Cells.{functions_of, placed_roots}, proofs.Placing.{are_signed, levels_of, roots_placed}, proofs.Rising.{IsBetween, rising_cuts, roots_between}}
use Rattle.mob_cells.proofs.signed.cells_on.Goals as goal

pub cells_at-requires : goal.cells_at-requires
cells_at-requires c =
    let s = c.args.span.now in
    let ps = c.args.placed.now in
    let cuts = c.in_ok-cuts.cuts.items in
    let sorted = c.in_ok-cuts.ensures.sorted in
    let between : AllByRecursion (IsBetween s) (placed_roots ps) = subst (AllByRecursion (IsBetween s)) (sym (roots_placed s ps c.requires.placed)) (roots_between s (functions_of ps) (levels_of s ps c.requires.placed)) in
    record { rising = rw c.as_slice.ensures.value (rising_cuts s (placed_roots ps) cuts between (λ r k. Contains-permutation cuts (placed_roots ps) r (IsPermutation-sym (placed_roots ps) cuts sorted.0) k) sorted.1) }

pub returns : goal.returns
returns c =
    let s = c.args.span.now in
    let ps = c.args.placed.now in
    let cuts = c.in_ok-cuts.cuts.items in
    let sorted = c.in_ok-cuts.ensures.sorted in
    let back : (r : Ratio) → Contains cuts r → Contains (placed_roots ps) r = λ r k. Contains-permutation cuts (placed_roots ps) r (IsPermutation-sym (placed_roots ps) cuts sorted.0) k in
    let forth : (r : Ratio) → Contains (placed_roots ps) r → Contains cuts r = λ r k. Contains-permutation (placed_roots ps) cuts r sorted.0 k in
    record { cells = rw (c.in_ok-cells.ensures.cells, c.as_slice.ensures.value) (are_signed s ps cuts c.lower-lower.ensures.some c.requires.placed forth back) }
