use Rattle.std.{specs.List.{AllByRecursion}, proofs.Common.{subst, sym}}
use Rattle.mob_ratio.{specs.Ratio.{◌<ℚ◌}, specs.Sign.{nil}}
use Rattle.mob_cells.specs.Roots.{IsLevel}
use Rattle.mob_grid.specs.Tiles.{IsGrid}
use Rattle.mob_tile.proofs.Cutting.{level_all}
use Rattle.mob_tile.proofs.pieces.on_slice.Goals as goal

pub cuts_on-requires : goal.cuts_on-requires
cuts_on-requires c =
    let ok : IsGrid c.args.grid.now = record { some_size = subst (λ z. nil <ℚ z) c.size-size.ensures.value c.size-size.ensures.positive; some_width = subst (λ z. nil <ℚ z) c.width-width.ensures.value c.width-width.ensures.positive } in
    record { level = subst (AllByRecursion (IsLevel c.args.slice.now.span)) (sym c.in_ok-edges.ensures.made.0.0) (level_all c.args.grid.now c.args.slice.now ok c.requires.sound) }
