use Rattle.std.proofs.Common.{drop}
use Rattle.mob_slice.{specs.Cut.{slice_parts}, specs.Lines.{plane_parts_of}}
use Rattle.mob_clip.proofs.Listing.{IsChecking}
use Rattle.mob_clip.proofs.roots.all_fit.Given as goal

abbrev pub invariant-loop-r : goal.invariant-loop-r
invariant-loop-r l = IsChecking (slice_parts plane_parts_of l.slice) l.roots (drop l.r-index l.roots)
