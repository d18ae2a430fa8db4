use Rattle.std.{specs.List.{flat_map}, proofs.Common.{rules, ◌≡◌}}
use Rattle.mob_clip.{specs.Roots.{edge_roots}, proofs.Judging.{within_all}}
use Rattle.mob_clip.proofs.roots.roots_fit.Goals as goal

pub all_fit-requires : goal.all_fit-requires
all_fit-requires c =
    let e : c.as_slice.result.now ≡ flat_map edge_roots c.args.edges.now = search rules in
    record { within = within_all c.args.slice.now.span c.args.edges.now c.as_slice.result.now e c.requires.placed }
