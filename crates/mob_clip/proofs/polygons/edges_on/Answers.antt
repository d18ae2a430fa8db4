use Rattle.std.{specs.List.{AllByRecursion}, proofs.Common.{◌∙◌, subst, sym}}
use Rattle.mob_slice.{specs.Cut.{slice_parts}, specs.Lines.{plane_parts_of}, specs.PlaneLaws.{plane_laws}, proofs.Cuts.{all_first, all_second}}
use Rattle.mob_cells.proofs.OwnEnds.{own_fit}
use Rattle.mob_clip.{specs.Roots.{CutsFit}, specs.Timelines.{timeline_at}, specs.Polygons.{entries_of_edges}, proofs.AlongEdges.{placed_are, edges_kept}}
use Rattle.mob_clip.proofs.polygons.edges_on.Goals as goal

pub membership-requires : goal.membership-requires
membership-requires c = record { placed = placed_are c.args.slice.now c.args.edges.now c.as_slice.result.now c.requires.sound (c.as_slice.ensures.value ∙ c.in_ok-placed.ensures.placed.0) }

pub kept_on-requires-clause-fit : goal.kept_on-requires-clause-fit
kept_on-requires-clause-fit c =
    let s = c.args.slice.now in
    let parts = slice_parts plane_parts_of s in
    let own = own_fit plane_laws s in
    c.in_ok-steps.ensures.fit parts (all_first (parts s.span.lower) (parts s.span.upper) own) (all_second (parts s.span.lower) (parts s.span.upper) own) (subst (AllByRecursion (CutsFit parts)) (sym c.as_slice.ensures.value) c.in_ok-placed.ensures.placed.2)

pub returns : goal.returns
returns c = record { kept = edges_kept (λ v. v.items) c.kept_on.result c.args.want c.args.slice.now c.args.edges.now c.as_slice.result.now (λ t. timeline_at c.in_ok-steps.steps t) (entries_of_edges c.args.edges.now c.args.slice.now) (c.as_slice.ensures.value ∙ c.in_ok-placed.ensures.placed.0) c.in_ok-steps.ensures.values c.in_ok-placed.ensures.placed.1 c.kept_on.ensures.kept }
