use Rattle.std.proofs.Common.{subst, sym}
use Rattle.mob_frac.specs.Formula.{AllFit}
use Rattle.mob_slice.{specs.Sides.{at_ends}, specs.Cut.{slice_parts}, specs.Lines.{plane_parts_of}, specs.PlaneLaws.{plane_laws}}
use Rattle.mob_cells.proofs.OwnEnds.{own_fit}
use Rattle.mob_clip.proofs.InTime.{timeless}
use Rattle.mob_clip.proofs.boxes.ToBoxRestrictionPlaneLine.on_slice.Goals as goal

pub in_space_on-requires-clause-ends : goal.in_space_on-requires-clause-ends
in_space_on-requires-clause-ends c = subst (λ z. AllFit (at_ends (slice_parts plane_parts_of c.args.slice.now) z)) (sym c.whole.ensures.whole.on) (own_fit plane_laws c.args.slice.now)

pub returns-in-None : goal.returns-in-None
returns-in-None c = record { kept = timeless (λ v. v.items) c.args.slice.now c.args.want c.args.self.now.to.now c.space_of-space.result c.whole.result.span c.in_space_on.result c.whole.ensures.whole.on c.space_of-space.ensures.space c.in-None.ensures.value c.in_space_on.ensures.kept }
