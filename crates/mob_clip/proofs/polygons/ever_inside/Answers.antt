use Rattle.std.proofs.Common.{◌≡◌, Some, true, refl, subst}
use Rattle.mob_plane.specs.Membership.{inside}
use Rattle.mob_slice.specs.Lines.{plane_value_of}
use Rattle.mob_cells.specs.Restricted.{IsRestricted}
use Rattle.mob_clip.proofs.EverInside.{ever_some}
use Rattle.mob_clip.proofs.polygons.ever_inside.Goals as goal

pub returns-in-Ok-Some-clause-value : goal.returns-in-Ok-Some-clause-value
returns-in-Ok-Some-clause-value c =
    let e : c.in-Ok-Some.field-0 ≡ Some c.in-Ok-Some.left = c.in-Ok-Some.field-0-is in
    (λ h. ever_some c.args.p.now c.args.a.now c.in-Ok-Some.left c.slices-slices.ensures.normal (subst (IsRestricted plane_value_of true (λ t x. inside c.args.p.now x) c.args.a.now) e c.in-Ok-Some.ensures.value), λ k. refl)
