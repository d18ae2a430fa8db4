use Rattle.std.proofs.Common.{◌≡◌, fold, Contains, ◌∙◌, ap, subst}
use Rattle.mob_plane.{specs.Rings.{rings_of}, specs.Corners.{all_points, AreCorners, widened}, proofs.Widening.{are_corners}}
use Rattle.mob_plane.proofs.polygons.Polygon.corners.Goals as goal

pub returns : goal.returns
returns c =
    let rings = c.self.inside.rings.items in
    let listed : Contains (all_points (rings_of rings)) c.start.result = rw c.as_slice.ensures.value at c.start.ensures.listed in
    let made : c.over_rings-corners.result ≡ fold widened (record { least = c.start.result; greatest = c.start.result }) (all_points (rings_of rings)) =
    c.over_rings-corners.ensures.value
    ∙ ap (λ z. fold widened z (all_points (rings_of c.as_slice-2.result.now))) c.at_point-first.ensures.value
    ∙ ap (λ z. fold widened (record { least = c.start.result; greatest = c.start.result }) (all_points (rings_of z))) c.as_slice-2.ensures.value in
    record { corners = subst (λ z. AreCorners (all_points z) c.over_rings-corners.result.least c.over_rings-corners.result.greatest) c.self.view_is (are_corners c.start.result (all_points (rings_of rings)) c.over_rings-corners.result listed made) }
