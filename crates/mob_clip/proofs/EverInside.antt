-- When part of a moving point is inside a polygon.
use Rattle.std.{specs.Prelude.{◌≡◌, Bool, true, false, List, Option, Some, None, refl}, proofs.Common.{ap, sym, ◌∙◌}}
use Rattle.mob_ratio.specs.Ratio.{Ratio}
use Rattle.mob_plane.{specs.declared.point.Point.{Point}, specs.Rings.{all_edges}, specs.Membership.{inside}, proofs.BySigns.{inside_signs}}
use Rattle.mob_slice.{specs.Slices.{value_at, IsNormal}, specs.Lines.{plane_value_of, plane_continued}, specs.declared.slice.Slice.{Slice}, specs.declared.line.PlaneLine.{PlaneLine}}
use Rattle.mob_slice.{proofs.LookUps.{some_value}, proofs.Options.{none_some}}
use Rattle.mob_cells.specs.Restricted.{kept_value, where_wanted, IsRestricted}
use Rattle.mob_clip.specs.Polygons.{is_inside_edges, IsEverInside}

wanted_meets : (m : Point → Bool) (o : Option Point) (y : Point) → where_wanted true m o ≡ Some y → (x : Point) × (o ≡ Some x) × (m x ≡ true)
wanted_meets m None y e = none_some y e
wanted_meets m (Some x) y e = (x, refl, by (m x) e)
  where
    by : (b : Bool) → kept_value true b x ≡ Some y → b ≡ true
    by true e = refl
    by false e = none_some y e

pub ever_some : (rings : List (List Point)) (v w : List (Slice PlaneLine)) → IsNormal (λ c. c.from) (λ c. c.to) plane_continued w → ((t : Ratio) → value_at plane_value_of w t ≡ where_wanted true (λ x. inside rings x) (value_at plane_value_of v t)) → IsEverInside rings v
ever_some rings v w h k =
    let i = some_value plane_value_of w h in
    let m = wanted_meets (λ x. inside rings x) (value_at plane_value_of v i.0) i.1 (sym (k i.0) ∙ i.2) in
    (i.0, m.0, m.1, m.2)

-- the condition by the edges is that of the polygon
wanted_same : (m n : Point → Bool) (want : Bool) (o : Option Point) → ((x : Point) → m x ≡ n x) → where_wanted want m o ≡ where_wanted want n o
wanted_same m n want None h = refl
wanted_same m n want (Some x) h = ap (λ b. kept_value want b x) (h x)

pub inside_same : (rings : List (List Point)) (es : List (Point × Point)) (want : Bool) (v : List (Slice PlaneLine)) (t : Ratio) → es ≡ all_edges rings → where_wanted want (is_inside_edges es) (value_at plane_value_of v t) ≡ where_wanted want (λ x. inside rings x) (value_at plane_value_of v t)
inside_same rings es want v t e = wanted_same (is_inside_edges es) (λ x. inside rings x) want (value_at plane_value_of v t) (λ x. ap (λ z. is_inside_edges z x) e ∙ sym (inside_signs rings x))

pub restricted_same : (rings : List (List Point)) (es : List (Point × Point)) (want : Bool) (v : List (Slice PlaneLine)) (r : Option (List (Slice PlaneLine))) → es ≡ all_edges rings → IsRestricted plane_value_of want (λ t x. is_inside_edges es x) v r → IsRestricted plane_value_of want (λ t x. inside rings x) v r
restricted_same rings es want v None e h = λ t. sym (inside_same rings es want v t e) ∙ h t
restricted_same rings es want v (Some w) e h = λ t. h t ∙ inside_same rings es want v t e
