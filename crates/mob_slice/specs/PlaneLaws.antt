-- Lines of the plane satisfy the laws of courses, by coordinate.
use Rattle.std.{specs.Prelude.{false, refl, ⊤}, proofs.lemmas.Bool.{and_parts, and_from}, proofs.Common.{ap, sym, true≢false}}
use Rattle.mob_ratio.{specs.Line.{line_continues}, proofs.LineAt.{line_at-lower, line_at-upper, line_at-level, line_at-part}}
use Rattle.mob_plane.{specs.Points.{point_by_coordinates}, specs.declared.point.Point.{Point}}
use Rattle.mob_slice.{specs.Course.{IsCourse}, specs.Lines.{plane_value_of, plane_continued, plane_parts_of}, specs.LineLaws.{none_at_lower, none_at_upper, goes_on_is, is_goes_on}}
use Rattle.mob_slice.specs.declared.line.PlaneLine.{PlaneLine}

pub plane_laws : IsCourse {C = PlaneLine} {B = Point} false false plane_value_of (λ c. c.from) (λ c. c.to) (λ a b. ⊤) (λ a b. record { from = a; to = b }) plane_continued plane_parts_of
plane_laws = record {
  at_lower = λ c l u. point_by_coordinates _ _ (line_at-lower c.from.x c.to.x l u) (line_at-lower c.from.y c.to.y l u);
  at_upper = λ c l u h. point_by_coordinates _ _ (line_at-upper c.from.x c.to.x l u h) (line_at-upper c.from.y c.to.y l u h);
  by_ends = λ c d p q. λ i. record { from = p i; to = q i };
  start_made = λ a b h. refl;
  end_made = λ a b h. refl;
  can_level = λ a. tt;
  level = λ a l u t. point_by_coordinates _ _ (line_at-level a.x l u t) (line_at-level a.y l u t);
  part = λ c l u from to h k. record { made = tt; same = λ t. point_by_coordinates _ _ (line_at-part c.from.x c.to.x l u from to t h k) (line_at-part c.from.y c.to.y l u from to t h k) };
  whole = λ c d l m u. (
    λ h.
        let p = and_parts (line_continues c.from.x c.to.x d.from.x d.to.x l m u) (line_continues c.from.y c.to.y d.from.y d.to.y l m u) h in
        let x = goes_on_is c.from.x c.to.x d.from.x d.to.x l m u p.0 in
        let y = goes_on_is c.from.y c.to.y d.from.y d.to.y l m u p.1 in
        record { made = tt; met = point_by_coordinates _ _ x.0 y.0; straight = point_by_coordinates _ _ x.1 y.1 },
    λ w.
        let x = is_goes_on c.from.x c.to.x d.from.x d.to.x l m u (ap (λ (p : Point). p.x) w.met) (ap (λ (p : Point). p.x) w.straight) in
        let y = is_goes_on c.from.y c.to.y d.from.y d.to.y l m u (ap (λ (p : Point). p.y) w.met) (ap (λ (p : Point). p.y) w.straight) in
        and_from (line_continues c.from.x c.to.x d.from.x d.to.x l m u) (line_continues c.from.y c.to.y d.from.y d.to.y l m u) x y,
  );
  one_value = λ h. absurd (true≢false (sym h));
  one_end = λ h. absurd (true≢false (sym h));
  no_parts = λ h. absurd (true≢false (sym h));
  no_copies = λ h. refl;
  lower_parts = λ c l u. rw (none_at_lower c.from.x c.to.x l u, none_at_lower c.from.y c.to.y l u) refl;
  upper_parts = λ c l u. rw (none_at_upper c.from.x c.to.x l u, none_at_upper c.from.y c.to.y l u) refl;
  any_ends = λ h a b. tt;
}
