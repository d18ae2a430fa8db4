-- Boxes of polygons, and the one box by which a value is searched for.
use Rattle.std.{specs.Prelude.{All, IfSome, is_some, ◌&&◌, ◌||◌}, proofs.Common.{◌≡◌, true, false, List, Option, Some, None, refl, sym, ap, ◌∙◌, subst}, proofs.lemmas.List.Elements.{All-contains}}
use Rattle.mob_ratio.{specs.Ratio.{Ratio}, specs.Order.{up_to}, proofs.Field.{le_trans}, proofs.Order.{not-up_to-le, smaller_left, greater_right, up_to-both}}
use Rattle.mob_span.specs.Span.{SpanOf, InSpan}
use Rattle.mob_plane.{specs.Corners.{all_points, AreCorners, IsLeastAmong, IsGreatestAmong}, specs.Membership.{inside}, specs.Points.{point_by_coordinates}, specs.Rings.{has_open}}
use Rattle.mob_plane.specs.declared.point.Point.{Point as PointOf}
use Rattle.mob_stbox.{specs.Areas.{InArea, area_between}, specs.Boxes.{BoxOf, BoxesMeet, both_have}}
use Rattle.mob_value.{specs.declared.value.Value.{Value}, specs.declared.value.Value.TheVariants.{Point, Polygon}, proofs.ValueBoxes.{one_own_box}}
use Rattle.mob_meets.{specs.Covers.{Covers, box_between, IsLookedForBy}, proofs.Near.{area_of, there_in}, proofs.Inside.{inside_in}}

-- all points are in the bounding rectangle of their corners
corners_have : (ps : List PointOf) (least greatest : PointOf) → AreCorners ps least greatest → All (InArea (area_between least greatest)) ps
corners_have ps least greatest h k d lt = record {
  from_west = le_trans _ least.x _ (not-up_to-le _ _ (smaller_left least.x greatest.x)) (not-up_to-le _ _ (h.least_x.none_less k d lt));
  to_east = le_trans _ greatest.x _ (not-up_to-le _ _ (h.greatest_x.none_greater k d lt)) (not-up_to-le _ _ (greater_right least.x greatest.x));
  from_south = le_trans _ least.y _ (not-up_to-le _ _ (smaller_left least.y greatest.y)) (not-up_to-le _ _ (h.least_y.none_less k d lt));
  to_north = le_trans _ greatest.y _ (not-up_to-le _ _ (h.greatest_y.none_greater k d lt)) (not-up_to-le _ _ (greater_right least.y greatest.y));
}

pub entered : (place : Ratio → Option PointOf) (b : BoxOf) (rings : List (List PointOf)) (least greatest : PointOf) → Covers place b → is_some b.space ≡ true → has_open rings ≡ false
    → AreCorners (all_points rings) least greatest → (t : Ratio) (p : PointOf) → place t ≡ Some p → inside rings p ≡ true → BoxesMeet b (box_between least greatest)
entered place b rings least greatest covers s closed corners t p e k =
    let a = area_between least greatest in
    let x = area_of b.space s in
    let i = there_in place b t p covers e in
    let there : InArea x.0 p = subst (λ o. IfSome o (λ z. InArea z p)) x.1 i.in_space in
    let within : InArea a p = inside_in a rings p closed (corners_have (all_points rings) least greatest corners) k in
    record {
      share = ap (λ o. (is_some o && true) || both_have b.time None) x.1;
      in_space = subst (λ o. IfSome o (λ z. (r : PointOf) × InArea z r × InArea a r)) (sym x.1) (p, there, within);
      in_time = no_time b.time None refl;
    }
  where
    no_time : (o r : Option SpanOf) → r ≡ None → IfSome o (λ s. IfSome r (λ z. (u : Ratio) × InSpan s u × InSpan z u))
    no_time None r e = tt
    no_time (Some s) r e = subst (λ w. IfSome w (λ z. (u : Ratio) × InSpan s u × InSpan z u)) (sym e) tt

-- ---- there is such a box

least_up : (c : PointOf → Ratio) (ps : List PointOf) (x y : Ratio) → IsLeastAmong c ps x → IsLeastAmong c ps y → up_to y x ≡ true
least_up c ps x y h k = subst (λ z. up_to y z ≡ true) h.some.4 (All-contains (λ p. up_to y (c p) ≡ true) ps h.some.1 k.none_less (h.some.0, h.some.2, h.some.3))

greatest_up : (c : PointOf → Ratio) (ps : List PointOf) (x y : Ratio) → IsGreatestAmong c ps x → IsGreatestAmong c ps y → up_to x y ≡ true
greatest_up c ps x y h k = subst (λ z. up_to z y ≡ true) h.some.4 (All-contains (λ p. up_to (c p) y ≡ true) ps h.some.1 k.none_greater (h.some.0, h.some.2, h.some.3))

one_least : (c : PointOf → Ratio) (ps : List PointOf) (x y : Ratio) → IsLeastAmong c ps x → IsLeastAmong c ps y → x ≡ y
one_least c ps x y h k = up_to-both x y (least_up c ps y x k h) (least_up c ps x y h k)

one_greatest : (c : PointOf → Ratio) (ps : List PointOf) (x y : Ratio) → IsGreatestAmong c ps x → IsGreatestAmong c ps y → x ≡ y
one_greatest c ps x y h k = up_to-both x y (greatest_up c ps x y h k) (greatest_up c ps y x k h)

corner_box : (ps : List PointOf) (l g m h : PointOf) → AreCorners ps l g → AreCorners ps m h → box_between l g ≡ box_between m h
corner_box ps l g m h a b =
    let least : l ≡ m = point_by_coordinates l m (one_least (λ p. p.x) ps l.x m.x a.least_x b.least_x) (one_least (λ p. p.y) ps l.y m.y a.least_y b.least_y) in
    let greatest : g ≡ h = point_by_coordinates g h (one_greatest (λ p. p.x) ps g.x h.x a.greatest_x b.greatest_x) (one_greatest (λ p. p.y) ps g.y h.y a.greatest_y b.greatest_y) in
    ap (λ (z : PointOf). box_between z g) least ∙ ap (λ (z : PointOf). box_between m z) greatest

pub one_looked_for : (v : Value) (b c : BoxOf) → IsLookedForBy v b → IsLookedForBy v c → b ≡ c
one_looked_for (Point p) b c h k = h ∙ sym k
one_looked_for (Polygon rings) b c h k = h.4 ∙ corner_box (all_points rings) h.1 h.2 k.1 k.2 h.3 k.3 ∙ sym k.4
one_looked_for v b c h k = one_own_box v b c h k
