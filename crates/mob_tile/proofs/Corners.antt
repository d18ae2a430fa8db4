-- The tiles of the corners of a slice and of its pieces are in the range.
use Rattle.std.{proofs.Common.{◌≡◌, Bool, true, false, arith, refl, sym, subst, ◌&&◌, ◌||◌, not}, proofs.lemmas.Bool.{and_parts}}
use Rattle.mob_ratio.{specs.Ratio.{Ratio, ◌≤ℚ◌}, specs.Order.{before, up_to, smaller, greater}, specs.Line.{line_at}}
use Rattle.mob_ratio.{proofs.Order.{before-back, not-up_to-le, smaller_left, smaller_right, up_to-self, up_to-trans, greater_left, greater_right}, proofs.LineAt.{line_at-short}}
use Rattle.mob_ratio.proofs.Between.{within}
use Rattle.mob_span.{specs.Span.{SpanOf, has_instant}, specs.Neighbours.{is_inside}, proofs.SpanLemmas.{some_upto}}
use Rattle.mob_plane.specs.declared.point.Point.{Point}
use Rattle.mob_stbox.specs.Areas.{InArea, area_between}
use Rattle.mob_slice.{specs.Slices.{IsSound}, specs.Cut.{slice_value}, specs.Sides.{HasValues}, specs.Lines.{plane_value_of}, specs.declared.slice.Slice.{Slice}}
use Rattle.mob_slice.specs.declared.line.PlaneLine.{PlaneLine}
use Rattle.mob_cells.proofs.Keeps.{upto_of}
use Rattle.mob_grid.{specs.Tiles.{GridOf, InRange, tile_of}, specs.declared.tile.TileRange.{TileRange}}
use Rattle.mob_tile.specs.Pieces.{Reaches, least_of, greatest_of}

-- between the lesser and the greater of two
pub record IsAmong (a b v : Ratio) : Type 0 where
  pub from : up_to (smaller a b) v ≡ true
  pub to : up_to v (greater a b) ≡ true

among_first : (a b : Ratio) → IsAmong a b a
among_first a b = record { from = smaller_left a b; to = greater_left a b }

among_second : (a b : Ratio) → IsAmong a b b
among_second a b = record { from = smaller_right a b; to = greater_right a b }

among_smaller : (a b u v : Ratio) → IsAmong a b u → IsAmong a b v → IsAmong a b (smaller u v)
among_smaller a b u v h k = by (before v u) refl
  where
    by : (d : Bool) → before v u ≡ d → IsAmong a b (smaller u v)
    by true e = subst (IsAmong a b) (sym (rw e refl)) k
    by false e = subst (IsAmong a b) (sym (rw e refl)) h

among_greater : (a b u v : Ratio) → IsAmong a b u → IsAmong a b v → IsAmong a b (greater u v)
among_greater a b u v h k = by (before u v) refl
  where
    by : (d : Bool) → before u v ≡ d → IsAmong a b (greater u v)
    by true e = subst (IsAmong a b) (sym (rw e refl)) k
    by false e = subst (IsAmong a b) (sym (rw e refl)) h

value_among : (a b : Ratio) (s : SpanOf) (t : Ratio) → up_to s.lower t ≡ true → up_to t s.upper ≡ true → IsAmong a b (line_at a b s.lower s.upper t)
value_among a b s t l u = by (before s.lower s.upper) refl (before b a) refl
  where
    by : (d : Bool) → before s.lower s.upper ≡ d → (e : Bool) → before b a ≡ e → IsAmong a b (line_at a b s.lower s.upper t)
    by false h e k = subst (IsAmong a b) (sym (line_at-short a b s.lower s.upper t h)) (among_first a b)
    by true h true k = let w = (within a b s.lower s.upper t h l u).falling (grind (arith, k, before-back b a)) in record { from = up_to-trans (smaller a b) b _ (smaller_right a b) w.0; to = up_to-trans _ a (greater a b) w.1 (greater_left a b) }
    by true h false k = let w = (within a b s.lower s.upper t h l u).rising (grind (arith, k)) in record { from = up_to-trans (smaller a b) a _ (smaller_left a b) w.0; to = up_to-trans _ b (greater a b) w.1 (greater_right a b) }

in_between : (p q r : Point) → IsAmong p.x q.x r.x → IsAmong p.y q.y r.y → InArea (area_between p q) r
in_between p q r x y = record {
  from_west = not-up_to-le (smaller p.x q.x) r.x x.from;
  to_east = not-up_to-le r.x (greater p.x q.x) x.to;
  from_south = not-up_to-le (smaller p.y q.y) r.y y.from;
  to_north = not-up_to-le r.y (greater p.y q.y) y.to;
}

module _ (g : GridOf) (r : TileRange) (s : Slice PlaneLine) (f : Reaches g r s) (sound : IsSound (λ c. c.from) (λ c. c.to) s) where
  span_rises : s.span.lower ≤ℚ s.span.upper
  span_rises = not-up_to-le s.span.lower s.span.upper (some_upto s.span sound.some)

  pub reach_least : InRange r (tile_of g s.span.lower (least_of s.course.from s.course.to))
  reach_least =
      let p = s.course.from in
      let q = s.course.to in
      f s.span.lower (least_of p q) (in_between p q (least_of p q) (among_smaller p.x q.x p.x q.x (among_first p.x q.x) (among_second p.x q.x)) (among_smaller p.y q.y p.y q.y (among_first p.y q.y) (among_second p.y q.y))) (not-up_to-le _ _ (up_to-self s.span.lower)) span_rises

  pub reach_greatest : InRange r (tile_of g s.span.upper (greatest_of s.course.from s.course.to))
  reach_greatest =
      let p = s.course.from in
      let q = s.course.to in
      f s.span.upper (greatest_of p q) (in_between p q (greatest_of p q) (among_greater p.x q.x p.x q.x (among_first p.x q.x) (among_second p.x q.x)) (among_greater p.y q.y p.y q.y (among_first p.y q.y) (among_second p.y q.y))) span_rises (not-up_to-le _ _ (up_to-self s.span.upper))

  pub reach_piece : (c : SpanOf) (part : Slice PlaneLine) → has_instant c ≡ true → is_inside s.span c ≡ true → HasValues plane_value_of (λ c. c.from) (λ c. c.to) (slice_value plane_value_of s) c part → InRange r (tile_of g c.lower (least_of part.course.from part.course.to))
  reach_piece c part i h v =
      let w = and_parts (before s.span.lower c.lower || (up_to s.span.lower c.lower && (s.span.lower_inc || not c.lower_inc))) (before c.upper s.span.upper || (up_to c.upper s.span.upper && (s.span.upper_inc || not c.upper_inc))) h in
      let l : up_to s.span.lower c.lower ≡ true = upto_of s.span.lower c.lower s.span.lower_inc (not c.lower_inc) w.0 in
      let u : up_to c.upper s.span.upper ≡ true = upto_of c.upper s.span.upper s.span.upper_inc (not c.upper_inc) w.1 in
      let m : up_to c.lower c.upper ≡ true = some_upto c i in
      let lu : up_to c.lower s.span.upper ≡ true = up_to-trans c.lower c.upper s.span.upper m u in
      let ul : up_to s.span.lower c.upper ≡ true = up_to-trans s.span.lower c.lower c.upper l m in
      let p = s.course.from in
      let q = s.course.to in
      let a = slice_value plane_value_of s c.lower in
      let b = slice_value plane_value_of s c.upper in
      let whole : InRange r (tile_of g c.lower (least_of a b)) = f c.lower (least_of a b)
      (in_between p q (least_of a b)
      (among_smaller p.x q.x a.x b.x (value_among p.x q.x s.span c.lower l lu) (value_among p.x q.x s.span c.upper ul u))
      (among_smaller p.y q.y a.y b.y (value_among p.y q.y s.span c.lower l lu) (value_among p.y q.y s.span c.upper ul u)))
      (not-up_to-le s.span.lower c.lower l) (not-up_to-le c.lower s.span.upper lu) in
      subst (λ z. InRange r (tile_of g c.lower (least_of z part.course.to))) (sym v.from) (subst (λ z. InRange r (tile_of g c.lower (least_of a z))) (sym v.to) whole)
