-- The box that covers the boxes of all slices is the box of the value.
use Rattle.std.{specs.Prelude.{◌≡◌, ◌≢◌, Bool, true, false, cond, refl, List, [], ◌∷◌, Option, Some, None, IfSome, MatchOption, ℕ, ◌+◌, ◌<◌, length}, specs.List.{AllByRecursion}}
use Rattle.std.{proofs.lemmas.Bool.{and_from, false_from_ne_true}, proofs.Common.{drop, get_or, arith, ap, sym, ◌∙◌, subst}, proofs.lemmas.List.{drop_more}}
use Rattle.mob_ratio.{specs.Ratio.{Ratio}, specs.Order.{before, up_to, smaller, greater}, specs.Line.{line_at}, proofs.Between.{within, start_below, end_below, start_above, end_above}}
use Rattle.mob_ratio.{proofs.LineAt.{line_at-short}, proofs.Order.{before-back, smaller_left, smaller_right, greater_left, greater_right, up_to-trans, up_to-not-after}}
use Rattle.mob_span.{specs.Span.{SpanOf, InSpan, has, has_instant}, specs.Neighbours.{is_inside}, proofs.Ends.{inside_exact}, proofs.Insides.{clear_has, inner_has}}
use Rattle.mob_span.{proofs.Shared.{AreAllClear, all_after}, proofs.SpanLemmas.{has_exact, has_upto_lower, has_upto_upper, short_has}}
use Rattle.mob_plane.specs.declared.point.Point.{Point}
use Rattle.mob_slice.{specs.CourseOf.{plane_course}, specs.Lines.{plane_value_of}, specs.Slices.{value_at, IsSound, IsRisingInTime, IsNormal}, specs.declared.line.PlaneLine.{PlaneLine}}
use Rattle.mob_slice.{specs.declared.slice.Slice.{Slice}, proofs.Orders.{ordered, ordered-clear}}
use Rattle.mob_stbox.{specs.Areas.{InArea, area_over, area_between, is_area}, specs.Boxes.{BoxOf, InBox, is_box, is_whole, contains, lies_in, cover}, specs.declared.area.Area.{Area}}
use Rattle.mob_stbox.proofs.BoxLaws.{in_contained, contains_is, over_self, over_trans, cover_over_left, cover_over_right, cover_least, cover_whole, cover_is_box, one_box}
use Rattle.mob_stbox.proofs.Sides.{four, all_four, in_area_exact, between_least, between_is_area}
use Rattle.mob_value.{specs.ValueBoxes.{HasPositions, IsBoxOf, HasBox, OnBox, slice_box, covered, value_box}, specs.declared.value.Value.{Value}}
use Rattle.mob_value.specs.declared.value.Value.TheVariants.{Box, MovingPoint}

abbrev start : PlaneLine → Point
start c = c.from

abbrev end : PlaneLine → Point
end c = c.to

-- ---- a slice is in its box

-- a coordinate lies between its limits
pub record IsBetween (x0 x1 x : Ratio) : Type 0 where
  pub from : up_to (smaller x0 x1) x ≡ true
  pub to : up_to x (greater x0 x1) ≡ true

coordinate_by : (x0 x1 l u t : Ratio) (b d : Bool) → before l u ≡ b → before x1 x0 ≡ d → up_to l t ≡ true → up_to t u ≡ true → IsBetween x0 x1 (line_at x0 x1 l u t)
coordinate_by x0 x1 l u t false d h e a b = subst (IsBetween x0 x1) (sym (line_at-short x0 x1 l u t h)) (record { from = smaller_left x0 x1; to = greater_left x0 x1 })
coordinate_by x0 x1 l u t true true h e a b =
    let w = (within x0 x1 l u t h a b).falling (grind (arith, before-back x1 x0 e)) in
    let x = line_at x0 x1 l u t in
    record { from = up_to-trans (smaller x0 x1) x1 x (smaller_right x0 x1) w.0; to = up_to-trans x x0 (greater x0 x1) w.1 (greater_left x0 x1) }
coordinate_by x0 x1 l u t true false h e a b =
    let w = (within x0 x1 l u t h a b).rising (grind (arith, e)) in
    let x = line_at x0 x1 l u t in
    record { from = up_to-trans (smaller x0 x1) x0 x (smaller_left x0 x1) w.0; to = up_to-trans x x1 (greater x0 x1) w.1 (greater_right x0 x1) }

coordinate : (x0 x1 : Ratio) (s : SpanOf) (t : Ratio) → has s t ≡ true → IsBetween x0 x1 (line_at x0 x1 s.lower s.upper t)
coordinate x0 x1 s t h = coordinate_by x0 x1 s.lower s.upper t (before s.lower s.upper) (before x1 x0) refl refl (has_upto_lower s t h) (has_upto_upper s t h)

abbrev there : Slice PlaneLine → Ratio → Point
there s t = plane_value_of s.course s.span.lower s.span.upper t

slice_has : (s : Slice PlaneLine) (t : Ratio) → has s.span t ≡ true → InBox (slice_box s) t (there s t)
slice_has s t h =
    let a = area_between s.course.from s.course.to in
    let p = there s t in
    let x = coordinate s.course.from.x s.course.to.x s.span t h in
    let y = coordinate s.course.from.y s.course.to.y s.span t h in
    record {
      in_space = (in_area_exact a p).0 (all_four (up_to a.xmin p.x) (up_to p.x a.xmax) (up_to a.ymin p.y) (up_to p.y a.ymax) x.from x.to y.from y.to);
      in_time = (has_exact s.span t).0 h;
    }

pub slice_whole : (s : Slice PlaneLine) → is_whole (slice_box s) ≡ true
unfolding is_whole
slice_whole s = refl

-- ---- and so are all slices in the cover

pub covered_over : (b : BoxOf) (slices : List (Slice PlaneLine)) → contains (covered b slices) b ≡ true
covered_over b [] = over_self b
covered_over b (s ∷ rest) = over_trans (covered (cover b (slice_box s)) rest) (cover b (slice_box s)) b (covered_over (cover b (slice_box s)) rest) (cover_over_left b (slice_box s))

-- a box that contains that of the first slice and has the positions of the others
has_by : (s : Slice PlaneLine) (rest : List (Slice PlaneLine)) (c : BoxOf) (t : Ratio) (d : Bool) → has s.span t ≡ d → contains c (slice_box s) ≡ true → IfSome (value_at plane_value_of rest t) (λ p. InBox c t p) → IfSome (cond d (Some (there s t)) (value_at plane_value_of rest t)) (λ p. InBox c t p)
has_by s rest c t true h k f = in_contained c (slice_box s) t (there s t) (contains_is c (slice_box s) k) (slice_has s t h)
has_by s rest c t false h k f = f

covered_has : (b : BoxOf) (slices : List (Slice PlaneLine)) → HasPositions slices (covered b slices)
covered_has b [] t = tt
covered_has b (s ∷ rest) t = has_by s rest (covered (cover b (slice_box s)) rest) t (has s.span t) refl
    (over_trans (covered (cover b (slice_box s)) rest) (cover b (slice_box s)) (slice_box s) (covered_over (cover b (slice_box s)) rest) (cover_over_right b (slice_box s)))
    (covered_has (cover b (slice_box s)) rest t)

covered_whole : (b : BoxOf) (slices : List (Slice PlaneLine)) → is_whole b ≡ true → is_whole (covered b slices) ≡ true
covered_whole b [] w = w
covered_whole b (s ∷ rest) w = covered_whole (cover b (slice_box s)) rest (cover_whole b (slice_box s) w (slice_whole s))

slice_is_box : (s : Slice PlaneLine) → IsSound start end s → is_box (slice_box s) ≡ true
slice_is_box s sound = and_from (is_area (area_between s.course.from s.course.to)) (has_instant s.span) (between_is_area s.course.from s.course.to) sound.some

covered_is_box : (b : BoxOf) (slices : List (Slice PlaneLine)) → is_whole b ≡ true → is_box b ≡ true → is_box (covered b slices) ≡ true
covered_is_box b [] w h = h
covered_is_box b (s ∷ rest) w h = covered_is_box (cover b (slice_box s)) rest (cover_whole b (slice_box s) w (slice_whole s)) (cover_is_box b (slice_box s) w (slice_whole s) h)

-- ---- a box with all positions of a slice contains the slice's box

not_before : (s t : Ratio) → (before s t ≡ true → ⊥) → up_to t s ≡ true
not_before s t f = rw (false_from_ne_true (before s t) f) refl

-- if each value of the line on the span is at least c, so are its end values
low_limits : (c x0 x1 : Ratio) (s : SpanOf) (b : Bool) → before s.lower s.upper ≡ b → has_instant s ≡ true → (b ≡ false → x0 ≡ x1) → ((t : Ratio) → has s t ≡ true → up_to c (line_at x0 x1 s.lower s.upper t) ≡ true) → (up_to c x0 ≡ true) × (up_to c x1 ≡ true)
low_limits c x0 x1 s true e i level f = (
  not_before x0 c (λ k. let m = start_below x0 x1 s.lower s.upper c e k in up_to-not-after _ _ (f m.at (inner_has s m.at m.after m.until)) m.is),
  not_before x1 c (λ k. let m = end_below x0 x1 s.lower s.upper c e k in up_to-not-after _ _ (f m.at (inner_has s m.at m.after m.until)) m.is),
)
low_limits c x0 x1 s false e i level f =
    let here : up_to c x0 ≡ true = subst (λ z. up_to c z ≡ true) (line_at-short x0 x1 s.lower s.upper s.lower e) (f s.lower (short_has s i e)) in
    (here, subst (λ z. up_to c z ≡ true) (level refl) here)

high_limits : (c x0 x1 : Ratio) (s : SpanOf) (b : Bool) → before s.lower s.upper ≡ b → has_instant s ≡ true → (b ≡ false → x0 ≡ x1) → ((t : Ratio) → has s t ≡ true → up_to (line_at x0 x1 s.lower s.upper t) c ≡ true) → (up_to x0 c ≡ true) × (up_to x1 c ≡ true)
high_limits c x0 x1 s true e i level f = (
  not_before c x0 (λ k. let m = start_above x0 x1 s.lower s.upper c e k in up_to-not-after _ _ (f m.at (inner_has s m.at m.after m.until)) m.is),
  not_before c x1 (λ k. let m = end_above x0 x1 s.lower s.upper c e k in up_to-not-after _ _ (f m.at (inner_has s m.at m.after m.until)) m.is),
)
high_limits c x0 x1 s false e i level f =
    let here : up_to x0 c ≡ true = subst (λ z. up_to z c ≡ true) (line_at-short x0 x1 s.lower s.upper s.lower e) (f s.lower (short_has s i e)) in
    (here, subst (λ z. up_to z c ≡ true) (level refl) here)

-- an area with all positions of a slice contains both its end points
limits_in : (s : Slice PlaneLine) (a : Area) → IsSound start end s → ((t : Ratio) → has s.span t ≡ true → InArea a (there s t)) → InArea a s.course.from × InArea a s.course.to
limits_in s a sound f =
    let p = s.course.from in
    let q = s.course.to in
    let level_x : before s.span.lower s.span.upper ≡ false → p.x ≡ q.x = λ e. ap (λ (r : Point). r.x) (sound.level e) in
    let level_y : before s.span.lower s.span.upper ≡ false → p.y ≡ q.y = λ e. ap (λ (r : Point). r.y) (sound.level e) in
    let g : (t : Ratio) → has s.span t ≡ true → (up_to a.xmin (there s t).x ≡ true) × (up_to (there s t).x a.xmax ≡ true) × (up_to a.ymin (there s t).y ≡ true) × (up_to (there s t).y a.ymax ≡ true) = λ t h. four (up_to a.xmin (there s t).x) (up_to (there s t).x a.xmax) (up_to a.ymin (there s t).y) (up_to (there s t).y a.ymax) ((in_area_exact a (there s t)).1 (f t h)) in
    let w = low_limits a.xmin p.x q.x s.span (before s.span.lower s.span.upper) refl sound.some level_x (λ t h. (g t h).0) in
    let e = high_limits a.xmax p.x q.x s.span (before s.span.lower s.span.upper) refl sound.some level_x (λ t h. (g t h).1) in
    let l = low_limits a.ymin p.y q.y s.span (before s.span.lower s.span.upper) refl sound.some level_y (λ t h. (g t h).2) in
    let u = high_limits a.ymax p.y q.y s.span (before s.span.lower s.span.upper) refl sound.some level_y (λ t h. (g t h).3) in (
      (in_area_exact a p).0 (all_four (up_to a.xmin p.x) (up_to p.x a.xmax) (up_to a.ymin p.y) (up_to p.y a.ymax) w.0 e.0 l.0 u.0),
      (in_area_exact a q).0 (all_four (up_to a.xmin q.x) (up_to q.x a.xmax) (up_to a.ymin q.y) (up_to q.y a.ymax) w.1 e.1 l.1 u.1),
    )

space_least : (s : Slice PlaneLine) (o : Option Area) → IsSound start end s → ((t : Ratio) → has s.span t ≡ true → IfSome o (λ a. InArea a (there s t))) → lies_in area_over o (Some (area_between s.course.from s.course.to)) ≡ true
space_least s None sound f = refl
space_least s (Some a) sound f = let l = limits_in s a sound f in between_least s.course.from s.course.to a l.0 l.1

time_least : (s : SpanOf) (o : Option SpanOf) → has_instant s ≡ true → ((t : Ratio) → has s t ≡ true → IfSome o (λ r. InSpan r t)) → lies_in is_inside o (Some s) ≡ true
time_least s None i f = refl
time_least s (Some r) i f = (inside_exact r s i).1 (λ t h. f t ((has_exact s t).1 h))

slice_least : (s : Slice PlaneLine) (d : BoxOf) → IsSound start end s → ((t : Ratio) → has s.span t ≡ true → InBox d t (there s t)) → contains d (slice_box s) ≡ true
unfolding contains
slice_least s d sound f = and_from (lies_in area_over d.space (Some (area_between s.course.from s.course.to))) (lies_in is_inside d.time (Some s.span)) (space_least s d.space sound (λ t h. (f t h).in_space)) (time_least s.span d.time sound.some (λ t h. (f t h).in_time))

-- ---- so each box with all positions contains the cover

none_past : (q : SpanOf) (v : List (Slice PlaneLine)) (t : Ratio) → AreAllClear (λ s. s.span) q v → has q t ≡ true → value_at plane_value_of v t ≡ None
none_past q [] t h k = refl
none_past q (s ∷ v) t h k = rw (clear_has q s.span t h.0 k) (none_past q v t h.1 k)

-- a box with the positions of all slices has those of the slices after the first
rest_has : (s : Slice PlaneLine) (v : List (Slice PlaneLine)) (d : BoxOf) → AreAllClear (λ s. s.span) s.span v → HasPositions (s ∷ v) d → HasPositions v d
rest_has s v d clear f t = by_test (has s.span t) refl (f t)
  where
    by_test : (b : Bool) → has s.span t ≡ b → IfSome (cond b (Some (there s t)) (value_at plane_value_of v t)) (λ p. InBox d t p) → IfSome (value_at plane_value_of v t) (λ p. InBox d t p)
    by_test true h k = subst (λ o. IfSome o (λ p. InBox d t p)) (sym (none_past s.span v t clear h)) tt
    by_test false h k = k

own_has : (s : Slice PlaneLine) (v : List (Slice PlaneLine)) (d : BoxOf) → HasPositions (s ∷ v) d → (t : Ratio) → has s.span t ≡ true → InBox d t (there s t)
own_has s v d f t h = subst (λ b. IfSome (cond b (Some (there s t)) (value_at plane_value_of v t)) (λ p. InBox d t p)) h (f t)

all_least : (v : List (Slice PlaneLine)) (d : BoxOf) → IsRisingInTime start end v → HasPositions v d → AllByRecursion (λ s. contains d (slice_box s) ≡ true) v
all_least [] d o f = tt
all_least (s ∷ v) d o f =
    let clear = all_after (λ (s : Slice PlaneLine). s.span) s v (ordered-clear start end (s ∷ v) o) in
    (slice_least s d o.0 (own_has s v d f), all_least v d o.2 (rest_has s v d clear f))

covered_least : (b d : BoxOf) (v : List (Slice PlaneLine)) → contains d b ≡ true → AllByRecursion (λ s. contains d (slice_box s) ≡ true) v → contains d (covered b v) ≡ true
covered_least b d [] h a = h
covered_least b d (s ∷ v) h a = covered_least (cover b (slice_box s)) d v (cover_least b (slice_box s) d h a.0) a.1

-- the cover of the box of the first slice and those of all slices is the box of the value
pub is_box_of : (continues : PlaneLine → PlaneLine → Ratio → Ratio → Ratio → Bool) (slices : List (Slice PlaneLine)) (first : Slice PlaneLine) (b : BoxOf) → IsNormal start end continues slices → first ≡ get_or slices 0 first → b ≡ covered (slice_box first) slices → IsBoxOf slices b
is_box_of continues [] first b normal e is = absurd (normal.some refl)
is_box_of continues (s ∷ rest) first b normal e is =
    let all = s ∷ rest in
    let o : IsRisingInTime start end all = ordered start end continues all normal.chained in
    let whole : IsBoxOf all (covered (slice_box s) all) = record {
      sound = covered_is_box (slice_box s) all (slice_whole s) (slice_is_box s o.0);
      whole = covered_whole (slice_box s) all (slice_whole s);
      has = covered_has (slice_box s) all;
      least = λ d f. let a = all_least all d o f in contains_is d (covered (slice_box s) all) (covered_least (slice_box s) d all a.0 a);
    } in
    subst (λ z. IsBoxOf all z) (sym (is ∙ ap (λ (z : Slice PlaneLine). covered (slice_box z) all) e)) whole

-- the cover is `value_box`
pub is_value_box : (slices : List (Slice PlaneLine)) (first : Slice PlaneLine) (b : BoxOf) → slices ≢ [] → first ≡ get_or slices 0 first → b ≡ covered (slice_box first) slices → b ≡ value_box slices
is_value_box [] first b some e is = absurd (some refl)
is_value_box (s ∷ rest) first b some e is = is ∙ ap (λ (z : Slice PlaneLine). covered (slice_box z) (s ∷ rest)) e

-- one more slice
pub next_covered : (over next first : BoxOf) (slices : List (Slice PlaneLine)) (i : ℕ) (s : Slice PlaneLine) → i < length slices → s ≡ get_or slices i s → next ≡ cover over (slice_box s) → covered over (drop i slices) ≡ covered first slices → covered next (drop (i + 1) slices) ≡ covered first slices
next_covered over next first slices i s low here is h =
    ap (λ (z : BoxOf). covered z (drop (i + 1) slices)) is ∙ ap (λ (z : Slice PlaneLine). covered over (z ∷ drop (i + 1) slices)) here ∙ ap (covered over) (sym (drop_more slices i s low)) ∙ h

pub next_whole : (over next : BoxOf) (s : Slice PlaneLine) → is_whole over ≡ true → next ≡ cover over (slice_box s) → is_whole next ≡ true
next_whole over next s h is = rw is (cover_whole over (slice_box s) h (slice_whole s))

-- a moving point has at most one box
pub one_value_box : (slices : List (Slice PlaneLine)) (b c : BoxOf) → IsBoxOf slices b → IsBoxOf slices c → b ≡ c
one_value_box slices b c h k = one_box b c h.sound k.sound (k.least b h.has) (h.least c k.has)

-- the cover is the least box of any value in normal form
pub value_box_least : (slices : List (Slice PlaneLine)) → IsNormal plane_course.start plane_course.end plane_course.continues slices → IsBoxOf slices (value_box slices)
value_box_least [] normal = absurd (normal.some refl)
value_box_least (s ∷ rest) normal = is_box_of plane_course.continues (s ∷ rest) s (value_box (s ∷ rest)) normal refl refl

pub one_own_box : (value : Value) (b c : BoxOf) → HasBox value b → HasBox value c → b ≡ c
one_own_box (Box a) b c h k = h ∙ sym k
one_own_box (MovingPoint a) b c h k = one_value_box a b c h k
one_own_box _ b c h k = absurd h

-- what a call says of a box holds for the box of the value
pub on_box : (value : Value) (found : Option BoxOf) (P : BoxOf → Type 0) (none : Type 0) → OnBox value (λ b. found ≡ Some b) (found ≡ None) → MatchOption found none P → OnBox value P none
on_box (Box a) found P none h k = subst (λ o. MatchOption o none P) h k
on_box (MovingPoint a) found P none h k = (h.0, h.1, subst (λ o. MatchOption o none P) h.2 k)
on_box _ found P none h k = subst (λ o. MatchOption o none P) h k
