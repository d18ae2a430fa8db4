-- A point inside closed rings is in each area that contains their corners.
use Rattle.std.{specs.Prelude.{All, suc, length, slice_get, ◌-◌}, specs.List.{AllByRecursion, list_any}}
use Rattle.std.{proofs.Common.{◌≡◌, Bool, true, false, not, ◌&&◌, ◌||◌, List, [], ◌∷◌, ◌++◌, Option, Some, arith, refl, sym, ap, ◌∙◌, subst, inl, inr, true≢false}, proofs.lemmas.Bool.{not-false, or_parts}}
use Rattle.mob_list.proofs.Each.{each_on, each_parts}
use Rattle.mob_ratio.{specs.Ratio.{Ratio, ◌+ℚ◌, ◌-ℚ◌, neg_ℚ, ◌*ℚ◌, ◌<ℚ◌, ◌≤ℚ◌}, specs.Order.{before, up_to}, specs.Sign.{nil}, proofs.IntRing.{linear}, proofs.Clear.{clear1, clear6, cleared}}
use Rattle.mob_ratio.{proofs.Field.{cases_lt, le_lt, lt_le, neg_lt}, proofs.Order.{lt-before, before-lt, up_to-le, before-back, before-from}, proofs.Convex.{mul_lt, mul_le, sub_lt, sub_le, add_lt_le}}
use Rattle.mob_plane.{specs.Corners.{all_points}, specs.EdgeWise.{signs_at, signs_to, is_on, crosses, some_on, odd_cross}}
use Rattle.mob_plane.{specs.Membership.{inside, lies_between, lies_on, is_one_alone, passes_right, crossing_at}, specs.Points.{same_point, same_point_exact}}
use Rattle.mob_plane.{specs.Rings.{edges, all_edges, are_one, is_open_ring, has_open}, specs.Turns.{turn}, specs.declared.point.Point.{Point}, proofs.BySigns.{on_is, right_is, inside_signs}}
use Rattle.mob_plane.proofs.Crossings.{rising_crossing, falling_crossing}
use Rattle.mob_stbox.{specs.Areas.{InArea}, specs.declared.area.Area.{Area}}

-- ---- edges on one side of a point

-- the turn, from the positions of a and b relative to p: p is below a and not below b, to the left
-- or to the right of both
turn_left : (ax ay bx by px py : Ratio) → (bx -ℚ ax) *ℚ (py -ℚ ay) -ℚ (by -ℚ ay) *ℚ (px -ℚ ax) ≡ neg_ℚ ((bx -ℚ px) *ℚ (ay -ℚ py) +ℚ (py -ℚ by) *ℚ (ax -ℚ px))
turn_left = clear6 _ (λ D a b c d e f z. simp cleared (omega (arith, linear)))

turn_right : (ax ay bx by px py : Ratio) → (bx -ℚ ax) *ℚ (py -ℚ ay) -ℚ (by -ℚ ay) *ℚ (px -ℚ ax) ≡ (px -ℚ bx) *ℚ (ay -ℚ py) +ℚ (py -ℚ by) *ℚ (px -ℚ ax)
turn_right = clear6 _ (λ D a b c d e f z. simp cleared (omega (arith, linear)))

turn_back : (ax ay bx by px py : Ratio) → (bx -ℚ ax) *ℚ (py -ℚ ay) -ℚ (by -ℚ ay) *ℚ (px -ℚ ax) ≡ neg_ℚ ((ax -ℚ bx) *ℚ (py -ℚ by) -ℚ (ay -ℚ by) *ℚ (px -ℚ bx))
turn_back = clear6 _ (λ D a b c d e f z. simp cleared (omega (arith, linear)))

lt_of : (a : Ratio) → nil <ℚ a → nil ≤ℚ a
lt_of = clear1 _ (λ D x p h. let h' = simp cleared at h in simp cleared (omega (arith, linear)))

neg_below : (a : Ratio) → nil <ℚ a → neg_ℚ a <ℚ nil
neg_below = clear1 _ (λ D x p h. let h' = simp cleared at h in simp cleared (omega (arith, linear)))

-- a is above p
abbrev above : Point → Point → Bool
above p a = before p.y a.y

-- a above p, b not; both to the right of p
falls_right : (p a b : Point) → above p a ≡ true → above p b ≡ false → before p.x a.x ≡ true → before p.x b.x ≡ true → before (turn a b p) nil ≡ true
falls_right p a b ua ub la lb =
    let bc = mul_lt (b.x -ℚ p.x) (a.y -ℚ p.y) (sub_lt p.x b.x (before-lt _ _ lb)) (sub_lt p.y a.y (before-lt _ _ ua)) in
    let ea = mul_le (p.y -ℚ b.y) (a.x -ℚ p.x) (sub_le b.y p.y (up_to-le _ _ ub)) (lt_of _ (sub_lt p.x a.x (before-lt _ _ la))) in
    lt-before _ _ (subst (λ z. z <ℚ nil) (sym (turn_left a.x a.y b.x b.y p.x p.y)) (neg_below _ (add_lt_le _ _ bc ea)))

-- a above p, b not; both to the left of p
falls_left : (p a b : Point) → above p a ≡ true → above p b ≡ false → before a.x p.x ≡ true → before b.x p.x ≡ true → before nil (turn a b p) ≡ true
falls_left p a b ua ub la lb =
    let bc = mul_lt (p.x -ℚ b.x) (a.y -ℚ p.y) (sub_lt b.x p.x (before-lt _ _ lb)) (sub_lt p.y a.y (before-lt _ _ ua)) in
    let ea = mul_le (p.y -ℚ b.y) (p.x -ℚ a.x) (sub_le b.y p.y (up_to-le _ _ ub)) (lt_of _ (sub_lt a.x p.x (before-lt _ _ la))) in
    lt-before _ _ (subst (λ z. nil <ℚ z) (sym (turn_right a.x a.y b.x b.y p.x p.y)) (add_lt_le _ _ bc ea))

turned_up : (p a b : Point) → before (turn b a p) nil ≡ true → before nil (turn a b p) ≡ true
turned_up p a b h = lt-before _ _ (subst (λ z. nil <ℚ z) (sym (turn_back a.x a.y b.x b.y p.x p.y)) (neg_lt _ (before-lt _ _ h)))

turned_down : (p a b : Point) → before nil (turn b a p) ≡ true → before (turn a b p) nil ≡ true
turned_down p a b h = lt-before _ _ (subst (λ z. z <ℚ nil) (sym (turn_back a.x a.y b.x b.y p.x p.y)) (neg_below _ (before-lt _ _ h)))

by_height : (ya yb far : Bool) → (ya ≡ true → yb ≡ false → far ≡ true) → (yb ≡ true → ya ≡ false → far ≡ true) → (is_one_alone ya yb && far) ≡ is_one_alone ya yb
by_height true true far h k = refl
by_height true false far h k = h refl refl
by_height false true far h k = k refl refl
by_height false false far h k = refl

never_far : (ya yb far : Bool) → (ya ≡ true → yb ≡ false → far ≡ false) → (yb ≡ true → ya ≡ false → far ≡ false) → (is_one_alone ya yb && far) ≡ false
never_far true true far h k = refl
never_far true false far h k = h refl refl
never_far false true far h k = k refl refl
never_far false false far h k = refl

-- an edge to the right of p passes if it crosses the height of p
cross_right : (p a b : Point) → before p.x a.x ≡ true → before p.x b.x ≡ true → passes_right p (a, b) ≡ is_one_alone (above p a) (above p b)
cross_right p a b la lb =
    by_height (above p a) (above p b) (before p.x (crossing_at (a, b) p.y))
    (λ ua ub. falling_crossing a b p (before-from b.y p.y a.y ub ua) ∙ falls_right p a b ua ub la lb)
    (λ ub ua. rising_crossing a b p (before-from a.y p.y b.y ua ub) ∙ turned_up p a b (falls_right p b a ub ua lb la))

-- an edge to the left of it never does
cross_left : (p a b : Point) → before a.x p.x ≡ true → before b.x p.x ≡ true → passes_right p (a, b) ≡ false
cross_left p a b la lb =
    never_far (above p a) (above p b) (before p.x (crossing_at (a, b) p.y))
    (λ ua ub. falling_crossing a b p (before-from b.y p.y a.y ub ua) ∙ before-back _ _ (falls_left p a b ua ub la lb))
    (λ ub ua. rising_crossing a b p (before-from a.y p.y b.y ua ub) ∙ before-back _ _ (turned_down p a b (falls_left p b a ub ua lb la)))

alone_same : (a b far : Bool) → a ≡ b → (is_one_alone a b && far) ≡ false
alone_same true true far e = refl
alone_same true false far e = absurd cc
alone_same false true far e = absurd cc
alone_same false false far e = refl

cross_level : (p a b : Point) → above p a ≡ above p b → passes_right p (a, b) ≡ false
cross_level p a b e = alone_same (above p a) (above p b) (before p.x (crossing_at (a, b) p.y)) e

-- p is on no edge whose ends are both on one side
between_above : (t s u : Ratio) → before t s ≡ true → before t u ≡ true → lies_between s u t ≡ false
between_above t s u h k = rw (h, k) refl

between_below : (t s u : Ratio) → before s t ≡ true → before u t ≡ true → lies_between s u t ≡ false
between_below t s u h k = two_off (up_to s t) (up_to u t) (up_to t u) (up_to t s) (ap not k) (ap not h)
  where
    two_off : (a c b d : Bool) → b ≡ false → d ≡ false → ((a && b) || (c && d)) ≡ false
    two_off a c b d e f = grind (arith, e, f)

on_x : (s x y : Bool) → x ≡ false → (s && (x && y)) ≡ false
on_x s x y e = grind (arith, e)

on_y : (s x y : Bool) → y ≡ false → (s && (x && y)) ≡ false
on_y s x y e = grind (arith, e)

alone_self : (a : Bool) → is_one_alone a a ≡ false
alone_self true = refl
alone_self false = refl

alone_chain : (a b c : Bool) → is_one_alone (is_one_alone a b) (is_one_alone b c) ≡ is_one_alone a c
alone_chain true true c = refl
alone_chain true false c = refl
alone_chain false true true = refl
alone_chain false true false = refl
alone_chain false false c = refl

alone_assoc : (a b c : Bool) → is_one_alone a (is_one_alone b c) ≡ is_one_alone (is_one_alone a b) c
alone_assoc true true true = refl
alone_assoc true true false = refl
alone_assoc true false c = refl
alone_assoc false b c = refl

or_assoc : (a b c : Bool) → (a || (b || c)) ≡ ((a || b) || c)
or_assoc true b c = refl
or_assoc false b c = refl

-- ---- rings

-- the last point of a ring that begins with a
abbrev last_from : Point → List Point → Point
last_from a [] = a
last_from a (b ∷ rest) = last_from b rest

get_last : (a : Point) (rest : List Point) → slice_get (a ∷ rest) (length rest) ≡ Some (last_from a rest)
get_last a [] = refl
get_last a (b ∷ rest) = get_last b rest

one_point : (a b : Point) (o : Option Point) → o ≡ Some b → not (are_one (Some a) o) ≡ false → a ≡ b
one_point a b o e h = (same_point_exact a b).0 (not-false (same_point a b) (subst (λ z. not (are_one (Some a) z) ≡ false) e h))

ends_at_first : (a : Point) (rest : List Point) → is_open_ring (a ∷ rest) ≡ false → a ≡ last_from a rest
ends_at_first a rest h =
    let e : length (a ∷ rest) - 1 ≡ length rest = omega arith in
    one_point a (last_from a rest) (slice_get (a ∷ rest) (length (a ∷ rest) - 1)) (ap (slice_get (a ∷ rest)) e ∙ get_last a rest) h

some_both : (es fs : List (Point × Point)) (p : Point) → some_on (signs_to (es ++ fs) p) ≡ (some_on (signs_to es p) || some_on (signs_to fs p))
some_both [] fs p = refl
some_both (e ∷ es) fs p = ap (λ z. is_on (signs_at p e.0 e.1) || z) (some_both es fs p) ∙ or_assoc (is_on (signs_at p e.0 e.1)) (some_on (signs_to es p)) (some_on (signs_to fs p))

odd_both : (es fs : List (Point × Point)) (p : Point) → odd_cross (signs_to (es ++ fs) p) ≡ is_one_alone (odd_cross (signs_to es p)) (odd_cross (signs_to fs p))
odd_both [] fs p = refl
odd_both (e ∷ es) fs p = ap (λ z. is_one_alone (crosses (signs_at p e.0 e.1)) z) (odd_both es fs p) ∙ alone_assoc (crosses (signs_at p e.0 e.1)) (odd_cross (signs_to es p)) (odd_cross (signs_to fs p))

-- Off: the side of p on which a corner is
module _ (p : Point) (Off : Point → Type 0) (on : (a b : Point) → Off a → Off b → lies_on p (a, b) ≡ false) where
  on_none : (ring : List Point) → AllByRecursion Off ring → some_on (signs_to (edges ring) p) ≡ false
  on_none [] h = refl
  on_none (a ∷ []) h = refl
  on_none (a ∷ b ∷ rest) h = rw (sym (on_is a b p) ∙ on a b h.0 h.1.0, on_none (b ∷ rest) h.1) refl

  -- no edge passes
  none_cross : ((a b : Point) → Off a → Off b → passes_right p (a, b) ≡ false) → (ring : List Point) → AllByRecursion Off ring → odd_cross (signs_to (edges ring) p) ≡ false
  none_cross none [] h = refl
  none_cross none (a ∷ []) h = refl
  none_cross none (a ∷ b ∷ rest) h = rw (sym (right_is a b p) ∙ none a b h.0 h.1.0) (none_cross none (b ∷ rest) h.1)

  -- an edge passes if one end is above p and the other is not
  all_cross : ((a b : Point) → Off a → Off b → passes_right p (a, b) ≡ is_one_alone (above p a) (above p b)) → (a : Point) (rest : List Point) → AllByRecursion Off (a ∷ rest) → odd_cross (signs_to (edges (a ∷ rest)) p) ≡ is_one_alone (above p a) (above p (last_from a rest))
  all_cross each a [] h = sym (alone_self (above p a))
  all_cross each a (b ∷ rest) h =
      ap (λ z. is_one_alone z (odd_cross (signs_to (edges (b ∷ rest)) p))) (sym (right_is a b p) ∙ each a b h.0 h.1.0)
      ∙ ap (λ z. is_one_alone (is_one_alone (above p a) (above p b)) z) (all_cross each b rest h.1)
      ∙ alone_chain (above p a) (above p b) (above p (last_from b rest))

  even_cross : ((a b : Point) → Off a → Off b → passes_right p (a, b) ≡ is_one_alone (above p a) (above p b)) → (ring : List Point) → is_open_ring ring ≡ false → AllByRecursion Off ring → odd_cross (signs_to (edges ring) p) ≡ false
  even_cross each [] o h = refl
  even_cross each (a ∷ rest) o h = all_cross each a rest h ∙ ap (λ (z : Point). is_one_alone (above p a) (above p z)) (sym (ends_at_first a rest o)) ∙ alone_self (above p a)

  module _ (even : (ring : List Point) → is_open_ring ring ≡ false → AllByRecursion Off ring → odd_cross (signs_to (edges ring) p) ≡ false) where
    nowhere_on : (rings : List (List Point)) → AllByRecursion (AllByRecursion Off) rings → some_on (signs_to (all_edges rings) p) ≡ false
    nowhere_on [] h = refl
    nowhere_on (r ∷ rs) h = some_both (edges r) (all_edges rs) p ∙ rw (on_none r h.0, nowhere_on rs h.1) refl

    nowhere_odd : (rings : List (List Point)) → AllByRecursion (λ r. is_open_ring r ≡ false) rings → AllByRecursion (AllByRecursion Off) rings → odd_cross (signs_to (all_edges rings) p) ≡ false
    nowhere_odd [] o h = refl
    nowhere_odd (r ∷ rs) o h = odd_both (edges r) (all_edges rs) p ∙ rw (even r o.0 h.0, nowhere_odd rs o.1 h.1) refl

    outside : (rings : List (List Point)) → AllByRecursion (λ r. is_open_ring r ≡ false) rings → AllByRecursion (AllByRecursion Off) rings → inside rings p ≡ true → ⊥
    outside rings o h k =
        let e : inside rings p ≡ false = inside_signs rings p ∙ rw (nowhere_on rings h, nowhere_odd rings o h) refl in
        true≢false (sym k ∙ e)

-- ---- all corners

all_is : {X : Type 0} (P : X → Type 0) (xs : List X) → All P xs → AllByRecursion P xs
all_is P [] h = tt
all_is P (x ∷ xs) h = (h 0 x (omega arith), all_is P xs (λ k d lt. h (suc k) d (omega (arith, lt))))

ring_by_ring : (P : Point → Type 0) (rings : List (List Point)) → AllByRecursion P (all_points rings) → AllByRecursion (AllByRecursion P) rings
ring_by_ring P [] h = tt
ring_by_ring P (r ∷ rs) h = let parts = each_parts P r (all_points rs) h in (parts.0, ring_by_ring P rs parts.1)

each_closed : (rings : List (List Point)) → has_open rings ≡ false → AllByRecursion (λ r. is_open_ring r ≡ false) rings
each_closed [] h = tt
each_closed (r ∷ rs) h = let n = or_parts (is_open_ring r) (list_any is_open_ring rs) h in (n.0, each_closed rs n.1)

-- a number that cannot be before another is equal or greater
never_before : (s t : Ratio) → (before t s ≡ true → ⊥) → s ≤ℚ t
never_before s t f = elim (cases_lt t s) [
  | inl l ↦ absurd (f (lt-before t s l))
  | inr r ↦ r
]

pub inside_in : (a : Area) (rings : List (List Point)) (p : Point) → has_open rings ≡ false → All (InArea a) (all_points rings) → inside rings p ≡ true → InArea a p
inside_in a rings p closed all k =
    let o = each_closed rings closed in
    let r = all_is (InArea a) (all_points rings) all in
    let off : (Off : Point → Type 0) → ((q : Point) → InArea a q → Off q) → AllByRecursion (AllByRecursion Off) rings = λ Off f. ring_by_ring Off rings (each_on (InArea a) Off f (all_points rings) r) in
    record {
      from_west = never_before a.xmin p.x (λ w.
          outside p (λ q. before p.x q.x ≡ true) (λ c d lc ld. on_x _ _ _ (between_above p.x c.x d.x lc ld))
          (even_cross p (λ q. before p.x q.x ≡ true) (λ c d lc ld. on_x _ _ _ (between_above p.x c.x d.x lc ld)) (cross_right p))
          rings o (off (λ q. before p.x q.x ≡ true) (λ q i. lt-before p.x q.x (lt_le p.x a.xmin q.x (before-lt _ _ w) i.from_west))) k);
      to_east = never_before p.x a.xmax (λ e.
          outside p (λ q. before q.x p.x ≡ true) (λ c d lc ld. on_x _ _ _ (between_below p.x c.x d.x lc ld))
          (λ ring open_end. none_cross p (λ q. before q.x p.x ≡ true) (λ c d lc ld. on_x _ _ _ (between_below p.x c.x d.x lc ld)) (cross_left p) ring)
          rings o (off (λ q. before q.x p.x ≡ true) (λ q i. lt-before q.x p.x (le_lt q.x a.xmax p.x i.to_east (before-lt _ _ e)))) k);
      from_south = never_before a.ymin p.y (λ s.
          outside p (λ q. before p.y q.y ≡ true) (λ c d lc ld. on_y _ _ _ (between_above p.y c.y d.y lc ld))
          (λ ring open_end. none_cross p (λ q. before p.y q.y ≡ true) (λ c d lc ld. on_y _ _ _ (between_above p.y c.y d.y lc ld)) (λ c d lc ld. cross_level p c d (lc ∙ sym ld)) ring)
          rings o (off (λ q. before p.y q.y ≡ true) (λ q i. lt-before p.y q.y (lt_le p.y a.ymin q.y (before-lt _ _ s) i.from_south))) k);
      to_north = never_before p.y a.ymax (λ n.
          outside p (λ q. before q.y p.y ≡ true) (λ c d lc ld. on_y _ _ _ (between_below p.y c.y d.y lc ld))
          (λ ring open_end. none_cross p (λ q. before q.y p.y ≡ true) (λ c d lc ld. on_y _ _ _ (between_below p.y c.y d.y lc ld)) (λ c d lc ld. cross_level p c d (before-back _ _ lc ∙ sym (before-back _ _ ld))) ring)
          rings o (off (λ q. before q.y p.y ≡ true) (λ q i. lt-before q.y p.y (le_lt q.y a.ymax p.y i.to_north (before-lt _ _ n)))) k);
    }
