-- The slices from one kept break to the next, and the straight course that replaces them.
use Rattle.std.{specs.Prelude.{◌≡◌, Bool, true, false, cond, ◌||◌, List, [], ◌∷◌, map, Option, Some, None, refl}, proofs.Common.{arith, sym, subst}, proofs.lemmas.Bool.{and_parts}}
use Rattle.mob_ratio.{specs.Ratio.{Ratio, ◌*ℚ◌}, specs.Order.{before, up_to}, proofs.Order.{before-trans}}
use Rattle.mob_plane.specs.declared.point.Point.{Point}
use Rattle.mob_span.{specs.Span.{SpanOf, has, has_instant}, specs.Neighbours.{Meets}, proofs.SpanLemmas.{has_upto_upper, has_upto_lower, joined_has}}
use Rattle.mob_slice.{specs.Lines.{plane_value_of}, specs.PlaneLaws.{plane_laws}, specs.Slices.{value_at}, specs.declared.line.PlaneLine.{PlaneLine}, specs.declared.slice.Slice.{Slice}}
use Rattle.mob_near.specs.Distances.{distance_squared}
use Rattle.mob_simplify.{specs.Breaks.{start_of, end_of, straight, off_course, passes_within}, specs.Runs.{last_slice, IsChain}, specs.Thinned.{AreNear}, specs.Walk.{leg_over}}
use Rattle.mob_simplify.{specs.declared.breaks.Break.{Break}, proofs.Convexity.{within_part, near_self}}

-- the instants of a chain of slices
abbrev pub span_of : Slice PlaneLine → List (Slice PlaneLine) → SpanOf
span_of s more = (leg_over s (last_slice s more)).span

pub chain_long : (s r : Slice PlaneLine) (more : List (Slice PlaneLine)) → IsChain s (r ∷ more) → before s.span.lower (last_slice r more).span.upper ≡ true
chain_long s r [] c = before-trans s.span.lower s.span.upper r.span.upper c.0.first_long (subst (λ z. before z r.span.upper ≡ true) (sym c.0.meets.at_one) c.0.next_long)
chain_long s r (q ∷ more) c = before-trans s.span.lower s.span.upper (last_slice q more).span.upper c.0.first_long (subst (λ z. before z (last_slice q more).span.upper ≡ true) (sym c.0.meets.at_one) (chain_long r q more c.1))

next_longer : (s r : Slice PlaneLine) (more : List (Slice PlaneLine)) → IsChain s (r ∷ more) → before r.span.lower (last_slice r more).span.upper ≡ true
next_longer s r [] c = c.0.next_long
next_longer s r (q ∷ more) c = chain_long r q more c.1

some_by : (s : SpanOf) → before s.lower s.upper ≡ true → has_instant s ≡ true
some_by s h = grind (arith, h)

-- ---- the straight course k, used from P to N, is near a slice at both ends
module _ (D : Ratio) (k : PlaneLine) (P N : Ratio) (wide : before P N ≡ true) where
  abbrev at_k : Ratio → Point
  at_k t = plane_value_of k P N t

  abbrev IsNearAt : Break → Type 0
  IsNearAt b = up_to (distance_squared (at_k b.instant) b.place) D ≡ true

  -- at the starts of these slices
  abbrev AreNearAt : List (Slice PlaneLine) → Type 0
  AreNearAt [] = Unit {0}
  AreNearAt (r ∷ more) = IsNearAt (start_of r) × AreNearAt more

  slice_near : (s : Slice PlaneLine) → before s.span.lower s.span.upper ≡ true → IsNearAt (start_of s) → IsNearAt (end_of s) → (t : Ratio) (b : Bool) → has s.span t ≡ b → AreNear D (cond b (Some (at_k t)) None) (cond b (Some (plane_value_of s.course s.span.lower s.span.upper t)) None)
  slice_near s long h i t true e = within_part s.span.lower s.span.upper t long k s.course P N D wide (has_upto_lower s.span t e) (has_upto_upper s.span t e) h i
  slice_near s long h i t false e = tt

  either_near : (a b : Bool) (x y : Point) (rest : Option Point) → AreNear D (cond a (Some x) None) (cond a (Some y) None) → AreNear D (cond b (Some x) None) rest → AreNear D (cond (a || b) (Some x) None) (cond a (Some y) rest)
  either_near true b x y rest h i = h
  either_near false b x y rest h i = i

  -- and so is near all of a chain
  chain_near : (s : Slice PlaneLine) (more : List (Slice PlaneLine)) → before s.span.lower s.span.upper ≡ true → IsChain s more → IsNearAt (start_of s) → AreNearAt more → IsNearAt (end_of (last_slice s more)) → (t : Ratio) → AreNear D (cond (has (span_of s more) t) (Some (at_k t)) None) (value_at plane_value_of (s ∷ more) t)
  chain_near s [] long c h hs i t = slice_near s long h i t (has s.span t) refl
  chain_near s (r ∷ more) long c h hs i t =
      let g = c.0 in
      let at_end : IsNearAt (end_of s) = subst (λ z. up_to (distance_squared (at_k z) s.course.to) D ≡ true) (sym g.meets.at_one) (subst (λ z. up_to (distance_squared (at_k r.span.lower) z) D ≡ true) (sym g.level) hs.0) in
      let meets : Meets s.span (span_of r more) = record { at_one = g.meets.at_one; in_one = g.meets.in_one } in
      let both : has (span_of s (r ∷ more)) t ≡ (has s.span t || has (span_of r more) t) = joined_has s.span (span_of r more) t meets (some_by s.span long) (some_by (span_of r more) (next_longer s r more c)) in
      subst (λ z. AreNear D (cond z (Some (at_k t)) None) (value_at plane_value_of (s ∷ r ∷ more) t)) (sym both)
      (either_near (has s.span t) (has (span_of r more) t) (at_k t) (plane_value_of s.course s.span.lower s.span.upper t) (value_at plane_value_of (r ∷ more) t)
      (slice_near s long h at_end t (has s.span t) refl)
      (chain_near r more g.next_long c.1 hs.0 hs.1 i t))

-- if a break passes, the course is near at each start
starts_near : (d : Ratio) (p n : Break) (more : List (Slice PlaneLine)) (wide : before p.instant n.instant ≡ true) → passes_within d p (map start_of more) n ≡ true → AreNearAt (d *ℚ d) (straight p n) p.instant n.instant wide more
starts_near d p n [] wide h = tt
starts_near d p n (r ∷ more) wide h = let k = and_parts (up_to (off_course p n (start_of r)) (d *ℚ d)) (passes_within d p (map start_of more) n) h in (k.0, starts_near d p n more wide k.1)

-- the slices from a kept break on, which all continue the run and pass so far
pub record IsStretch (d : Ratio) (s : Slice PlaneLine) (more : List (Slice PlaneLine)) : Type 0 where
  pub chain : IsChain s more
  pub passed : passes_within d (start_of s) (map start_of more) (end_of (last_slice s more)) ≡ true

single_near : (d : Ratio) (x : Point) (b : Bool) → AreNear (d *ℚ d) (cond b (Some x) None) (cond b (Some x) None)
single_near d x true = near_self d x
single_near d x false = tt

-- the straight course over a stretch is within d of it, on its instants
pub stretch_near : (d : Ratio) (s : Slice PlaneLine) (more : List (Slice PlaneLine)) → IsStretch d s more → (t : Ratio) → AreNear (d *ℚ d) (value_at plane_value_of (leg_over s (last_slice s more) ∷ []) t) (value_at plane_value_of (s ∷ more) t)
stretch_near d s [] h t = single_near d (plane_value_of s.course s.span.lower s.span.upper t) (has s.span t)
stretch_near d s (r ∷ more) h t =
    let l = last_slice r more in
    let k = straight (start_of s) (end_of l) in
    let wide = chain_long s r more h.chain in
    chain_near (d *ℚ d) k s.span.lower l.span.upper wide s (r ∷ more) h.chain.0.first_long h.chain
    (subst (λ z. up_to (distance_squared z s.course.from) (d *ℚ d) ≡ true) (sym (plane_laws.at_lower k s.span.lower l.span.upper)) (near_self d s.course.from))
    (starts_near d (start_of s) (end_of l) (r ∷ more) wide h.passed)
    (subst (λ z. up_to (distance_squared z l.course.to) (d *ℚ d) ≡ true) (sym (plane_laws.at_upper k s.span.lower l.span.upper wide)) (near_self d l.course.to))
    t
