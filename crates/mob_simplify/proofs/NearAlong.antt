-- The result of the walk is within d of the slices, at each instant.
use Rattle.std.{specs.Prelude.{◌≡◌, Bool, true, false, cond, not, List, [], ◌∷◌, ◌++◌, map, Option, Some, None, refl}, proofs.Common.{arith, ap, sym, ◌∙◌, subst, append_assoc}}
use Rattle.std.proofs.lemmas.Bool.{and_parts}
use Rattle.mob_ratio.{specs.Ratio.{Ratio, ◌*ℚ◌}, specs.Order.{same}, proofs.Order.{same_exact}}
use Rattle.mob_plane.{specs.Points.{same_point, same_point_exact}, specs.declared.point.Point.{Point}}
use Rattle.mob_span.proofs.FirstOf.{or_else}
use Rattle.mob_lift.proofs.Runs.{value_at-append}
use Rattle.mob_slice.{specs.Lines.{plane_value_of}, specs.Slices.{value_at}, specs.declared.line.PlaneLine.{PlaneLine}, specs.declared.slice.Slice.{Slice}}
use Rattle.mob_simplify.{specs.Breaks.{start_of, end_of, passes_within}, specs.Runs.{GoesOn, last_slice, IsChain}, specs.Thinned.{AreNear}}
use Rattle.mob_simplify.{specs.Walk.{continues_run, stays, leg_over, legs_along, all_legs}, proofs.Chains.{IsStretch, stretch_near}}

-- ---- the meaning of the test
pub goes_on_is : (s r : Slice PlaneLine) → continues_run s r ≡ true → GoesOn s r
unfolding continues_run
goes_on_is s r h =
    let k : same s.span.upper r.span.lower ≡ true = grind (arith, h) in
    let q : same_point s.course.to r.course.from ≡ true = grind (arith, h) in
    let i : r.span.lower_inc ≡ true = grind (arith, h) in
    let j : s.span.upper_inc ≡ false = grind (arith, h) in
    record {
      first_long = grind (arith, h);
      next_long = grind (arith, h);
      meets = record { at_one = (same_exact s.span.upper r.span.lower).0 k; in_one = j ∙ sym (ap not i) };
      held = i;
      level = (same_point_exact s.course.to r.course.from).0 q;
    }

pub is_goes_on : (s r : Slice PlaneLine) → GoesOn s r → continues_run s r ≡ true
unfolding continues_run
is_goes_on s r g =
    let k : same s.span.upper r.span.lower ≡ true = (same_exact s.span.upper r.span.lower).1 g.meets.at_one in
    let q : same_point s.course.to r.course.from ≡ true = (same_point_exact s.course.to r.course.from).1 g.level in
    let i = g.held in
    let j : s.span.upper_inc ≡ false = g.meets.in_one ∙ ap not i in
    let a = g.first_long in
    let b = g.next_long in
    grind (arith, k, q, i, j, a, b)

-- ---- one more slice
pub last_more : (s : Slice PlaneLine) (more : List (Slice PlaneLine)) (r : Slice PlaneLine) → last_slice s (more ++ r ∷ []) ≡ r
last_more s [] r = refl
last_more s (q ∷ more) r = last_more q more r

pub starts_more : (more : List (Slice PlaneLine)) (r : Slice PlaneLine) → map start_of (more ++ r ∷ []) ≡ map start_of more ++ start_of r ∷ []
starts_more [] r = refl
starts_more (q ∷ more) r = ap (λ z. start_of q ∷ z) (starts_more more r)

pub chain_more : (s : Slice PlaneLine) (more : List (Slice PlaneLine)) (r : Slice PlaneLine) → IsChain s more → GoesOn (last_slice s more) r → IsChain s (more ++ r ∷ [])
chain_more s [] r c g = (g, tt)
chain_more s (q ∷ more) r c g = (c.0, chain_more q more r c.1 g)

pub stretch_more : (d : Ratio) (s : Slice PlaneLine) (more : List (Slice PlaneLine)) (r : Slice PlaneLine) → IsStretch d s more → stays d s (map start_of more ++ start_of r ∷ []) (last_slice s more) r ≡ true → IsStretch d s (more ++ r ∷ [])
stretch_more d s more r h e =
    let k = and_parts (continues_run (last_slice s more) r) (passes_within d (start_of s) (map start_of more ++ start_of r ∷ []) (end_of r)) e in
    record {
      chain = chain_more s more r h.chain (goes_on_is (last_slice s more) r k.0);
      passed = rw (starts_more more r, last_more s more r) k.1;
    }

pub stretch_one : (d : Ratio) (r : Slice PlaneLine) → IsStretch d r []
stretch_one d r = record { chain = tt; passed = refl }

-- the legs of one more slice
pub legs_more : (d : Ratio) (s : Slice PlaneLine) (more : List (Slice PlaneLine)) (r : Slice PlaneLine) (rest : List (Slice PlaneLine)) → legs_along d s (map start_of (more ++ r ∷ [])) (last_slice s (more ++ r ∷ [])) rest ≡ legs_along d s (map start_of more ++ start_of r ∷ []) r rest
legs_more d s more r rest = ap (λ z. legs_along d s z (last_slice s (more ++ r ∷ [])) rest) (starts_more more r) ∙ ap (λ z. legs_along d s (map start_of more ++ start_of r ∷ []) z rest) (last_more s more r)

-- ---- nearness
joint_near : (D : Ratio) (b : Bool) (x : Point) (y p q : Option Point) → AreNear D (cond b (Some x) None) y → AreNear D p q → AreNear D (cond b (Some x) p) (or_else y q)
joint_near D true x None p q h k = absurd h
joint_near D true x (Some y) p q h k = h
joint_near D false x None p q h k = k
joint_near D false x (Some y) p q h k = absurd h

module _ (d t : Ratio) where
  abbrev At : List (Slice PlaneLine) → Option Point
  At slices = value_at plane_value_of slices t

  leg_joins : (s : Slice PlaneLine) (more legs rest : List (Slice PlaneLine)) → IsStretch d s more → AreNear (d *ℚ d) (At legs) (At rest) → AreNear (d *ℚ d) (At (leg_over s (last_slice s more) ∷ legs)) (At (s ∷ more ++ rest))
  leg_joins s more legs rest h k =
      subst (λ z. AreNear (d *ℚ d) (At (leg_over s (last_slice s more) ∷ legs)) z) (sym (value_at-append plane_value_of (s ∷ more) rest t))
      (joint_near (d *ℚ d) _ _ (At (s ∷ more)) (At legs) (At rest) (stretch_near d s more h t) k)

  step_near : (s : Slice PlaneLine) (more : List (Slice PlaneLine)) (r : Slice PlaneLine) (rest : List (Slice PlaneLine)) → IsStretch d s more
      → (IsStretch d s (more ++ r ∷ []) → AreNear (d *ℚ d) (At (legs_along d s (map start_of (more ++ r ∷ [])) (last_slice s (more ++ r ∷ [])) rest)) (At (s ∷ (more ++ r ∷ []) ++ rest)))
      → AreNear (d *ℚ d) (At (legs_along d r [] r rest)) (At (r ∷ rest))
      → (b : Bool) → stays d s (map start_of more ++ start_of r ∷ []) (last_slice s more) r ≡ b
      → AreNear (d *ℚ d) (At (cond b (legs_along d s (map start_of more ++ start_of r ∷ []) r rest) (leg_over s (last_slice s more) ∷ legs_along d r [] r rest))) (At (s ∷ more ++ r ∷ rest))
  step_near s more r rest h on new true e =
      subst (λ z. AreNear (d *ℚ d) (At z) (At (s ∷ more ++ r ∷ rest))) (legs_more d s more r rest)
      (subst (λ z. AreNear (d *ℚ d) (At (legs_along d s (map start_of (more ++ r ∷ [])) (last_slice s (more ++ r ∷ [])) rest)) (At (s ∷ z))) (append_assoc more (r ∷ []) rest)
      (on (stretch_more d s more r h e)))
  step_near s more r rest h on new false e = leg_joins s more (legs_along d r [] r rest) (r ∷ rest) h new

  pub near_along : (s : Slice PlaneLine) (more rest : List (Slice PlaneLine)) → IsStretch d s more → AreNear (d *ℚ d) (At (legs_along d s (map start_of more) (last_slice s more) rest)) (At (s ∷ more ++ rest))
  near_along s more [] h = leg_joins s more [] [] h tt
  near_along s more (r ∷ rest) h =
      step_near s more r rest h (λ k. near_along s (more ++ r ∷ []) rest k) (near_along r [] rest (stretch_one d r)) (stays d s (map start_of more ++ start_of r ∷ []) (last_slice s more) r) refl

  pub all_near : (slices : List (Slice PlaneLine)) → AreNear (d *ℚ d) (At (all_legs d slices)) (At slices)
  all_near [] = tt
  all_near (s ∷ rest) = near_along s [] rest (stretch_one d s)
