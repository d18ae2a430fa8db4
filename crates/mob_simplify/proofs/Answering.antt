-- The result of the walk over a normal value, and its properties.
use Rattle.std.{specs.Prelude.{◌≡◌, true, List, [], Option, Some, None, Result, refl}, proofs.Common.{ap, sym, ◌∙◌, subst}}
use Rattle.mob_ratio.{specs.Ratio.{Ratio, ◌*ℚ◌}, specs.Order.{up_to}, specs.Sign.{nil}}
use Rattle.mob_plane.specs.declared.point.Point.{Point}
use Rattle.mob_lift.proofs.Unique.{unique}
use Rattle.mob_slice.{specs.Entries.{IsJudged}, specs.Modes.{by_mode}, specs.declared.mode.Mode.{Mode}, specs.Lines.{plane_value_of, plane_continued}, specs.PlaneLaws.{plane_laws}, specs.Slices.{value_at, IsNormal}}
use Rattle.mob_slice.{specs.declared.line.PlaneLine.{PlaneLine}, specs.declared.slice.Slice.{Slice}, specs.declared.formula.Formula.{Formula}, proofs.Orders.{ordered}}
use Rattle.mob_list.specs.declared.fault.Fault.{Fault}
use Rattle.mob_near.specs.Distances.{distance_squared}
use Rattle.mob_simplify.{specs.Thinned.{IsThin, AreNear, OnRuns, tests_by_mode}, specs.Walk.{all_legs, all_tests}, proofs.Convexity.{one_place}, proofs.Found.{found}, proofs.NearAlong.{all_near}}
use Rattle.mob_simplify.proofs.Ordered.{AreOrderedLines, all_ordered}

abbrev pub IsNormalLines : List (Slice PlaneLine) → Type 0
IsNormalLines v = IsNormal (λ c. c.from) (λ c. c.to) plane_continued v

pub legs_ordered : (d : Ratio) (a : List (Slice PlaneLine)) → IsNormalLines a → AreOrderedLines (all_legs d a)
legs_ordered d a n = all_ordered d a (ordered (λ c. c.from) (λ c. c.to) plane_continued a n.chained)

abbrev pub At : List (Slice PlaneLine) → Ratio → Option Point
At v t = value_at plane_value_of v t

-- a value with the same instants and values has the same properties
pub is_thin : (d : Ratio) (a thin : List (Slice PlaneLine)) → IsNormalLines thin → ((t : Ratio) → At thin t ≡ At (all_legs d a) t) → IsThin d a thin
is_thin d a thin n same = let f = found d a in record { runs = f.runs; of = f.of; normal = n; same = λ t. same t ∙ ap (λ z. At z t) (sym f.legs) }

pub is_near : (d : Ratio) (a thin : List (Slice PlaneLine)) → ((t : Ratio) → At thin t ≡ At (all_legs d a) t) → (t : Ratio) → AreNear (d *ℚ d) (At thin t) (At a t)
is_near d a thin same t = subst (λ z. AreNear (d *ℚ d) z (At a t)) (sym (same t)) (all_near d t a)

-- if the distance is 0, two near values are equal
near_one : (D : Ratio) (x y : Option Point) → D ≡ nil → AreNear D x y → x ≡ y
near_one D None None e h = refl
near_one D (Some x) (Some y) e h = ap Some (one_place x y (subst (λ z. up_to (distance_squared x y) z ≡ true) e h))
near_one D None (Some y) e h = absurd h
near_one D (Some x) None e h = absurd h

pub is_same : (d : Ratio) (a thin : List (Slice PlaneLine)) → d *ℚ d ≡ nil → IsNormalLines a → IsNormalLines thin → ((t : Ratio) → AreNear (d *ℚ d) (At thin t) (At a t)) → thin ≡ a
is_same d a thin e n m near = unique plane_laws thin a m.chained n.chained (λ t. near_one (d *ℚ d) (At thin t) (At a t) e (near t))

pub is_judged : {V : Type 0} (mode : Mode) (d : Ratio) (a : List (Slice PlaneLine)) (r : Result V (Fault Formula)) → IsJudged (by_mode mode (all_tests d a) []) r → OnRuns d a (λ runs. IsJudged (tests_by_mode mode d runs) r)
is_judged mode d a r h = let f = found d a in (f.runs, f.of, subst (λ z. IsJudged (by_mode mode z []) r) (sym f.tests) h)
