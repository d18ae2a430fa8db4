-- A moving point and a rectangle.
use Rattle.std.{specs.Prelude.{◌≡◌, Bool, false, not, ◌&&◌, List, ◌++◌, Some, Result, refl}, specs.List.{AllByRecursion}, specs.Ordering.{is_lt, is_gt}, proofs.Common.{ap, sym, ◌∙◌, subst, inl, inr}}
use Rattle.mob_ratio.{specs.Ratio.{Ratio, ◌-ℚ◌}, specs.Order.{before, up_to}, specs.Line.{line_at}, specs.Sign.{sign_of}, proofs.Signs.{lt_diff, gt_diff}}
use Rattle.mob_plane.{specs.declared.point.Point.{Point}, proofs.TurnsAlong.{line_at-from}}
use Rattle.mob_frac.specs.Formula.{AllFit}
use Rattle.mob_span.specs.Span.{SpanOf}
use Rattle.mob_slice.{specs.declared.formula.Formula.TheVariants.{F2}, specs.Sides.{at_ends, HasValues}, specs.Cut.{slice_value}, specs.Lines.{plane_value_of, plane_parts_of}}
use Rattle.mob_slice.{specs.Entries.{IsFirst, IsPartFault}, specs.declared.slice.Slice.{Slice}, specs.declared.line.PlaneLine.{PlaneLine}, specs.OnPiece.{IsKeptBy}}
use Rattle.mob_slice.{specs.declared.formula.Formula.{Formula}, proofs.OnOnePiece.{kept_behind}}
use Rattle.mob_list.{specs.Faults.{OnCause}, specs.declared.fault.Fault.{Fault}, specs.declared.fault.Fault.TheVariants.{Because, NoMemory}}
use Rattle.mob_cells.{specs.declared.linear.Ends.{Ends}, specs.Roots.{IsLevel}, specs.Cells.{signs_of}, specs.Kept.{entries_of_cuts}, specs.Restricted.{kept_value}}
use Rattle.mob_stbox.{specs.declared.area.Area.{Area}, specs.Areas.{in_area}}
use Rattle.mob_clip.specs.Areas.{in_area_by, area_parts, area_ends, entries_of_area}

not_below : (x0 x1 a l u t : Ratio) → not (is_lt (sign_of (line_at (x0 -ℚ a) (x1 -ℚ a) l u t))) ≡ up_to a (line_at x0 x1 l u t)
not_below x0 x1 a l u t = ap (λ z. not (is_lt (sign_of z))) (sym (line_at-from x0 x1 a l u t)) ∙ ap not (lt_diff (line_at x0 x1 l u t) a)

not_above : (x0 x1 a l u t : Ratio) → not (is_gt (sign_of (line_at (x0 -ℚ a) (x1 -ℚ a) l u t))) ≡ up_to (line_at x0 x1 l u t) a
not_above x0 x1 a l u t = ap (λ z. not (is_gt (sign_of z))) (sym (line_at-from x0 x1 a l u t)) ∙ ap not (gt_diff (line_at x0 x1 l u t) a)

four : (a b c d a' b' c' d' : Bool) → a ≡ a' → b ≡ b' → c ≡ c' → d ≡ d' → (a && b && (c && d)) ≡ (a' && b' && (c' && d'))
four a b c d a' b' c' d' p q r s = rw (p, q, r, s) refl

by_sides : (a : Area) (c : PlaneLine) (r : SpanOf) (t : Ratio) → in_area_by (signs_of r (area_ends a c.from c.to) t) ≡ in_area a (plane_value_of c r.lower r.upper t)
by_sides a c r t = four _ _ _ _ _ _ _ _ (not_below c.from.x c.to.x a.xmin r.lower r.upper t) (not_above c.from.x c.to.x a.xmax r.lower r.upper t) (not_below c.from.y c.to.y a.ymin r.lower r.upper t) (not_above c.from.y c.to.y a.ymax r.lower r.upper t)

sides_level : (a : Area) (r : SpanOf) (p q : Point) → (before r.lower r.upper ≡ false → p ≡ q) → AllByRecursion (IsLevel r) (area_ends a p q)
sides_level a r p q h = (λ n. ap (λ (z : Point). z.x -ℚ a.xmin) (h n), (λ n. ap (λ (z : Point). z.x -ℚ a.xmax) (h n), (λ n. ap (λ (z : Point). z.y -ℚ a.ymin) (h n), (λ n. ap (λ (z : Point). z.y -ℚ a.ymax) (h n), tt))))

module _ (a : Area) (s part : Slice PlaneLine) (h : HasValues plane_value_of (λ c. c.from) (λ c. c.to) (slice_value plane_value_of s) part.span part) where
  same_parts : area_parts a part.course.from ++ area_parts a part.course.to ≡ at_ends (λ t. area_parts a (slice_value plane_value_of s t)) part.span
  same_parts = ap (λ p. area_parts a p ++ area_parts a part.course.to) h.from ∙ ap (λ q. area_parts a (slice_value plane_value_of s part.span.lower) ++ area_parts a q) h.to

  same_ends : area_ends a part.course.from part.course.to ≡ area_ends a (slice_value plane_value_of s part.span.lower) (slice_value plane_value_of s part.span.upper)
  same_ends = ap (λ p. area_ends a p part.course.to) h.from ∙ ap (λ q. area_ends a (slice_value plane_value_of s part.span.lower) q) h.to

  pub sides_fail : (f : Fault Formula) → IsPartFault F2 (area_parts a part.course.from ++ area_parts a part.course.to) f → OnCause (λ g. IsFirst (entries_of_area a s part.span) (Some g)) f
  sides_fail (Because f) k = inr (subst (λ z. ¬ AllFit z) same_parts k.1, ap Some k.0)
  sides_fail NoMemory k = tt

  pub level_sides : (fs : List Ends) → fs ≡ area_ends a part.course.from part.course.to → AllByRecursion (IsLevel part.span) fs
  level_sides fs e = rw e (sides_level a part.span part.course.from part.course.to h.sound.level)

  pub area_kept : {V : Type 0} (items : V → List (Slice PlaneLine)) (want : Bool) (fs : List Ends) (q : Result V (Fault Formula)) → fs ≡ area_ends a part.course.from part.course.to → AllFit (area_parts a part.course.from ++ area_parts a part.course.to)
      → IsKeptBy plane_value_of (λ c. c.from) (λ c. c.to) items (λ t. kept_value want (in_area_by (signs_of part.span fs t)) (slice_value plane_value_of s t)) part.span (entries_of_cuts plane_parts_of s part.span fs) q
      → IsKeptBy plane_value_of (λ c. c.from) (λ c. c.to) items (λ t. kept_value want (in_area a (slice_value plane_value_of s t)) (slice_value plane_value_of s t)) part.span (entries_of_area a s part.span) q
  area_kept items want fs q e fits m = kept_behind plane_value_of (λ c. c.from) (λ c. c.to) items
      (λ t. kept_value want (in_area_by (signs_of part.span fs t)) (slice_value plane_value_of s t)) (λ t. kept_value want (in_area a (slice_value plane_value_of s t)) (slice_value plane_value_of s t)) part.span (entries_of_area a s part.span) (entries_of_cuts plane_parts_of s part.span fs) q
      (λ t i. ap (λ b. kept_value want b (slice_value plane_value_of s t)) (ap (λ z. in_area_by (signs_of part.span z t)) e ∙ by_sides a part.course part.span t ∙ ap (in_area a) (h.same t i)))
      (λ o k. inl (subst AllFit same_parts fits, subst (λ z. IsFirst (entries_of_cuts plane_parts_of s part.span z) o) (e ∙ same_ends) k)) m
