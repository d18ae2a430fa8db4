-- A coordinate of a moving point, slice by slice.
use Rattle.std.{specs.Prelude.{◌≡◌, ◌≢◌, Bool, true, false, cond, List, [], ◌∷◌, ◌++◌, map, Some, option_map, refl, ℕ, ◌≤◌, length}, proofs.Common.{ap, sym, ◌∙◌, append-nil, drop}}
use Rattle.std.proofs.lemmas.List.{drop_all}
use Rattle.mob_ratio.{specs.Ratio.{Ratio}, specs.Line.{line_at}}
use Rattle.mob_span.specs.Span.{has}
use Rattle.mob_plane.specs.declared.point.Point.{Point}
use Rattle.mob_slice.{specs.Lines.{line_value_of, plane_value_of}, specs.Slices.{OfHead, IsClearOf, IsRisingInTime, value_at}, specs.declared.line.Line.{Line}}
use Rattle.mob_slice.{specs.declared.line.PlaneLine.{PlaneLine}, specs.declared.slice.Slice.{Slice}}
use Rattle.mob_restrict.{specs.declared.coordinates.Axis.{Axis}, specs.declared.coordinates.Axis.TheVariants.{X, Y}, specs.Coordinates.{coordinate_of, coordinate_line}}

abbrev plane_start : PlaneLine → Point
plane_start c = c.from

abbrev plane_end : PlaneLine → Point
plane_end c = c.to

abbrev line_start : Line → Ratio
line_start c = c.from

abbrev line_end : Line → Ratio
line_end c = c.to

coordinate_head : (axis : Axis) (s : Slice PlaneLine) (v : List (Slice PlaneLine)) → OfHead IsClearOf s v → OfHead IsClearOf (coordinate_line axis s) (map (coordinate_line axis) v)
coordinate_head axis s [] h = tt
coordinate_head axis s (r ∷ v) h = h

-- the lines of a coordinate have the same spans
pub coordinate_ordered : (axis : Axis) (v : List (Slice PlaneLine)) → IsRisingInTime plane_start plane_end v → IsRisingInTime line_start line_end (map (coordinate_line axis) v)
coordinate_ordered axis [] h = tt
coordinate_ordered axis (s ∷ v) h = (record { some = h.0.some; level = λ n. ap (coordinate_of axis) (h.0.level n) }, coordinate_head axis s v h.1, coordinate_ordered axis v h.2)

on_line : (axis : Axis) (c : PlaneLine) (l u t : Ratio) → line_at (coordinate_of axis c.from) (coordinate_of axis c.to) l u t ≡ coordinate_of axis (plane_value_of c l u t)
on_line X c l u t = refl
on_line Y c l u t = refl

-- and have at each instant the coordinate of the point there
pub coordinate_at : (axis : Axis) (v : List (Slice PlaneLine)) (t : Ratio) → value_at line_value_of (map (coordinate_line axis) v) t ≡ option_map (coordinate_of axis) (value_at plane_value_of v t)
coordinate_at axis [] t = refl
coordinate_at axis (s ∷ v) t =
    ap (λ z. cond (has s.span t) (Some z) (value_at line_value_of (map (coordinate_line axis) v) t)) (on_line axis s.course s.span.lower s.span.upper t)
    ∙ ap (λ z. cond (has s.span t) (Some (coordinate_of axis (plane_value_of s.course s.span.lower s.span.upper t))) z) (coordinate_at axis v t)
    ∙ by (has s.span t)
  where
    by : (b : Bool) → cond b (Some (coordinate_of axis (plane_value_of s.course s.span.lower s.span.upper t))) (option_map (coordinate_of axis) (value_at plane_value_of v t)) ≡ option_map (coordinate_of axis) (cond b (Some (plane_value_of s.course s.span.lower s.span.upper t)) (value_at plane_value_of v t))
    by true = refl
    by false = refl

pub not_empty : (axis : Axis) (v : List (Slice PlaneLine)) → v ≢ [] → map (coordinate_line axis) v ≢ []
not_empty axis [] h = λ e. h refl
not_empty axis (s ∷ v) h = λ e. cc

-- at the end of the walk, all lines are made
pub all_lines : (axis : Axis) (v w : List (Slice PlaneLine)) (o : List (Slice Line)) (i : ℕ) → v ≡ w → length v ≤ i → o ++ map (coordinate_line axis) (drop i v) ≡ map (coordinate_line axis) v → o ≡ map (coordinate_line axis) w
all_lines axis v w o i e h k =
    let none : drop i v ≡ [] = drop_all i v h in
    let all : o ++ [] ≡ map (coordinate_line axis) v = ap (λ z. o ++ map (coordinate_line axis) z) (sym none) ∙ k in
    sym (append-nil o) ∙ all ∙ ap (map (coordinate_line axis)) e
