-- A moving point and edges: its tally by their signs says whether it is inside.
use Rattle.std.{specs.Prelude.{◌≡◌, Bool, true, List, [], ◌∷◌, map, None, Result, Ok, Err, MatchResult, refl}, specs.List.{AllByRecursion}, proofs.Common.{ap, sym, ◌∙◌}}
use Rattle.mob_ratio.{specs.Ratio.{Ratio, ◌-ℚ◌}, specs.Line.{line_at}, specs.Sign.{sign_of}}
use Rattle.mob_span.specs.Span.{has}
use Rattle.mob_plane.{specs.declared.point.Point.{Point}, specs.EdgeWise.{signs_at, signs_to}, specs.declared.edges.Tally.{Tally}, proofs.TurnsAlong.{turn-line, line_at-from}}
use Rattle.mob_slice.{specs.Slices.{IsSound}, specs.Cut.{slice_value}, specs.Lines.{plane_value_of}, specs.Entries.{Entry, IsFirst}, specs.declared.slice.Slice.{Slice}}
use Rattle.mob_slice.{specs.declared.line.PlaneLine.{PlaneLine}, specs.OnPiece.{AreKeptOn, IsKeptBy}, specs.declared.formula.Formula.{Formula}, proofs.OnOnePiece.{kept_same}}
use Rattle.mob_list.{specs.declared.fault.Fault.{Fault}, specs.declared.fault.Fault.TheVariants.{NoMemory}}
use Rattle.mob_cells.specs.Restricted.{kept_value}
use Rattle.mob_clip.{specs.declared.roots.EdgePlaced.{EdgePlaced}, specs.Roots.{placed_edge, IsPlacedEdge}, specs.Signs.{signs_on, edge_tally, tally_all}, specs.Pieces.{is_known_in}}
use Rattle.mob_clip.{specs.Polygons.{is_inside_edges}, proofs.Knowing.{known_inside}, proofs.Judging.{are_placed, level_ways, ways, placed_same}}

from_sign : (x0 x1 a l u t : Ratio) → sign_of (line_at (x0 -ℚ a) (x1 -ℚ a) l u t) ≡ sign_of (line_at x0 x1 l u t -ℚ a)
from_sign x0 x1 a l u t = ap sign_of (sym (line_at-from x0 x1 a l u t))

-- the signs of the functions of an edge are those of the position
signs_along : (s : Slice PlaneLine) (e : Point × Point) (t : Ratio) → signs_on s.span t (placed_edge s e) ≡ signs_at (slice_value plane_value_of s t) e.0 e.1
signs_along s e t =
    let p = s.course.from in
    let q = s.course.to in
    let l = s.span.lower in
    let u = s.span.upper in
    λ i. record {
      turn = ap sign_of (sym (turn-line e.0 e.1 p q l u t)) i;
      x_a = from_sign p.x q.x e.0.x l u t i;
      x_b = from_sign p.x q.x e.1.x l u t i;
      y_a = from_sign p.y q.y e.0.y l u t i;
      y_b = from_sign p.y q.y e.1.y l u t i;
    }

tallies_along : (s : Slice PlaneLine) (es : List (Point × Point)) (t : Ratio) → map (λ g. edge_tally (signs_on s.span t g)) (map (placed_edge s) es) ≡ map edge_tally (signs_to es (slice_value plane_value_of s t))
tallies_along s [] t = refl
tallies_along s (e ∷ es) t = ap (λ z. edge_tally z ∷ map (λ g. edge_tally (signs_on s.span t g)) (map (placed_edge s) es)) (signs_along s e t) ∙ ap (λ z. edge_tally (signs_at (slice_value plane_value_of s t) e.0 e.1) ∷ z) (tallies_along s es t)

pub inside_along : (s : Slice PlaneLine) (es : List (Point × Point)) (ps : List EdgePlaced) (t : Ratio) (k : Tally) → ps ≡ map (placed_edge s) es → k ≡ tally_all (map (λ g. edge_tally (signs_on s.span t g)) ps) → is_known_in k ≡ is_inside_edges es (slice_value plane_value_of s t)
inside_along s es ps t k e h = ap is_known_in (h ∙ ap (λ z. tally_all (map (λ g. edge_tally (signs_on s.span t g)) z)) e ∙ ap tally_all (tallies_along s es t)) ∙ known_inside (signs_to es (slice_value plane_value_of s t))

pub placed_are : (s : Slice PlaneLine) (es : List (Point × Point)) (ps : List EdgePlaced) → IsSound (λ c. c.from) (λ c. c.to) s → ps ≡ map (placed_edge s) es → AllByRecursion (IsPlacedEdge s.span) ps
placed_are s es ps sound e = are_placed s.span (ways es s sound) ps (e ∙ sym (placed_same es s sound)) (level_ways es s sound (ways es s sound) refl)

-- the parts kept by the tally are those kept by membership
pub edges_kept : {V : Type 0} (items : V → List (Slice PlaneLine)) (r : Result V (Fault Formula)) (want : Bool) (s : Slice PlaneLine) (es : List (Point × Point)) (ps : List EdgePlaced) (known : Ratio → Tally) (entries : List Entry) → ps ≡ map (placed_edge s) es → ((t : Ratio) → has s.span t ≡ true → known t ≡ tally_all (map (λ g. edge_tally (signs_on s.span t g)) ps)) → IsFirst entries None
    → MatchResult r (λ v. AreKeptOn plane_value_of (λ c. c.from) (λ c. c.to) (λ t. kept_value want (is_known_in (known t)) (slice_value plane_value_of s t)) s.span (items v)) (λ e. e ≡ NoMemory)
    → IsKeptBy plane_value_of (λ c. c.from) (λ c. c.to) items (λ t. kept_value want (is_inside_edges es (slice_value plane_value_of s t)) (slice_value plane_value_of s t)) s.span entries r
edges_kept items (Ok v) want s es ps known entries e k f h = (kept_same plane_value_of (λ c. c.from) (λ c. c.to) (λ t. kept_value want (is_known_in (known t)) (slice_value plane_value_of s t)) (λ t. kept_value want (is_inside_edges es (slice_value plane_value_of s t)) (slice_value plane_value_of s t)) s.span (items v) (λ t i. ap (λ b. kept_value want b (slice_value plane_value_of s t)) (inside_along s es ps t (known t) e (k t i))) h, f)
edges_kept items (Err x) want s es ps known entries e k f h = rw h tt
