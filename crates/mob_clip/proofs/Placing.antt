-- The functions of edges with their roots.
use Rattle.std.specs.Prelude.{◌≡◌, [], ◌∷◌}
use Rattle.mob_frac.specs.Formula.{AllFit}
use Rattle.mob_span.specs.Span.{SpanOf}
use Rattle.mob_slice.proofs.Cuts.{all_both}
use Rattle.mob_cells.{specs.declared.signs.Placed.{Placed}, specs.Roots.{root_parts, roots_parts}}
use Rattle.mob_clip.{specs.declared.sides.EdgeEnds.{EdgeEnds}, specs.declared.roots.EdgePlaced.{EdgePlaced}, specs.Roots.{place, place_edge, listed_ends}}

pub placed_all : (s : SpanOf) (g : EdgeEnds) (a b c d e : Placed) → (a ≡ place s g.turn) × AllFit (root_parts s g.turn) → (b ≡ place s g.x_a) × AllFit (root_parts s g.x_a) → (c ≡ place s g.x_b) × AllFit (root_parts s g.x_b) → (d ≡ place s g.y_a) × AllFit (root_parts s g.y_a) → (e ≡ place s g.y_b) × AllFit (root_parts s g.y_b)
    → (◌≡◌ {A = EdgePlaced} (record { turn = a; x_a = b; x_b = c; y_a = d; y_b = e }) (place_edge s g)) × AllFit (roots_parts s (listed_ends g))
placed_all s g a b c d e ha hb hc hd he = (
  (λ i. record { turn = ha.0 i; x_a = hb.0 i; x_b = hc.0 i; y_a = hd.0 i; y_b = he.0 i }),
  all_both (root_parts s g.turn) (roots_parts s (g.x_a ∷ g.x_b ∷ g.y_a ∷ g.y_b ∷ [])) ha.1 (all_both (root_parts s g.x_a) (roots_parts s (g.x_b ∷ g.y_a ∷ g.y_b ∷ [])) hb.1 (all_both (root_parts s g.x_b) (roots_parts s (g.y_a ∷ g.y_b ∷ [])) hc.1 (all_both (root_parts s g.y_a) (roots_parts s (g.y_b ∷ [])) hd.1 (all_both (root_parts s g.y_b) [] he.1 tt)))),
)
