-- At each instant one part of a split is defined.
use Rattle.std.{specs.List.{AllByRecursion}, proofs.Common.{◌≡◌, inl, inr, Bool, true, false, List, [], ◌∷◌, refl, sym, ap, subst, ◌∙◌, cond, Option, Some, None}}
use Rattle.mob_ratio.specs.Ratio.{Ratio}
use Rattle.mob_plane.specs.declared.point.Point.{Point}
use Rattle.mob_slice.{specs.Slices.{value_at}, specs.Lines.{plane_value_of}, specs.declared.slice.Slice.{Slice}, specs.declared.line.PlaneLine.{PlaneLine}}
use Rattle.mob_cells.specs.Restricted.{where_wanted, kept_value}
use Rattle.mob_grid.{specs.Tiles.{GridOf, IsGrid, InTile, in_tile, tile_of}, specs.declared.tile.Tile.{Tile}, proofs.Ranges.{tile_has, tile_is, in_tile_exact}}
use Rattle.mob_tile.specs.Split.{IsTilePart, IsSplit, HasTile, HasPartAt}

module _ (g : GridOf) (a : List (Slice PlaneLine)) (t : Ratio) (p : Point) (ok : IsGrid g) where
  found : (parts : List (Tile × List (Slice PlaneLine))) → AllByRecursion (λ q. IsTilePart g a q.0 q.1) parts → HasTile (tile_of g t p) parts → value_at plane_value_of a t ≡ Some p → HasPartAt (tile_of g t p) t p parts
  found [] h i e = i
  found (q ∷ parts) h i e = elim i [
    | inl k ↦ inl (k, h.0.same t ∙ ap (λ z. where_wanted true (in_tile g q.0 t) z) e ∙ ap (λ z. kept_value true z p) ((in_tile_exact g q.0 t p).1 (subst (λ z. InTile g z t p) (sym k) (tile_has g t p ok))))
    | inr k ↦ inr (found parts h.1 k e)
  ]

  pub there : (parts : List (Tile × List (Slice PlaneLine))) → IsSplit g a parts → value_at plane_value_of a t ≡ Some p → HasPartAt (tile_of g t p) t p parts
  there parts h e = found parts h.each (h.all t p e) e

  wanted : (tile : Tile) (o : Option Point) → where_wanted true (in_tile g tile t) o ≡ Some p → (o ≡ Some p) × (in_tile g tile t p ≡ true)
  wanted tile None e = absurd (cc e)
  wanted tile (Some x) e = by (in_tile g tile t x) refl e
    where
      by : (b : Bool) → in_tile g tile t x ≡ b → cond b (Some x) None ≡ Some p → (Some x ≡ Some p) × (in_tile g tile t p ≡ true)
      by true k e = let same : x ≡ p = cc e in (ap Some same, subst (λ z. in_tile g tile t z ≡ true) same k)
      by false k e = absurd (cc e)

  pub only : (parts : List (Tile × List (Slice PlaneLine))) → AllByRecursion (λ q. IsTilePart g a q.0 q.1) parts → AllByRecursion (λ q. value_at plane_value_of q.1 t ≡ Some p → (q.0 ≡ tile_of g t p) × (value_at plane_value_of a t ≡ Some p)) parts
  only [] h = tt
  only (q ∷ parts) h = ((λ e. let w = wanted q.0 (value_at plane_value_of a t) (sym (h.0.same t) ∙ e) in (tile_is g q.0 t p ok ((in_tile_exact g q.0 t p).0 w.1), w.0)), only parts h.1)
