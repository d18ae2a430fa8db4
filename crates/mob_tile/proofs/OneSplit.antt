-- A value has one split.
use Rattle.std.{specs.List.{AllByRecursion}, specs.declared.cmp.Ordering.TheVariants.{Less}, proofs.Common.{◌≡◌, inl, inr, true, List, [], ◌∷◌, refl, sym, ap, subst, ◌∙◌, Some}}
use Rattle.mob_ratio.specs.Ratio.{Ratio}
use Rattle.mob_span.specs.Chained.{Chained}
use Rattle.mob_plane.specs.declared.point.Point.{Point}
use Rattle.mob_slice.{specs.Slices.{value_at}, specs.Lines.{plane_value_of}, specs.PlaneLaws.{plane_laws}, specs.declared.slice.Slice.{Slice}, specs.declared.line.PlaneLine.{PlaneLine}}
use Rattle.mob_slice.proofs.LookUps.{some_value}
use Rattle.mob_lift.proofs.Unique.{unique}
use Rattle.mob_cells.specs.Restricted.{where_wanted}
use Rattle.mob_grid.{specs.Tiles.{GridOf, IsGrid, in_tile, tile_of, compare_tiles}, specs.declared.tile.Tile.{Tile}, proofs.TileOrder.{never-less, tiles_total}}
use Rattle.mob_tile.{specs.Split.{IsTilePart, IsSplit, HasTile}, proofs.Parts.{only}}

abbrev Rising : List (Tile × List (Slice PlaneLine)) → Type 0
Rising ps = Chained (λ p. Unit {0}) (λ p q. compare_tiles p.0 q.0 ≡ Less) ps

-- the tiles after the first are greater
behind : (p : Tile × List (Slice PlaneLine)) (ps : List (Tile × List (Slice PlaneLine))) → Rising (p ∷ ps) → (x : Tile) → HasTile x ps → compare_tiles p.0 x ≡ Less
behind p [] h x i = absurd i
behind p (q ∷ ps) h x i = elim i [
  | inl e ↦ subst (λ z. compare_tiles p.0 z ≡ Less) e h.1
  | inr k ↦ tiles_total.trans p.0 q.0 x h.1 (behind q ps h.2 x k)
]

heads : (p q : Tile × List (Slice PlaneLine)) (ps qs : List (Tile × List (Slice PlaneLine))) → Rising (p ∷ ps) → Rising (q ∷ qs) → HasTile p.0 (q ∷ qs) → HasTile q.0 (p ∷ ps) → p.0 ≡ q.0
heads p q ps qs hp hq i j = elim i [
  | inl e ↦ sym e
  | inr k ↦ elim j [
    | inl e ↦ e
    | inr l ↦ absurd (never-less p.0 (tiles_total.trans p.0 q.0 p.0 (behind p ps hp q.0 l) (behind q qs hq p.0 k)))
  ]
]

later : (p q : Tile × List (Slice PlaneLine)) (ps qs : List (Tile × List (Slice PlaneLine))) → p.0 ≡ q.0 → Rising (p ∷ ps) → (x : Tile) → HasTile x ps → HasTile x (q ∷ qs) → HasTile x qs
later p q ps qs e hp x i j = elim j [
  | inl f ↦ absurd (never-less x (subst (λ z. compare_tiles z x ≡ Less) (e ∙ f) (behind p ps hp x i)))
  | inr k ↦ k
]

module _ (g : GridOf) (a : List (Slice PlaneLine)) (ok : IsGrid g) where
  -- the tile of a part is that of the value at some instant
  lived : (tile : Tile) (part : List (Slice PlaneLine)) → IsTilePart g a tile part → (t : Ratio) × (p : Point) × ((tile ≡ tile_of g t p) × (value_at plane_value_of a t ≡ Some p))
  lived tile part h = let s = some_value plane_value_of part h.normal in (s.0, s.1, (only g a s.0 s.1 ok ((tile, part) ∷ []) (h, tt)).0 s.2)

  tiles_in : (ps qs : List (Tile × List (Slice PlaneLine))) → AllByRecursion (λ p. IsTilePart g a p.0 p.1) ps → IsSplit g a qs → (x : Tile) → HasTile x ps → HasTile x qs
  tiles_in [] qs each s x i = absurd i
  tiles_in (p ∷ ps) qs each s x i = elim i [
    | inl e ↦ let l = lived p.0 p.1 each.0 in subst (λ z. HasTile z qs) (sym l.2.0 ∙ e) (s.all l.0 l.1 l.2.1)
    | inr k ↦ tiles_in ps qs each.1 s x k
  ]

  one : (ps qs : List (Tile × List (Slice PlaneLine))) → Rising ps → Rising qs → AllByRecursion (λ p. IsTilePart g a p.0 p.1) ps → AllByRecursion (λ p. IsTilePart g a p.0 p.1) qs → ((x : Tile) → HasTile x ps → HasTile x qs) → ((x : Tile) → HasTile x qs → HasTile x ps) → ps ≡ qs
  one [] [] hp hq ep eq there back = refl
  one [] (q ∷ qs) hp hq ep eq there back = absurd (back q.0 (inl refl))
  one (p ∷ ps) [] hp hq ep eq there back = absurd (there p.0 (inl refl))
  one (p ∷ ps) (q ∷ qs) hp hq ep eq there back =
      let e = heads p q ps qs hp hq (there p.0 (inl refl)) (back q.0 (inl refl)) in
      let parts : p.1 ≡ q.1 = unique plane_laws p.1 q.1 ep.0.normal.chained eq.0.normal.chained (λ t. ep.0.same t ∙ ap (λ z. where_wanted true (in_tile g z t) (value_at plane_value_of a t)) e ∙ sym (eq.0.same t)) in
      let rest = one ps qs hp.2 hq.2 ep.1 eq.1 (λ x i. later p q ps qs e hp x i (there x (inr i))) (λ x i. later q p qs ps (sym e) hq x i (back x (inr i))) in
      λ i. (e i, parts i) ∷ rest i

  pub one_split : (ps qs : List (Tile × List (Slice PlaneLine))) → IsSplit g a ps → IsSplit g a qs → ps ≡ qs
  one_split ps qs h k = one ps qs h.rising k.rising h.each k.each (tiles_in ps qs h.each k) (tiles_in qs ps k.each h)
