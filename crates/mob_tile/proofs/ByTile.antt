-- The groups of sorted pieces are the pieces tile by tile, and their values are the split.
use Rattle.std.{specs.Prelude.{Option, Some, None}, specs.List.{filter, AllByRecursion}, specs.List.Sorted.{IsStableBy, ties}}
use Rattle.std.specs.declared.cmp.Ordering.TheVariants.{Less}
use Rattle.std.proofs.Common.{◌≡◌, ◌≢◌, inl, inr, Bool, true, false, true≢false, List, [], ◌∷◌, ◌++◌, refl, sym, ap, subst, ◌∙◌, cond, append_assoc, append-nil}
use Rattle.std.proofs.lemmas.Bool.{false_from_ne_true}
use Rattle.mob_list.proofs.Each.{one_of}
use Rattle.mob_ratio.{specs.Ratio.{Ratio}, specs.Sign.{nil}}
use Rattle.mob_span.{specs.Span.{SpanOf, has}, specs.Chained.{Chained, OfHead}, proofs.Shared.{AreAllClear, all_after}, proofs.Insides.{clear_has}}
use Rattle.mob_plane.specs.declared.point.Point.{Point}
use Rattle.mob_slice.{specs.Slices.{value_at, IsRisingInTime, IsClearOf}, specs.Cut.{slice_value}, specs.Lines.{plane_value_of}, specs.declared.slice.Slice.{Slice}}
use Rattle.mob_slice.{specs.declared.line.PlaneLine.{PlaneLine}, proofs.Orders.{ordered-clear}}
use Rattle.mob_cells.specs.Restricted.{where_wanted, kept_value}
use Rattle.mob_grid.{specs.Tiles.{GridOf, IsGrid, InTile, in_tile, tile_of, compare_tiles}, specs.declared.tile.Tile.{Tile}, proofs.Ranges.{tile_has, tile_is, in_tile_exact}}
use Rattle.mob_tile.{specs.declared.pieces.TilePiece.{TilePiece}, specs.Pieces.{piece_slices, IsInItsTile, AreTilePieces}}
use Rattle.mob_tile.specs.Groups.{piece_before, same_tile, IsByTile, group_with, tile_groups, IsTileGroup, IsPartOfGroup, IsPartPushed, AreParts, IsGrouping}
use Rattle.mob_tile.{specs.Split.{IsTilePart, IsSplit, HasTile}, proofs.TileOrder.{same_is, same_self, less_differs, less_differs_back, less_one_way, not_less_self, then_less, less_trans, ties_same, rises_sorted}}
use Rattle.mob_tile.proofs.TileOrder as order

abbrev tile_in : TilePiece → Tile
tile_in q = q.tile

-- no piece has a tile before a, and the tiles of pieces are sorted
abbrev Leads : Tile → List TilePiece → Type 0
Leads a qs = order.Leads tile_in a qs

abbrev pub Rises : List TilePiece → Type 0
Rises qs = order.Rises tile_in qs

abbrev Value : Type 0
Value = List (Slice PlaneLine)

-- the slices of one tile
abbrev pub of_tile : Tile → List TilePiece → Value
of_tile a qs = piece_slices (filter (λ q. same_tile a q.tile) qs)

passes : (a : Tile) (q : TilePiece) (qs : List TilePiece) → same_tile a q.tile ≡ true → of_tile a (q ∷ qs) ≡ q.slice ∷ of_tile a qs
passes a q qs h = rw h refl

fails : (a : Tile) (q : TilePiece) (qs : List TilePiece) → same_tile a q.tile ≡ false → of_tile a (q ∷ qs) ≡ of_tile a qs
fails a q qs h = rw h refl

-- ---- the groups of a list are its slices by tile
abbrev AreOf : (Tile → Value) → List (Tile × Value) → Type 0
AreOf src gs = AllByRecursion (λ (g : Tile × Value). (g.1 ≡ src g.0) × (g.1 ≢ [])) gs

abbrev Rise : List (Tile × Value) → Type 0
Rise gs = Chained (λ (p : Tile × Value). Unit {0}) (λ p q. compare_tiles p.0 q.0 ≡ Less) gs

none_later : (a b : Tile) (qs : List TilePiece) → compare_tiles a b ≡ Less → Leads b qs → of_tile a qs ≡ []
none_later a b [] h l = refl
none_later a b (q ∷ qs) h l = fails a q qs (less_differs a q.tile (less_trans a b q.tile h l.0)) ∙ none_later a b qs h l.1

not_empty : (xs : Value) (x : Slice PlaneLine) → (xs ++ x ∷ []) ≢ []
not_empty [] x h = absurd cc
not_empty (y ∷ xs) x h = absurd cc

-- the first group has the tile that is taken
group_head : (P : Tile → Type 0) (a : Tile) (taken : Value) (qs : List TilePiece) → P a → OfHead (λ (p q : Tile × Value). P q.0) (a, taken) (group_with a taken qs)
group_head P a taken [] p = p
group_head P a taken (q ∷ qs) p = by (same_tile a q.tile) (group_head P a (taken ++ q.slice ∷ []) qs p)
  where
    retaken : (gs : List (Tile × Value)) → OfHead (λ (p q : Tile × Value). P q.0) (a, taken ++ q.slice ∷ []) gs → OfHead (λ (p q : Tile × Value). P q.0) (a, taken) gs
    retaken [] h = tt
    retaken (g ∷ gs) h = h

    by : (b : Bool) → OfHead (λ (p q : Tile × Value). P q.0) (a, taken ++ q.slice ∷ []) (group_with a (taken ++ q.slice ∷ []) qs) → OfHead (λ (p q : Tile × Value). P q.0) (a, taken) (cond b (group_with a (taken ++ q.slice ∷ []) qs) ((a, taken) ∷ group_with q.tile (q.slice ∷ []) qs))
    by true r = retaken (group_with a (taken ++ q.slice ∷ []) qs) r
    by false r = p

module _ (src : Tile → Value) where
  made_of : (a : Tile) (taken : Value) (qs : List TilePiece) → taken ≢ [] → Leads a qs → Rises qs → src a ≡ taken ++ of_tile a qs → ((b : Tile) → compare_tiles a b ≡ Less → src b ≡ of_tile b qs) → AreOf src (group_with a taken qs)
  made_of a taken [] some l up e f = ((sym (append-nil taken) ∙ sym e, some), tt)
  made_of a taken (q ∷ qs) some l up e f = by (same_tile a q.tile) refl (λ e' f'. made_of a (taken ++ q.slice ∷ []) qs (not_empty taken q.slice) l.1 up.1 e' f') (λ e' f'. made_of q.tile (q.slice ∷ []) qs (λ z. absurd cc) up.0 up.1 e' f')
    where
      by : (b : Bool) → same_tile a q.tile ≡ b → (src a ≡ (taken ++ q.slice ∷ []) ++ of_tile a qs → ((b : Tile) → compare_tiles a b ≡ Less → src b ≡ of_tile b qs) → AreOf src (group_with a (taken ++ q.slice ∷ []) qs)) → (src q.tile ≡ q.slice ∷ of_tile q.tile qs → ((b : Tile) → compare_tiles q.tile b ≡ Less → src b ≡ of_tile b qs) → AreOf src (group_with q.tile (q.slice ∷ []) qs)) → AreOf src (cond b (group_with a (taken ++ q.slice ∷ []) qs) ((a, taken) ∷ group_with q.tile (q.slice ∷ []) qs))
      by true h same other =
          let one : a ≡ q.tile = same_is a q.tile h in
          same (e ∙ ap (λ z. taken ++ z) (passes a q qs h) ∙ sym (append_assoc taken (q.slice ∷ []) (of_tile a qs)))
          (λ b k. f b k ∙ fails b q qs (less_differs_back q.tile b (subst (λ z. compare_tiles z b ≡ Less) one k)))
      by false h same other =
          let next : compare_tiles a q.tile ≡ Less = then_less a q.tile h l.0 in
          let none : of_tile a (q ∷ qs) ≡ [] = none_later a q.tile (q ∷ qs) next (not_less_self q.tile, up.0) in (
            (sym (append-nil taken) ∙ ap (λ z. taken ++ z) (sym none) ∙ sym e, some),
            other (f q.tile next ∙ passes q.tile q qs (same_self q.tile))
                (λ b k. f b (less_trans a q.tile b next (less_one_way q.tile b k)) ∙ fails b q qs (less_differs_back q.tile b k)),
          )

rise_of : (a : Tile) (taken : Value) (qs : List TilePiece) → Leads a qs → Rises qs → Rise (group_with a taken qs)
rise_of a taken [] l up = (tt, tt, tt)
rise_of a taken (q ∷ qs) l up = by (same_tile a q.tile) refl (rise_of a (taken ++ q.slice ∷ []) qs l.1 up.1) (rise_of q.tile (q.slice ∷ []) qs up.0 up.1)
  where
    ahead : (gs : List (Tile × Value)) → OfHead (λ (p z : Tile × Value). compare_tiles a z.0 ≡ Less) (q.tile, q.slice ∷ []) gs → OfHead (λ (p z : Tile × Value). compare_tiles p.0 z.0 ≡ Less) (a, taken) gs
    ahead [] h = tt
    ahead (g ∷ gs) h = h

    by : (b : Bool) → same_tile a q.tile ≡ b → Rise (group_with a (taken ++ q.slice ∷ []) qs) → Rise (group_with q.tile (q.slice ∷ []) qs) → Rise (cond b (group_with a (taken ++ q.slice ∷ []) qs) ((a, taken) ∷ group_with q.tile (q.slice ∷ []) qs))
    by true h r o = r
    by false h r o = (tt, ahead (group_with q.tile (q.slice ∷ []) qs) (group_head (λ b. compare_tiles a b ≡ Less) q.tile (q.slice ∷ []) qs (then_less a q.tile h l.0)), o)

-- a tile of some piece has a group
abbrev IsThere : Tile → List (Tile × Value) → Type 0
IsThere b gs = HasTile b gs

own_there : (a : Tile) (taken : Value) (qs : List TilePiece) → IsThere a (group_with a taken qs)
own_there a taken [] = inl refl
own_there a taken (q ∷ qs) = by (same_tile a q.tile) (own_there a (taken ++ q.slice ∷ []) qs)
  where
    by : (b : Bool) → IsThere a (group_with a (taken ++ q.slice ∷ []) qs) → IsThere a (cond b (group_with a (taken ++ q.slice ∷ []) qs) ((a, taken) ∷ group_with q.tile (q.slice ∷ []) qs))
    by true r = r
    by false r = inl refl

group_there : (b a : Tile) (taken : Value) (qs : List TilePiece) → of_tile b qs ≢ [] → IsThere b (group_with a taken qs)
group_there b a taken [] some = absurd (some refl)
group_there b a taken (q ∷ qs) some = by (same_tile b q.tile) refl (same_tile a q.tile) refl (λ k. group_there b a (taken ++ q.slice ∷ []) qs k) (λ k. group_there b q.tile (q.slice ∷ []) qs k)
  where
    by : (c : Bool) → same_tile b q.tile ≡ c → (d : Bool) → same_tile a q.tile ≡ d → (of_tile b qs ≢ [] → IsThere b (group_with a (taken ++ q.slice ∷ []) qs)) → (of_tile b qs ≢ [] → IsThere b (group_with q.tile (q.slice ∷ []) qs)) → IsThere b (cond d (group_with a (taken ++ q.slice ∷ []) qs) ((a, taken) ∷ group_with q.tile (q.slice ∷ []) qs))
    by true h true k r o = subst (λ z. IsThere z (group_with a (taken ++ q.slice ∷ []) qs)) (same_is a q.tile k ∙ sym (same_is b q.tile h)) (own_there a (taken ++ q.slice ∷ []) qs)
    by true h false k r o = inr (subst (λ z. IsThere z (group_with q.tile (q.slice ∷ []) qs)) (sym (same_is b q.tile h)) (own_there q.tile (q.slice ∷ []) qs))
    by false h true k r o = r (λ e. some (fails b q qs h ∙ e))
    by false h false k r o = inr (o (λ e. some (fails b q qs h ∙ e)))

-- the properties of the groups of sorted pieces
pub record AreGroups (qs : List TilePiece) (gs : List (Tile × Value)) : Type 0 where
  pub rise : Rise gs
  pub each : AllByRecursion (λ (g : Tile × Value). (g.1 ≡ of_tile g.0 qs) × (g.1 ≢ [])) gs
  pub there : (b : Tile) → of_tile b qs ≢ [] → HasTile b gs

pub groups_are : (qs : List TilePiece) → Rises qs → AreGroups qs (tile_groups qs)
groups_are [] up = record { rise = tt; each = tt; there = λ b some. absurd (some refl) }
groups_are (q ∷ qs) up = record {
  rise = rise_of q.tile (q.slice ∷ []) qs up.0 up.1;
  each = made_of (λ b. of_tile b (q ∷ qs)) q.tile (q.slice ∷ []) qs (λ z. absurd cc) up.0 up.1 (passes q.tile q qs (same_self q.tile)) (λ b k. fails b q qs (less_differs_back q.tile b k));
  there = λ b some. start b some (same_tile b q.tile) refl;
}
  where
    start : (b : Tile) → of_tile b (q ∷ qs) ≢ [] → (c : Bool) → same_tile b q.tile ≡ c → IsThere b (group_with q.tile (q.slice ∷ []) qs)
    start b some true h = subst (λ z. IsThere z (group_with q.tile (q.slice ∷ []) qs)) (sym (same_is b q.tile h)) (own_there q.tile (q.slice ∷ []) qs)
    start b some false h = group_there b q.tile (q.slice ∷ []) qs (λ e. some (fails b q qs h ∙ e))

-- ---- sorted or not, the slices of a tile are the same
filter_same : (f g : TilePiece → Bool) → ((q : TilePiece) → f q ≡ g q) → (qs : List TilePiece) → filter f qs ≡ filter g qs
filter_same f g e qs = ap (λ (h : TilePiece → Bool). filter h qs) (λ i q. e q i)

abbrev some_piece : Tile → TilePiece
some_piece a = record { tile = a; slice = record { span = record { lower = nil; upper = nil; lower_inc = true; upper_inc = true }; course = record { from = record { x = nil; y = nil }; to = record { x = nil; y = nil } } } }

pub stays : (a : Tile) (pieces ordered : List TilePiece) → IsStableBy piece_before pieces ordered → of_tile a ordered ≡ of_tile a pieces
stays a pieces ordered h =
    let q = some_piece a in
    let tie : (r : TilePiece) → same_tile a r.tile ≡ ties piece_before q r = λ r. sym (ties_same tile_in q r) in
    ap piece_slices (filter_same (λ r. same_tile a r.tile) (ties piece_before q) tie ordered ∙ h q ∙ sym (filter_same (λ r. same_tile a r.tile) (ties piece_before q) tie pieces))

-- ---- in order of time
abbrev start : PlaneLine → Point
start c = c.from

abbrev end : PlaneLine → Point
end c = c.to

filter_clear : (s : SpanOf) (a : Tile) (qs : List TilePiece) → AreAllClear (λ (r : Slice PlaneLine). r.span) s (piece_slices qs) → AreAllClear (λ (r : Slice PlaneLine). r.span) s (of_tile a qs)
filter_clear s a [] h = tt
filter_clear s a (q ∷ qs) h = by (same_tile a q.tile) (filter_clear s a qs h.1)
  where
    by : (b : Bool) → AreAllClear (λ (r : Slice PlaneLine). r.span) s (of_tile a qs) → AreAllClear (λ (r : Slice PlaneLine). r.span) s (piece_slices (cond b (q ∷ filter (λ r. same_tile a r.tile) qs) (filter (λ r. same_tile a r.tile) qs)))
    by true r = (h.0, r)
    by false r = r

clear_head : (s : Slice PlaneLine) (v : Value) → AreAllClear (λ (r : Slice PlaneLine). r.span) s.span v → OfHead IsClearOf s v
clear_head s [] h = tt
clear_head s (r ∷ v) h = h.0

pub of_tile_ordered : (a : Tile) (qs : List TilePiece) → IsRisingInTime start end (piece_slices qs) → IsRisingInTime start end (of_tile a qs)
of_tile_ordered a [] h = tt
of_tile_ordered a (q ∷ qs) h = by (same_tile a q.tile) (of_tile_ordered a qs h.2)
  where
    by : (b : Bool) → IsRisingInTime start end (of_tile a qs) → IsRisingInTime start end (piece_slices (cond b (q ∷ filter (λ r. same_tile a r.tile) qs) (filter (λ r. same_tile a r.tile) qs)))
    by true r = (h.0, clear_head q.slice (of_tile a qs) (filter_clear q.slice.span a qs (all_after (λ (r : Slice PlaneLine). r.span) q.slice (piece_slices qs) (ordered-clear start end (q.slice ∷ piece_slices qs) h))), r)
    by false r = r

-- ---- the value in a tile
none_past : (s : SpanOf) (v : Value) (t : Ratio) → AreAllClear (λ (r : Slice PlaneLine). r.span) s v → has s t ≡ true → value_at plane_value_of v t ≡ None
none_past s [] t h k = refl
none_past s (r ∷ v) t h k = rw (clear_has s r.span t h.0 k) (none_past s v t h.1 k)

abbrev at_piece : TilePiece → Ratio → Point
at_piece q t = slice_value plane_value_of q.slice t

module _ (g : GridOf) (ok : IsGrid g) (a : Tile) where
  abbrev Wanted : Value → Ratio → Option Point
  Wanted v t = where_wanted true (in_tile g a t) (value_at plane_value_of v t)

  in_same : (q : TilePiece) (t : Ratio) → IsInItsTile g q → has q.slice.span t ≡ true → same_tile a q.tile ≡ in_tile g a t (slice_value plane_value_of q.slice t)
  in_same q t own h = by (same_tile a q.tile) refl
    where
      by : (b : Bool) → same_tile a q.tile ≡ b → b ≡ in_tile g a t (at_piece q t)
      by true e = sym ((in_tile_exact g a t (at_piece q t)).1 (subst (λ z. InTile g z t (at_piece q t)) (sym (same_is a q.tile e)) (own t h)))
      by false e = sym (false_from_ne_true (in_tile g a t (at_piece q t)) (λ k.
          let one : a ≡ q.tile = tile_is g a t (at_piece q t) ok ((in_tile_exact g a t (at_piece q t)).0 k) ∙ sym (tile_is g q.tile t (at_piece q t) ok (own t h)) in
          true≢false (sym (same_self q.tile) ∙ ap (λ z. same_tile z q.tile) (sym one) ∙ e)))

  pub value_in : (qs : List TilePiece) (t : Ratio) → IsRisingInTime start end (piece_slices qs) → AllByRecursion (IsInItsTile g) qs → value_at plane_value_of (of_tile a qs) t ≡ Wanted (piece_slices qs) t
  value_in [] t o h = refl
  value_in (q ∷ qs) t o h = by (value_in qs t o.2 h.1) (has q.slice.span t) refl (same_tile a q.tile) refl
    where
      by : value_at plane_value_of (of_tile a qs) t ≡ Wanted (piece_slices qs) t → (b : Bool) → has q.slice.span t ≡ b → (c : Bool) → same_tile a q.tile ≡ c → value_at plane_value_of (piece_slices (cond c (q ∷ filter (λ r. same_tile a r.tile) qs) (filter (λ r. same_tile a r.tile) qs))) t ≡ where_wanted true (in_tile g a t) (cond b (Some (at_piece q t)) (value_at plane_value_of (piece_slices qs) t))
      by later true e true k = rw e (ap (λ z. kept_value true z (at_piece q t)) (sym k ∙ in_same q t h.0 e))
      by later true e false k =
          let clear = all_after (λ (r : Slice PlaneLine). r.span) q.slice (piece_slices qs) (ordered-clear start end (q.slice ∷ piece_slices qs) o) in
          later ∙ ap (λ z. where_wanted true (in_tile g a t) z) (none_past q.slice.span (piece_slices qs) t clear e) ∙ ap (λ z. kept_value true z (at_piece q t)) (sym k ∙ in_same q t h.0 e)
      by later false e true k = rw e later
      by later false e false k = later

-- ---- the split
where_all : (o : Option Point) → where_wanted true (λ p. true) o ≡ o
where_all None = refl
where_all (Some p) = refl

pub groups_fit : (g : GridOf) (a : Value) (pieces ordered : List TilePiece) → AreTilePieces g a pieces → IsByTile pieces ordered → AllByRecursion IsTileGroup (tile_groups ordered)
groups_fit g a pieces ordered h s = each (tile_groups ordered) (groups_are ordered (rises_sorted tile_in ordered s.sorted)).each
  where
    each : (gs : List (Tile × Value)) → AllByRecursion (λ (z : Tile × Value). (z.1 ≡ of_tile z.0 ordered) × (z.1 ≢ [])) gs → AllByRecursion IsTileGroup gs
    each [] k = tt
    each (z ∷ gs) k = (record { some = k.0.1; ordered = subst (IsRisingInTime start end) (sym (k.0.0 ∙ stays z.0 pieces ordered s.stable)) (of_tile_ordered z.0 pieces h.kept.ordered) }, each gs k.1)

pub split_is : (g : GridOf) (a : Value) (pieces ordered : List TilePiece) (parts : List (Tile × Value)) → IsGrid g → AreTilePieces g a pieces → IsByTile pieces ordered → AreParts (tile_groups ordered) parts → IsSplit g a parts
split_is g a pieces ordered parts ok h s m =
    let gs = groups_are ordered (rises_sorted tile_in ordered s.sorted) in
    record {
      rising = rise (tile_groups ordered) parts gs.rise m;
      each = each (tile_groups ordered) parts gs.each m;
      all = λ t p e.
          let b = tile_of g t p in
          let there : value_at plane_value_of (of_tile b ordered) t ≡ Some p =
          ap (λ v. value_at plane_value_of v t) (stays b pieces ordered s.stable) ∙ value t b ∙ ap (λ z. where_wanted true (in_tile g b t) z) e ∙ ap (λ z. kept_value true z p) ((in_tile_exact g b t p).1 (tile_has g t p ok)) in
          found b (tile_groups ordered) parts (gs.there b (λ z. some_there t p (of_tile b ordered) z there)) m;
    }
  where
    value : (t : Ratio) (b : Tile) → value_at plane_value_of (of_tile b pieces) t ≡ where_wanted true (in_tile g b t) (value_at plane_value_of a t)
    value t b = value_in g ok b pieces t h.kept.ordered h.tiles ∙ ap (λ z. where_wanted true (in_tile g b t) z) (h.kept.values t ∙ where_all (value_at plane_value_of a t))

    some_there : (t : Ratio) (p : Point) (v : Value) → v ≡ [] → value_at plane_value_of v t ≡ Some p → ⊥
    some_there t p v z e = absurd (let k : None ≡ Some p = ap (λ v. value_at plane_value_of v t) (sym z) ∙ e in cc k)

    head : (x y : Tile × Value) (gs ps : List (Tile × Value)) → y.0 ≡ x.0 → OfHead (λ (p q : Tile × Value). compare_tiles p.0 q.0 ≡ Less) x gs → AreParts gs ps → OfHead (λ (p q : Tile × Value). compare_tiles p.0 q.0 ≡ Less) y ps
    head x y [] [] e o m = tt
    head x y (z ∷ gs) (w ∷ ps) e o m = ap (λ u. compare_tiles u w.0) e ∙ ap (λ u. compare_tiles x.0 u) m.0.tile ∙ o
    head x y [] (w ∷ ps) e o m = absurd m
    head x y (z ∷ gs) [] e o m = absurd m

    rise : (gs ps : List (Tile × Value)) → Rise gs → AreParts gs ps → Rise ps
    rise [] [] r m = tt
    rise (z ∷ gs) (w ∷ ps) r m = (tt, head z w gs ps m.0.tile r.1 m.1, rise gs ps r.2 m.1)
    rise [] (w ∷ ps) r m = absurd m
    rise (z ∷ gs) [] r m = absurd m

    each : (gs ps : List (Tile × Value)) → AllByRecursion (λ (z : Tile × Value). (z.1 ≡ of_tile z.0 ordered) × (z.1 ≢ [])) gs → AreParts gs ps → AllByRecursion (λ p. IsTilePart g a p.0 p.1) ps
    each [] [] k m = tt
    each (z ∷ gs) (w ∷ ps) k m = (
      record {
        normal = m.0.normal;
        same = λ t. m.0.same t ∙ ap (λ v. value_at plane_value_of v t) (k.0.0 ∙ stays z.0 pieces ordered s.stable) ∙ value t z.0 ∙ ap (λ b. where_wanted true (in_tile g b t) (value_at plane_value_of a t)) (sym m.0.tile);
      },
      each gs ps k.1 m.1,
    )
    each [] (w ∷ ps) k m = absurd m
    each (z ∷ gs) [] k m = absurd m

    found : (b : Tile) (gs ps : List (Tile × Value)) → HasTile b gs → AreParts gs ps → HasTile b ps
    found b [] ps y m = absurd y
    found b (z ∷ gs) [] y m = absurd m
    found b (z ∷ gs) (w ∷ ps) y m = elim y [ inl e ↦ inl (m.0.tile ∙ e) | inr k ↦ inr (found b gs ps k m.1) ]

-- ---- the loop over sorted pieces
pub grouping_same : (all rest later : List TilePiece) (q : TilePiece) (a : Tile) (taken taken' : Value) (parts : List (Tile × Value)) → rest ≡ q ∷ later → same_tile a q.tile ≡ true → taken' ≡ taken ++ q.slice ∷ [] → IsGrouping all rest a taken parts → IsGrouping all later a taken' parts
grouping_same all rest later q a taken taken' parts e h n m = record {
  done = m.done;
  made = ap (λ z. m.done ++ group_with a z later) n ∙ ap (λ b. m.done ++ cond b (group_with a (taken ++ q.slice ∷ []) later) ((a, taken) ∷ group_with q.tile (q.slice ∷ []) later)) (sym h) ∙ ap (λ z. m.done ++ group_with a taken z) (sym e) ∙ m.made;
  are = m.are;
}

snoc_parts : (gs ps : List (Tile × Value)) (x p : Tile × Value) → AreParts gs ps → IsPartOfGroup x p → AreParts (gs ++ x ∷ []) (ps ++ p ∷ [])
snoc_parts [] [] x p m o = (o, tt)
snoc_parts (z ∷ gs) (w ∷ ps) x p m o = (m.0, snoc_parts gs ps x p m.1 o)
snoc_parts [] (w ∷ ps) x p m o = absurd m
snoc_parts (z ∷ gs) [] x p m o = absurd m

pub grouping_next : (all rest later : List TilePiece) (q : TilePiece) (a : Tile) (taken : Value) (parts parts' : List (Tile × Value)) → rest ≡ q ∷ later → same_tile a q.tile ≡ false → IsPartPushed (a, taken) parts parts' → IsGrouping all rest a taken parts → IsGrouping all later q.tile (q.slice ∷ []) parts'
grouping_next all rest later q a taken parts parts' e h n m = record {
  done = m.done ++ (a, taken) ∷ [];
  made = append_assoc m.done ((a, taken) ∷ []) (group_with q.tile (q.slice ∷ []) later) ∙ ap (λ b. m.done ++ cond b (group_with a (taken ++ q.slice ∷ []) later) ((a, taken) ∷ group_with q.tile (q.slice ∷ []) later)) (sym h) ∙ ap (λ z. m.done ++ group_with a taken z) (sym e) ∙ m.made;
  are = subst (AreParts (m.done ++ (a, taken) ∷ [])) (sym n.is) (snoc_parts m.done parts (a, taken) n.part m.are n.of);
}

-- what is taken before another tile, or at the end, is a group
pub group_taken : (all rest later : List TilePiece) (q : TilePiece) (a : Tile) (taken : Value) (parts : List (Tile × Value)) → rest ≡ q ∷ later → same_tile a q.tile ≡ false → IsGrouping all rest a taken parts → AllByRecursion IsTileGroup (tile_groups all) → IsTileGroup (a, taken)
group_taken all rest later q a taken parts e h m k =
    let made : m.done ++ (a, taken) ∷ group_with q.tile (q.slice ∷ []) later ≡ tile_groups all = ap (λ b. m.done ++ cond b (group_with a (taken ++ q.slice ∷ []) later) ((a, taken) ∷ group_with q.tile (q.slice ∷ []) later)) (sym h) ∙ ap (λ z. m.done ++ group_with a taken z) (sym e) ∙ m.made in
    one_of IsTileGroup m.done (group_with q.tile (q.slice ∷ []) later) (a, taken) (subst (AllByRecursion IsTileGroup) (sym made) k)

pub group_last : (all rest : List TilePiece) (a : Tile) (taken : Value) (parts : List (Tile × Value)) → rest ≡ [] → IsGrouping all rest a taken parts → AllByRecursion IsTileGroup (tile_groups all) → IsTileGroup (a, taken)
group_last all rest a taken parts e m k = one_of IsTileGroup m.done [] (a, taken) (subst (AllByRecursion IsTileGroup) (sym (ap (λ z. m.done ++ group_with a taken z) (sym e) ∙ m.made)) k)

pub grouping_end : (all rest : List TilePiece) (a : Tile) (taken : Value) (parts parts' : List (Tile × Value)) → rest ≡ [] → IsPartPushed (a, taken) parts parts' → IsGrouping all rest a taken parts → AreParts (tile_groups all) parts'
grouping_end all rest a taken parts parts' e n m =
    subst (λ z. AreParts z parts') (ap (λ z. m.done ++ group_with a taken z) (sym e) ∙ m.made) (subst (AreParts (m.done ++ (a, taken) ∷ [])) (sym n.is) (snoc_parts m.done parts (a, taken) n.part m.are n.of))
