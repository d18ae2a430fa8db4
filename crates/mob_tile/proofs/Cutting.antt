-- The cells of a slice that is cut at all its edges: each is in one tile.
use Rattle.std.{specs.Prelude.{map, Contains}, specs.List.{AllByRecursion}, specs.declared.cmp.Ordering.TheVariants.{Less, Equal, Greater}}
use Rattle.std.proofs.Common.{◌≡◌, ◌⊎◌, inl, inr, ℕ, Bool, true, false, ℤ, pos, ◌+ℤ◌, ◌≤ℤ◌, ◌<ℤ◌, List, [], ◌∷◌, ◌++◌, arith, refl, sym, ap, subst, ◌∙◌, cond, ◌&&◌, ◌<◌, ◌+◌, suc, zero, append_assoc}
use Rattle.std.{proofs.Common.{◌-ℤ◌}, proofs.lemmas.Int.{ints}, proofs.lemmas.Bool.{and_parts}, proofs.lemmas.List.Elements.{Contains-append_left, Contains-append_right}}
use Rattle.mob_ratio.{specs.Ratio.{Ratio, ◌-ℚ◌, ◌<ℚ◌, ◌≤ℚ◌}, specs.Order.{before, smaller, greater}, specs.Sign.{nil, opposite, root_at}}
use Rattle.mob_ratio.{proofs.Order.{before-lt, not-up_to-le, smaller_left, smaller_right, le-test, greater_left, greater_right}, proofs.Field.{le_of_lt, le_trans, lt_trans, cases_lt, le_lt, lt_le}}
use Rattle.mob_ratio.proofs.Signs.{sign-diff, opposite_cases, sign_below, sign_above}
use Rattle.mob_list.{proofs.Each.{each_both}, proofs.Entries.{all_by_each, each_of_all, first_in, map-Contains, flat-Contains}}
use Rattle.mob_span.{specs.Span.{SpanOf}, proofs.SpanLemmas.{some_upto}}
use Rattle.mob_plane.specs.declared.point.Point.{Point}
use Rattle.mob_slice.{specs.Slices.{IsSound}, specs.declared.slice.Slice.{Slice}, specs.declared.line.PlaneLine.{PlaneLine}}
use Rattle.mob_cells.{specs.declared.linear.Ends.{Ends}, specs.Roots.{IsLevel, root_of, roots, as_list}, specs.Cells.{AreSplit, IsSomeEnd, NoneWithin, is_cell_of, start_cells, split_all}}
use Rattle.mob_cells.{proofs.Splits.{start_are}, proofs.Walking.{all_split, all_self, end_or_cut, only_cuts}, proofs.Rising.{IsBetween, roots_between}}
use Rattle.mob_grid.{specs.Bands.{band_of}, specs.Tiles.{GridOf, IsGrid}, proofs.BandNumbers.{band_has, bands_rise, edges_lt, next_le}}
use Rattle.mob_tile.specs.Edges.{count_up, natural, numbers_between, edge_of, tile_edge_ends, edges_between, x_edges, y_edges, t_edges, differences, tile_cuts_of}
use Rattle.mob_tile.{specs.Pieces.{HasOneTile, AreTileCells}, proofs.Numbers.{number_there, natural_is}, proofs.EdgeBands.{IsInOrder, in_order, one_band_on, one_time_on}}

-- ---- a crossed edge is among the edges of a slice
sign_less : (x e : Ratio) → before (x -ℚ e) nil ≡ true → x <ℚ e
sign_less x e h = before-lt x e (by (before x e) refl (before e x) (sign-diff x e ∙ sign_below (x -ℚ e) h))
  where
    by : (a : Bool) → before x e ≡ a → (b : Bool) → cond a Less (cond b Greater Equal) ≡ Less → a ≡ true
    by true q b k = refl
    by false q true k = absurd cc
    by false q false k = absurd cc

sign_more : (x e : Ratio) → before nil (x -ℚ e) ≡ true → e <ℚ x
sign_more x e h = before-lt e x (by (before x e) (before e x) refl (sign-diff x e ∙ sign_above (x -ℚ e) h))
  where
    by : (a b : Bool) → before e x ≡ b → cond a Less (cond b Greater Equal) ≡ Greater → b ≡ true
    by true b q k = absurd cc
    by false true q k = refl
    by false false q k = absurd cc

between_there : (c l u : Ratio) (n : ℤ) → nil <ℚ c → l <ℚ edge_of c n → edge_of c n <ℚ u → Contains (numbers_between (band_of c l) (band_of c u)) n
between_there c l u n p h k =
    let low : band_of c l <ℤ n = edges_lt c (band_of c l) n p (le_lt (edge_of c (band_of c l)) l (edge_of c n) (band_has c l p).from h) in
    let high : n ≤ℤ band_of c u = next_le n (band_of c u) (edges_lt c n (band_of c u +ℤ pos 1) p (lt_trans (edge_of c n) u (edge_of c (band_of c u +ℤ pos 1)) k (band_has c u p).until)) in
    number_there (band_of c l) (band_of c u) n low high

crossed_there : (c x y : Ratio) (n : ℤ) → nil <ℚ c → opposite (x -ℚ edge_of c n) (y -ℚ edge_of c n) ≡ true → Contains (edges_between c x y) n
crossed_there c x y n p h =
    let e = edge_of c n in
    elim (opposite_cases (x -ℚ e) (y -ℚ e) h) [
      | inl k ↦ between_there c (smaller x y) (greater x y) n p (le_lt (smaller x y) x e (not-up_to-le (smaller x y) x (smaller_left x y)) (sign_less x e k.0)) (lt_le e y (greater x y) (sign_more y e k.1) (not-up_to-le y (greater x y) (greater_right x y)))
      | inr k ↦ between_there c (smaller x y) (greater x y) n p (le_lt (smaller x y) y e (not-up_to-le (smaller x y) y (smaller_right x y)) (sign_less y e k.1)) (lt_le e x (greater x y) (sign_more x e k.0) (not-up_to-le x (greater x y) (greater_left x y)))
    ]

root_listed : (s : SpanOf) (f : Ends) → opposite f.at_lower f.at_upper ≡ true → Contains (as_list (root_of s f)) (root_at f.at_lower f.at_upper s.lower s.upper)
root_listed s f h = rw h (first_in _ [])

root_there : (c x y : Ratio) (s : SpanOf) (n : ℤ) → nil <ℚ c → opposite (x -ℚ edge_of c n) (y -ℚ edge_of c n) ≡ true → Contains (roots s (map (tile_edge_ends c x y) (edges_between c x y))) (root_at (x -ℚ edge_of c n) (y -ℚ edge_of c n) s.lower s.upper)
root_there c x y s n p h =
    flat-Contains (λ f. as_list (root_of s f)) (map (tile_edge_ends c x y) (edges_between c x y)) (tile_edge_ends c x y n) (root_at (x -ℚ edge_of c n) (y -ℚ edge_of c n) s.lower s.upper)
    (map-Contains (tile_edge_ends c x y) (edges_between c x y) n (crossed_there c x y n p h)) (root_listed s (tile_edge_ends c x y n) h)

roots_both : (s : SpanOf) (fs gs : List Ends) → roots s (fs ++ gs) ≡ roots s fs ++ roots s gs
roots_both s [] gs = refl
roots_both s (f ∷ fs) gs = ap (λ z. as_list (root_of s f) ++ z) (roots_both s fs gs) ∙ sym (append_assoc (as_list (root_of s f)) (roots s fs) (roots s gs))

edges_rise : (c : Ratio) (n m : ℤ) → nil <ℚ c → n ≤ℤ m → edge_of c n ≤ℚ edge_of c m
edges_rise c n m p h = elim (cases_lt (edge_of c m) (edge_of c n)) [ inl k ↦ absurd (no_two n m h (edges_lt c m n p k)) | inr k ↦ k ]
  where
    no_two : (n m : ℤ) → n ≤ℤ m → m <ℤ n → ⊥
    no_two n m h k = absurd (omega (arith, ints))

up_one : (n m : ℤ) → n <ℤ m → (n +ℤ pos 1) ≤ℤ m
up_one n m h = omega (arith, ints)

module _ (g : GridOf) (s : Slice PlaneLine) (ok : IsGrid g) where
  abbrev functions_x : List Ends
  functions_x = map (tile_edge_ends g.size s.course.from.x s.course.to.x) (x_edges g s)

  abbrev functions_y : List Ends
  functions_y = map (tile_edge_ends g.size s.course.from.y s.course.to.y) (y_edges g s)

  x_there : (n : ℤ) → opposite (s.course.from.x -ℚ edge_of g.size n) (s.course.to.x -ℚ edge_of g.size n) ≡ true → Contains (tile_cuts_of g s) (root_at (s.course.from.x -ℚ edge_of g.size n) (s.course.to.x -ℚ edge_of g.size n) s.span.lower s.span.upper)
  x_there n h =
      let r = root_at (s.course.from.x -ℚ edge_of g.size n) (s.course.to.x -ℚ edge_of g.size n) s.span.lower s.span.upper in
      let own = root_there g.size s.course.from.x s.course.to.x s.span n ok.some_size h in
      Contains-append_left (roots s.span (differences g s)) (map (edge_of g.width) (t_edges g s)) r (subst (λ l. Contains l r) (sym (roots_both s.span functions_x functions_y)) (Contains-append_left (roots s.span functions_x) (roots s.span functions_y) r own))

  y_there : (n : ℤ) → opposite (s.course.from.y -ℚ edge_of g.size n) (s.course.to.y -ℚ edge_of g.size n) ≡ true → Contains (tile_cuts_of g s) (root_at (s.course.from.y -ℚ edge_of g.size n) (s.course.to.y -ℚ edge_of g.size n) s.span.lower s.span.upper)
  y_there n h =
      let r = root_at (s.course.from.y -ℚ edge_of g.size n) (s.course.to.y -ℚ edge_of g.size n) s.span.lower s.span.upper in
      let own = root_there g.size s.course.from.y s.course.to.y s.span n ok.some_size h in
      Contains-append_left (roots s.span (differences g s)) (map (edge_of g.width) (t_edges g s)) r (subst (λ l. Contains l r) (sym (roots_both s.span functions_x functions_y)) (Contains-append_right (roots s.span functions_x) (roots s.span functions_y) r own))

  t_there : (n : ℤ) → s.span.lower <ℚ edge_of g.width n → edge_of g.width n <ℚ s.span.upper → Contains (tile_cuts_of g s) (edge_of g.width n)
  t_there n h k = Contains-append_right (roots s.span (differences g s)) (map (edge_of g.width) (t_edges g s)) (edge_of g.width n) (map-Contains (edge_of g.width) (t_edges g s) n (between_there g.width s.span.lower s.span.upper n ok.some_width h k))

  -- a cell with no cut strictly inside lies in one tile
  one_tile_on : (d : SpanOf) → IsSound (λ c. c.from) (λ c. c.to) s → is_cell_of s.span d ≡ true → ((r : Ratio) → Contains (tile_cuts_of g s) r → NoneWithin r d) → HasOneTile g s d
  one_tile_on d sound i none t h = record {
    in_x = one_band_on g.size s.course.from.x s.course.to.x s.span d (λ z. ap (λ (p : Point). p.x) (sound.level z)) i ok.some_size (λ n k. none _ (x_there n k)) t h;
    in_y = one_band_on g.size s.course.from.y s.course.to.y s.span d (λ z. ap (λ (p : Point). p.y) (sound.level z)) i ok.some_size (λ n k. none _ (y_there n k)) t h;
    in_time = one_time_on g.width s.span d i ok.some_width clear t h;
  }
    where
      o : IsInOrder s.span d
      o = in_order s.span d i

      clear : (n : ℤ) → NoneWithin (edge_of g.width n) d
      clear n = by (before d.lower (edge_of g.width n) && before (edge_of g.width n) d.upper) refl
        where
          by : (b : Bool) → (before d.lower (edge_of g.width n) && before (edge_of g.width n) d.upper) ≡ b → (before d.lower (edge_of g.width n) && before (edge_of g.width n) d.upper) ≡ false
          by false e = e
          by true e =
              let w = and_parts (before d.lower (edge_of g.width n)) (before (edge_of g.width n) d.upper) e in
              none (edge_of g.width n) (t_there n
              (le_lt s.span.lower d.lower (edge_of g.width n) (not-up_to-le s.span.lower d.lower o.low) (before-lt d.lower (edge_of g.width n) w.0))
              (lt_le (edge_of g.width n) d.upper s.span.upper (before-lt (edge_of g.width n) d.upper w.1) (not-up_to-le d.upper s.span.upper o.high)))

  each_cell : (cells : List SpanOf) → AllByRecursion (λ c. is_cell_of s.span c ≡ true) cells → ((r : Ratio) → Contains (tile_cuts_of g s) r → AllByRecursion (NoneWithin r) cells) → IsSound (λ c. c.from) (λ c. c.to) s → AllByRecursion (HasOneTile g s) cells
  each_cell [] a f sound = tt
  each_cell (d ∷ cells) a f sound = (one_tile_on d sound a.0 (λ r k. (f r k).0), each_cell cells a.1 (λ r k. (f r k).1) sound)

  level_map : (c x y : Ratio) (ns : List ℤ) → (before s.span.lower s.span.upper ≡ false → x ≡ y) → AllByRecursion (IsLevel s.span) (map (tile_edge_ends c x y) ns)
  level_map c x y [] f = tt
  level_map c x y (n ∷ ns) f = ((λ h. ap (λ z. z -ℚ edge_of c n) (f h)), level_map c x y ns f)

  pub level_all : IsSound (λ c. c.from) (λ c. c.to) s → AllByRecursion (IsLevel s.span) (differences g s)
  level_all sound = each_both (IsLevel s.span) functions_x functions_y
      (level_map g.size s.course.from.x s.course.to.x (x_edges g s) (λ z. ap (λ (p : Point). p.x) (sound.level z)))
      (level_map g.size s.course.from.y s.course.to.y (y_edges g s) (λ z. ap (λ (p : Point). p.y) (sound.level z)))

  -- the edges of time above the band of the lower end and up to that of the upper one
  time_between : (n : ℤ) → band_of g.width s.span.lower <ℤ n → n ≤ℤ band_of g.width s.span.upper → IsBetween s.span (edge_of g.width n)
  time_between n h k =
      let l = band_has g.width s.span.lower ok.some_width in
      let u = band_has g.width s.span.upper ok.some_width in (
        le-test s.span.lower (edge_of g.width n) (le_trans s.span.lower (edge_of g.width (band_of g.width s.span.lower +ℤ pos 1)) (edge_of g.width n) (le_of_lt _ _ l.until) (edges_rise g.width (band_of g.width s.span.lower +ℤ pos 1) n ok.some_width (up_one (band_of g.width s.span.lower) n h))),
        le-test (edge_of g.width n) s.span.upper (le_trans (edge_of g.width n) (edge_of g.width (band_of g.width s.span.upper)) s.span.upper (edges_rise g.width n (band_of g.width s.span.upper) ok.some_width k) u.from),
      )

  times_from : (low high : ℤ) (k : ℕ) → band_of g.width s.span.lower <ℤ low → (low +ℤ pos k) ≤ℤ (high +ℤ pos 1) → high ≡ band_of g.width s.span.upper → AllByRecursion (IsBetween s.span) (map (edge_of g.width) (count_up low k))
  times_from low high zero h l e = tt
  times_from low high (suc k) h l e = (time_between low h (subst (λ z. low ≤ℤ z) e (omega (arith, ints))), times_from (low +ℤ pos 1) high k (omega (arith, ints)) (omega (arith, ints)) e)

  times_between : band_of g.width s.span.lower ≤ℤ band_of g.width s.span.upper → AllByRecursion (IsBetween s.span) (map (edge_of g.width) (t_edges g s))
  times_between h = times_from (band_of g.width s.span.lower +ℤ pos 1) (band_of g.width s.span.upper) (natural (band_of g.width s.span.upper -ℤ band_of g.width s.span.lower)) (omega (arith, ints)) (fits (band_of g.width s.span.lower) (band_of g.width s.span.upper) h) refl
    where
      fits : (l u : ℤ) → l ≤ℤ u → ((l +ℤ pos 1) +ℤ pos (natural (u -ℤ l))) ≤ℤ (u +ℤ pos 1)
      fits l u h = subst (λ z. ((l +ℤ pos 1) +ℤ z) ≤ℤ (u +ℤ pos 1)) (sym (natural_is (u -ℤ l) (omega (arith, ints)))) (omega (arith, ints))

  pub cuts_between : IsSound (λ c. c.from) (λ c. c.to) s → AllByRecursion (IsBetween s.span) (tile_cuts_of g s)
  cuts_between sound = each_both (IsBetween s.span) (roots s.span (differences g s)) (map (edge_of g.width) (t_edges g s)) (roots_between s.span (differences g s) (level_all sound))
      (times_between (bands_rise g.width s.span.lower s.span.upper ok.some_width (not-up_to-le s.span.lower s.span.upper (some_upto s.span sound.some))))

  -- the cells of a slice, cut at its cuts in any order
  pub cells_good : (sorted : List Ratio) → IsSound (λ c. c.from) (λ c. c.to) s → ((r : Ratio) → Contains (tile_cuts_of g s) r → Contains sorted r) → ((r : Ratio) → Contains sorted r → Contains (tile_cuts_of g s) r) → AreTileCells g s (tile_cuts_of g s) (split_all sorted (start_cells s.span))
  cells_good sorted sound f b =
      let cells = split_all sorted (start_cells s.span) in
      let split : AreSplit s.span cells = all_split s.span sorted (start_cells s.span) (start_are s.span sound.some) in
      let out : (r : Ratio) → Contains (tile_cuts_of g s) r → AllByRecursion (NoneWithin r) cells = λ r k. all_self r sorted (start_cells s.span) (f r k) in
      record {
        split = split;
        cut = record {
          each = all_by_each (λ r. (r ≡ s.span.lower) ⊎ ((r ≡ s.span.upper) ⊎ IsSomeEnd r cells)) (tile_cuts_of g s) (λ r k. let w = each_of_all (IsBetween s.span) (tile_cuts_of g s) (cuts_between sound) r k in end_or_cut s.span r cells split (out r k) w.0 w.1);
          only = only_cuts s.span (tile_cuts_of g s) sorted b;
        };
        tiles = each_cell cells split.are out sound;
      }
