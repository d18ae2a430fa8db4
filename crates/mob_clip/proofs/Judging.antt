-- The entries of a restriction by edges, stage by stage.
use Rattle.std.{specs.Prelude.{◌≡◌, Bool, true, false, cond, List, [], ◌∷◌, ◌++◌, map, Option, Some, None, MatchOption, refl}, specs.List.{AllByRecursion, flat_map}}
use Rattle.std.{proofs.Common.{ap, sym, ◌∙◌, subst, inl, inr}, proofs.lemmas.List.Concat.{flat_map-append}}
use Rattle.mob_ratio.{specs.Ratio.{Ratio, ◌-ℚ◌}, specs.Sign.{opposite, root_at}}
use Rattle.mob_frac.specs.Formula.{AllFit}
use Rattle.mob_span.{specs.Span.{SpanOf}, proofs.SpanLemmas.{has_upto_lower, has_upto_upper}}
use Rattle.mob_plane.{specs.declared.point.Point.{Point}, specs.Turns.{turn, turn_parts, turns_parts}}
use Rattle.mob_slice.{specs.Slices.{IsSound}, specs.Sides.{at_ends}, specs.Cut.{slice_value, slice_parts}, specs.Lines.{plane_value_of, plane_parts_of}, specs.PlaneLaws.{plane_laws}}
use Rattle.mob_slice.{specs.Entries.{IsFirst, IsPartFault}, specs.declared.slice.Slice.{Slice}, specs.declared.line.PlaneLine.{PlaneLine}, specs.declared.formula.Formula.TheVariants.{F1, F2, F3, F4}}
use Rattle.mob_slice.{specs.declared.formula.Formula.{Formula}, proofs.Cuts.{all_both, all_first, all_second}}
use Rattle.mob_list.{specs.Faults.{OnCause}, specs.declared.fault.Fault.{Fault}, specs.declared.fault.Fault.TheVariants.{Because, NoMemory}, proofs.Each.{each_both, each_map}}
use Rattle.mob_cells.{specs.declared.linear.Ends.{Ends}, specs.declared.signs.Placed.{Placed}, specs.Roots.{IsLevel, root_of, root_parts, roots_parts, roots, as_list}, specs.Cells.{IsPlaced}}
use Rattle.mob_cells.{proofs.Zeros.{root_inside}, proofs.OwnEnds.{start_value, end_value}}
use Rattle.mob_clip.{specs.declared.sides.BesideEdge.{BesideEdge}, specs.declared.sides.EdgeEnds.{EdgeEnds}, specs.declared.roots.EdgePlaced.{EdgePlaced}}
use Rattle.mob_clip.specs.Sides.{beside, beside_parts, point_parts, with_turn, turning_parts, IsBeside}
use Rattle.mob_clip.specs.Roots.{place_edge, placed_edge, listed_ends, edge_roots, IsBetweenEnds, IsPlacedEdge, CutsFit}
use Rattle.mob_clip.specs.Polygons.{edge_parts, edges_parts, edge_ends, edges_ends, entries_of_edges}

-- ---- the differences to the first end of each edge
known_each : (p q : Point) (es : List (Point × Point)) → AllFit (flat_map (beside_parts p q) es) → AllByRecursion (IsBeside p q) (map (beside p q) es)
known_each p q [] h = tt
known_each p q (e ∷ es) h = ((refl, all_first (point_parts p q e.0) (point_parts p q e.1) (all_first (beside_parts p q e) (flat_map (beside_parts p q) es) h)), known_each p q es (all_second (beside_parts p q e) (flat_map (beside_parts p q) es) h))

pub all_known : (p q : Point) (es : List (Point × Point)) (bs : List BesideEdge) → bs ≡ map (beside p q) es → AllFit (flat_map (beside_parts p q) es) → AllByRecursion (IsBeside p q) bs
all_known p q es bs e h = rw e (known_each p q es h)

-- ---- parts of three formulas over one list
module _ {A : Type 0} (f g h : A → List Ratio) where
  spread : ((x : A) → AllFit (f x) → AllFit (g x) × AllFit (h x)) → (xs : List A) → AllFit (flat_map f xs) → AllFit (flat_map g xs) × AllFit (flat_map h xs)
  spread k [] a = (tt, tt)
  spread k (x ∷ xs) a =
      let p = k x (all_first (f x) (flat_map f xs) a) in
      let q = spread k xs (all_second (f x) (flat_map f xs) a) in
      (all_both (g x) (flat_map g xs) p.0 q.0, all_both (h x) (flat_map h xs) p.1 q.1)

  gather : ((x : A) → AllFit (g x) → AllFit (h x) → AllFit (f x)) → (xs : List A) → AllFit (flat_map g xs) → AllFit (flat_map h xs) → AllFit (flat_map f xs)
  gather k [] a b = tt
  gather k (x ∷ xs) a b = all_both (f x) (flat_map f xs) (k x (all_first (g x) (flat_map g xs) a) (all_first (h x) (flat_map h xs) b)) (gather k xs (all_second (g x) (flat_map g xs) a) (all_second (h x) (flat_map h xs) b))

-- ---- the roots of an edge
pub within_root : (s : SpanOf) (p : Placed) → IsPlaced s p → AllByRecursion (IsBetweenEnds s) (as_list p.root)
within_root s p h = subst (λ z. AllByRecursion (IsBetweenEnds s) (as_list z)) (sym h.root) (by (opposite p.ends.at_lower p.ends.at_upper) refl)
  where
    by : (b : Bool) → opposite p.ends.at_lower p.ends.at_upper ≡ b → AllByRecursion (IsBetweenEnds s) (as_list (cond b (Some (root_at p.ends.at_lower p.ends.at_upper s.lower s.upper)) None))
    by true o = let r = root_at p.ends.at_lower p.ends.at_upper s.lower s.upper in let i = root_inside s p.ends h.level o in ((has_upto_lower s r i, has_upto_upper s r i), tt)
    by false o = tt

within_edge : (s : SpanOf) (g : EdgePlaced) → IsPlacedEdge s g → AllByRecursion (IsBetweenEnds s) (edge_roots g)
within_edge s g h =
    let W = IsBetweenEnds s in
    each_both W (as_list g.turn.root) (flat_map (λ p. as_list p.root) (g.x_a ∷ g.x_b ∷ g.y_a ∷ g.y_b ∷ [])) (within_root s g.turn h.turn)
    (each_both W (as_list g.x_a.root) (flat_map (λ p. as_list p.root) (g.x_b ∷ g.y_a ∷ g.y_b ∷ [])) (within_root s g.x_a h.x_a)
    (each_both W (as_list g.x_b.root) (flat_map (λ p. as_list p.root) (g.y_a ∷ g.y_b ∷ [])) (within_root s g.x_b h.x_b)
    (each_both W (as_list g.y_a.root) (flat_map (λ p. as_list p.root) (g.y_b ∷ [])) (within_root s g.y_a h.y_a)
    (each_both W (as_list g.y_b.root) [] (within_root s g.y_b h.y_b) tt))))

within_edges : (s : SpanOf) (gs : List EdgePlaced) → AllByRecursion (IsPlacedEdge s) gs → AllByRecursion (IsBetweenEnds s) (flat_map edge_roots gs)
within_edges s [] h = tt
within_edges s (g ∷ gs) h = each_both (IsBetweenEnds s) (edge_roots g) (flat_map edge_roots gs) (within_edge s g h.0) (within_edges s gs h.1)

pub within_all : (s : SpanOf) (gs : List EdgePlaced) (rs : List Ratio) → rs ≡ flat_map edge_roots gs → AllByRecursion (IsPlacedEdge s) gs → AllByRecursion (IsBetweenEnds s) rs
within_all s gs rs e h = rw e (within_edges s gs h)

placed_each : (s : SpanOf) (gs : List EdgeEnds) → AllByRecursion (λ g. AllByRecursion (IsLevel s) (listed_ends g)) gs → AllByRecursion (IsPlacedEdge s) (map (place_edge s) gs)
placed_each s = each_map (λ g. AllByRecursion (IsLevel s) (listed_ends g)) (IsPlacedEdge s) (place_edge s) (λ g h. record {
  turn = record { level = h.0; root = refl };
  x_a = record { level = h.1.0; root = refl };
  x_b = record { level = h.1.1.0; root = refl };
  y_a = record { level = h.1.1.1.0; root = refl };
  y_b = record { level = h.1.1.1.1.0; root = refl };
})

pub are_placed : (s : SpanOf) (gs : List EdgeEnds) (ps : List EdgePlaced) → ps ≡ map (place_edge s) gs → AllByRecursion (λ g. AllByRecursion (IsLevel s) (listed_ends g)) gs → AllByRecursion (IsPlacedEdge s) ps
are_placed s gs ps e h = rw e (placed_each s gs h)

module _ (parts : Ratio → List Ratio) where
  fits_root : (o : Option Ratio) → AllFit (flat_map parts (as_list o)) → MatchOption o (Unit {0}) (λ r. AllFit (parts r))
  fits_root None h = tt
  fits_root (Some r) h = all_first (parts r) [] h

  first_root : (xs ys : List Ratio) → AllFit (flat_map parts (xs ++ ys)) → AllFit (flat_map parts xs) × AllFit (flat_map parts ys)
  first_root xs ys h = let k = subst AllFit (flat_map-append parts xs ys) h in (all_first (flat_map parts xs) (flat_map parts ys) k, all_second (flat_map parts xs) (flat_map parts ys) k)

  edge_fits : (g : EdgePlaced) → AllFit (flat_map parts (edge_roots g)) → CutsFit parts g
  edge_fits g h =
      let a = first_root (as_list g.turn.root) (flat_map (λ p. as_list p.root) (g.x_a ∷ g.x_b ∷ g.y_a ∷ g.y_b ∷ [])) h in
      let b = first_root (as_list g.x_a.root) (flat_map (λ p. as_list p.root) (g.x_b ∷ g.y_a ∷ g.y_b ∷ [])) a.1 in
      let c = first_root (as_list g.x_b.root) (flat_map (λ p. as_list p.root) (g.y_a ∷ g.y_b ∷ [])) b.1 in
      let d = first_root (as_list g.y_a.root) (flat_map (λ p. as_list p.root) (g.y_b ∷ [])) c.1 in
      let e = first_root (as_list g.y_b.root) [] d.1 in
      record { turn = fits_root g.turn.root a.0; x_a = fits_root g.x_a.root b.0; x_b = fits_root g.x_b.root c.0; y_a = fits_root g.y_a.root d.0; y_b = fits_root g.y_b.root e.0 }

  pub cuts_each : (gs : List EdgePlaced) → AllFit (flat_map parts (flat_map edge_roots gs)) → AllByRecursion (CutsFit parts) gs
  cuts_each [] h = tt
  cuts_each (g ∷ gs) h = let k = first_root (edge_roots g) (flat_map edge_roots gs) h in (edge_fits g k.0, cuts_each gs k.1)

-- ---- the lists of the code and those of the entries
turns_flat : (p : Point) (es : List (Point × Point)) → turns_parts p es ≡ flat_map (λ e. turn_parts e.0 e.1 p) es
turns_flat p [] = refl
turns_flat p (e ∷ es) = ap (λ z. turn_parts e.0 e.1 p ++ z) (turns_flat p es)

map_twice : {A B C : Type 0} (f : B → C) (g : A → B) (xs : List A) → map f (map g xs) ≡ map (λ x. f (g x)) xs
map_twice f g [] = refl
map_twice f g (x ∷ xs) = ap (λ z. f (g x) ∷ z) (map_twice f g xs)

flat_map_map : {A B C : Type 0} (f : B → List C) (g : A → B) (xs : List A) → flat_map f (map g xs) ≡ flat_map (λ x. f (g x)) xs
flat_map_map f g [] = refl
flat_map_map f g (x ∷ xs) = ap (λ z. f (g x) ++ z) (flat_map_map f g xs)

flat_map_flat : {A B C : Type 0} (f : B → List C) (g : A → List B) (xs : List A) → flat_map f (flat_map g xs) ≡ flat_map (λ x. flat_map f (g x)) xs
flat_map_flat f g [] = refl
flat_map_flat f g (x ∷ xs) = flat_map-append f (g x) (flat_map g xs) ∙ ap (λ z. flat_map f (g x) ++ z) (flat_map_flat f g xs)

module _ (es : List (Point × Point)) (s : Slice PlaneLine) (sound : IsSound (λ c. c.from) (λ c. c.to) s) where
  abbrev p : Point
  p = s.course.from

  abbrev q : Point
  q = s.course.to

  abbrev parts : Ratio → List Ratio
  parts t = slice_parts plane_parts_of s t

  -- the entries by the limits of the slice, instead of its values at its ends
  both_ends : (f : Point → List Ratio) → at_ends (λ t. f (slice_value plane_value_of s t)) s.span ≡ f p ++ f q
  both_ends f = sym (ap (λ z. f z ++ f q) (start_value plane_laws s) ∙ ap (λ z. f (slice_value plane_value_of s s.span.lower) ++ f z) (end_value plane_laws s sound))

  same_ends : edges_ends (slice_value plane_value_of s s.span.lower) (slice_value plane_value_of s s.span.upper) es ≡ edges_ends p q es
  same_ends = sym (ap (λ z. edges_ends z q es) (start_value plane_laws s) ∙ ap (λ z. edges_ends (slice_value plane_value_of s s.span.lower) z es) (end_value plane_laws s sound))

  -- F2
  one_beside : (e : Point × Point) → AllFit (beside_parts p q e) → AllFit (edge_parts p e) × AllFit (edge_parts q e)
  one_beside e h = ((h.0, (h.1.1.1.1.0, (h.1.1.0, (h.1.1.1.1.1.1.0, tt)))), (h.1.0, (h.1.1.1.1.1.0, (h.1.1.1.0, (h.1.1.1.1.1.1.1.0, tt)))))

  beside_one : (e : Point × Point) → AllFit (edge_parts p e) → AllFit (edge_parts q e) → AllFit (beside_parts p q e)
  beside_one e h k = (h.0, (k.0, (h.1.1.0, (k.1.1.0, (h.1.0, (k.1.0, (h.1.1.1.0, (k.1.1.1.0, tt))))))))

  pub besides_fit : AllFit (flat_map (beside_parts p q) es) → AllFit (at_ends (λ t. edges_parts (slice_value plane_value_of s t) es) s.span)
  besides_fit h =
      let w = spread (beside_parts p q) (edge_parts p) (edge_parts q) one_beside es h in
      subst AllFit (sym (both_ends (λ z. edges_parts z es))) (all_both (edges_parts p es) (edges_parts q es) w.0 w.1)

  fit_besides : AllFit (at_ends (λ t. edges_parts (slice_value plane_value_of s t) es) s.span) → AllFit (flat_map (beside_parts p q) es)
  fit_besides h =
      let k = subst AllFit (both_ends (λ z. edges_parts z es)) h in
      gather (beside_parts p q) (edge_parts p) (edge_parts q) beside_one es (all_first (edges_parts p es) (edges_parts q es) k) (all_second (edges_parts p es) (edges_parts q es) k)

  -- F4
  abbrev T : Point → Point × Point → List Ratio
  T z e = turn_parts e.0 e.1 z

  turned_flat : flat_map (λ b. turning_parts p q b.edge) (map (beside p q) es) ≡ flat_map (turning_parts p q) es
  turned_flat = flat_map_map (λ b. turning_parts p q b.edge) (beside p q) es

  pub turned_fit : AllFit (flat_map (λ b. turning_parts p q b.edge) (map (beside p q) es)) → AllFit (at_ends (λ t. turns_parts (slice_value plane_value_of s t) es) s.span)
  turned_fit h =
      let w = spread (turning_parts p q) (T p) (T q) (λ e k. (all_first (T p e) (T q e) k, all_second (T p e) (T q e) k)) es (subst AllFit turned_flat h) in
      subst AllFit (sym (both_ends (λ z. turns_parts z es))) (all_both (turns_parts p es) (turns_parts q es) (subst AllFit (sym (turns_flat p es)) w.0) (subst AllFit (sym (turns_flat q es)) w.1))

  fit_turned : AllFit (at_ends (λ t. turns_parts (slice_value plane_value_of s t) es) s.span) → AllFit (flat_map (λ b. turning_parts p q b.edge) (map (beside p q) es))
  fit_turned h =
      let k = subst AllFit (both_ends (λ z. turns_parts z es)) h in
      subst AllFit (sym turned_flat) (gather (turning_parts p q) (T p) (T q) (λ e a b. all_both (T p e) (T q e) a b) es (subst AllFit (turns_flat p es) (all_first (turns_parts p es) (turns_parts q es) k)) (subst AllFit (turns_flat q es) (all_second (turns_parts p es) (turns_parts q es) k)))

  -- F3
  abbrev pub ways : List EdgeEnds
  ways = map (with_turn p q) (map (beside p q) es)

  ways_flat : {B : Type 0} (f : Ends → List B) → flat_map (λ g. flat_map f (listed_ends g)) ways ≡ flat_map f (edges_ends p q es)
  ways_flat f =
      flat_map_map (λ g. flat_map f (listed_ends g)) (with_turn p q) (map (beside p q) es)
      ∙ flat_map_map (λ b. flat_map f (listed_ends (with_turn p q b))) (beside p q) es
      ∙ sym (flat_map_flat f (edge_ends p q) es)

  roots_same : flat_map (λ g. roots_parts s.span (listed_ends g)) ways ≡ roots_parts s.span (edges_ends (slice_value plane_value_of s s.span.lower) (slice_value plane_value_of s s.span.upper) es)
  roots_same = ways_flat (root_parts s.span) ∙ ap (roots_parts s.span) (sym same_ends)

  -- F1
  cuts_same : flat_map parts (flat_map edge_roots (map (place_edge s.span) ways)) ≡ flat_map parts (roots s.span (edges_ends (slice_value plane_value_of s s.span.lower) (slice_value plane_value_of s s.span.upper) es))
  cuts_same = ap (flat_map parts) (flat_map_map edge_roots (place_edge s.span) ways ∙ ways_flat (λ f. as_list (root_of s.span f)) ∙ ap (roots s.span) (sym same_ends))

  levels : (xs : List (Point × Point)) → AllByRecursion (λ g. AllByRecursion (IsLevel s.span) (listed_ends g)) (map (with_turn p q) (map (beside p q) xs))
  levels [] = tt
  levels (e ∷ xs) = ((λ n. ap (λ z. turn e.0 e.1 z) (sound.level n), (λ n. ap (λ (z : Point). z.x -ℚ e.0.x) (sound.level n), (λ n. ap (λ (z : Point). z.x -ℚ e.1.x) (sound.level n), (λ n. ap (λ (z : Point). z.y -ℚ e.0.y) (sound.level n), (λ n. ap (λ (z : Point). z.y -ℚ e.1.y) (sound.level n), tt))))), levels xs)

  pub level_ways : (gs : List EdgeEnds) → gs ≡ ways → AllByRecursion (λ g. AllByRecursion (IsLevel s.span) (listed_ends g)) gs
  level_ways gs e = rw e (levels es)

  pub placed_same : map (place_edge s.span) ways ≡ map (placed_edge s) es
  placed_same = map_twice (place_edge s.span) (with_turn p q) (map (beside p q) es) ∙ map_twice (λ b. place_edge s.span (with_turn p q b)) (beside p q) es

  -- ---- the first that does not fit, by the lists made so far
  pub besides_fail : (f : Fault Formula) → IsPartFault F2 (flat_map (beside_parts p q) es) f → OnCause (λ g. IsFirst (entries_of_edges es s) (Some g)) f
  besides_fail (Because f) h = inr (λ a. h.1 (fit_besides a), ap Some h.0)
  besides_fail NoMemory h = tt

  module _ (bs : List BesideEdge) (e : bs ≡ map (beside p q) es) where
    pub are_ways : (gs : List EdgeEnds) → gs ≡ map (with_turn p q) bs → gs ≡ ways
    are_ways gs k = k ∙ ap (map (with_turn p q)) e

    module _ (a : AllFit (flat_map (beside_parts p q) es)) where
      pub turned_fail : (f : Fault Formula) → IsPartFault F4 (flat_map (λ b. turning_parts p q b.edge) bs) f → OnCause (λ g. IsFirst (entries_of_edges es s) (Some g)) f
      turned_fail (Because f) h = inl (besides_fit a, inr (λ b. h.1 (rw e (fit_turned b)), ap Some h.0))
      turned_fail NoMemory h = tt

      module _ (b : AllFit (flat_map (λ b. turning_parts p q b.edge) bs)) (gs : List EdgeEnds) (k : gs ≡ map (with_turn p q) bs) where
        turns : AllFit (at_ends (λ t. turns_parts (slice_value plane_value_of s t) es) s.span)
        turns = turned_fit (rw e at b)

        pub placed_fail : (f : Fault Formula) → IsPartFault F3 (flat_map (λ g. roots_parts s.span (listed_ends g)) gs) f → OnCause (λ g. IsFirst (entries_of_edges es s) (Some g)) f
        placed_fail (Because f) h = inl (besides_fit a, inl (turns, inr (λ c. h.1 (rw (are_ways gs k) (subst AllFit (sym roots_same) c)), ap Some h.0)))
        placed_fail NoMemory h = tt

        module _ (c : AllFit (flat_map (λ g. roots_parts s.span (listed_ends g)) gs)) (ps : List EdgePlaced) (l : ps ≡ map (place_edge s.span) gs) where
          are_all : ps ≡ map (place_edge s.span) ways
          are_all = l ∙ ap (map (place_edge s.span)) (are_ways gs k)

          roots_are : AllFit (roots_parts s.span (edges_ends (slice_value plane_value_of s s.span.lower) (slice_value plane_value_of s s.span.upper) es))
          roots_are = subst AllFit roots_same (rw (are_ways gs k) at c)

          pub cuts_fail : (f : Fault Formula) → IsPartFault F1 (flat_map parts (flat_map edge_roots ps)) f → OnCause (λ g. IsFirst (entries_of_edges es s) (Some g)) f
          cuts_fail (Because f) h = inl (besides_fit a, inl (turns, inl (roots_are, inr (λ d. h.1 (rw are_all (subst AllFit (sym cuts_same) d)), ap Some h.0))))
          cuts_fail NoMemory h = tt

          pub none_fails : AllFit (flat_map parts (flat_map edge_roots ps)) → (ps ≡ map (placed_edge s) es) × IsFirst (entries_of_edges es s) None × AllByRecursion (CutsFit parts) ps
          none_fails d = (are_all ∙ placed_same, inl (besides_fit a, inl (turns, inl (roots_are, inl (subst AllFit cuts_same (rw are_all at d), refl)))), cuts_each parts ps d)
