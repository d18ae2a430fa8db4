-- The parts kept on each cell, and on all of them.
use Rattle.std.specs.Prelude.{◌≡◌, Bool, true, false, cond, ◌||◌, ℕ, List, [], ◌∷◌, ◌++◌, slice_get, Option, Some, None, MatchOption, Result, Ok, Err, MatchResult, refl}
use Rattle.std.{specs.List.{AllByRecursion, flat_map}, specs.declared.cmp.Ordering.{Ordering}, proofs.Common.{ap, sym, ◌∙◌, subst, true≢false, inl, inr, append_assoc, append-nil}}
use Rattle.mob_list.{specs.Faults.{OnCause}, specs.declared.fault.Fault.{Fault}, specs.declared.fault.Fault.TheVariants.{Because, NoMemory}, proofs.Each.{each_get}, proofs.Entries.{each_of_all}}
use Rattle.mob_ratio.specs.Ratio.{Ratio}
use Rattle.mob_frac.specs.Formula.{AllFit}
use Rattle.mob_span.{specs.Span.{SpanOf, has}, specs.Neighbours.{is_inside}, specs.Sets.{in_some}, specs.Pieces.{piece_at}, specs.Flags.{same_bool}, proofs.Insides.{inside-trans}}
use Rattle.mob_slice.{specs.Slices.{value_at}, specs.Pieces.{AreInside}, specs.Sides.{HasValues, at_ends}, specs.Entries.{IsFirst, IsPartFault}, specs.declared.slice.Slice.{Slice}}
use Rattle.mob_slice.{specs.declared.formula.Formula.TheVariants.{F1}, specs.OnPiece.{AreKeptOn}, specs.Piecewise.{AreGivenInOrder, IsPiecewise}, specs.declared.formula.Formula.{Formula}}
use Rattle.mob_slice.{proofs.Cuts.{all_both, all_first, all_second}, proofs.Making.{is_lifted}, proofs.OnOnePiece.{one_kept}}
use Rattle.mob_cells.{specs.Cells.{AreCells, AreCutAt, IsCut, IsSomeEnd}, specs.Restricted.{kept_value}}

-- ---- one cell
module _ {C B : Type 0} (value : C → Ratio → Ratio → Ratio → B) (start end : C → B) where
  kept_by : (f : Ratio → B) (g : Ratio → Option B) (c : SpanOf) (part : Slice C) (k : Bool) → HasValues value start end f c part → ((t : Ratio) → has c t ≡ true → g t ≡ cond k (Some (f t)) None) → AreKeptOn value start end g c (cond k (part ∷ []) [])
  kept_by f g c part true h e = one_kept value start end g f c part h (λ t i. sym (e t i))
  kept_by f g c part false h e = record { ordered = tt; inside = tt; values = λ t i. sym (e t i) }

  pub kept_is : (f : Ratio → B) (c : SpanOf) (part : Slice C) (want : Bool) (keeps : List Ordering → Bool) (signs : Ratio → List Ordering) (os : List Ordering) (k : Bool) → HasValues value start end f c part → ((t : Ratio) → has c t ≡ true → os ≡ signs t) → k ≡ same_bool want (keeps os) → AreKeptOn value start end (λ t. kept_value want (keeps (signs t)) (f t)) c (cond k (part ∷ []) [])
  kept_is f c part want keeps signs os k h n e = kept_by f (λ t. kept_value want (keeps (signs t)) (f t)) c part k h (λ t i. ap (λ z. cond (same_bool want (keeps z)) (Some (f t)) None) (sym (n t i)) ∙ ap (λ b. cond b (Some (f t)) None) (sym e))

  pub cell_is : {V : Type 0} (items : V → List (Slice C)) (r : Result V (Fault Formula)) (f : Ratio → B) (c : SpanOf) (part : Slice C) (want : Bool) (keeps : List Ordering → Bool) (signs : Ratio → List Ordering) (os : List Ordering) (k : Bool) (fits : List Ratio) → HasValues value start end f c part → AllFit fits → ((t : Ratio) → has c t ≡ true → os ≡ signs t) → k ≡ same_bool want (keeps os) → MatchResult r (λ v. items v ≡ cond k (part ∷ []) []) (λ e. e ≡ NoMemory) → MatchResult r (λ v. AreKeptOn value start end (λ t. kept_value want (keeps (signs t)) (f t)) c (items v) × AllFit fits) (IsPartFault F1 fits)
  cell_is items (Ok v) f c part want keeps signs os k fits h a n e m = (rw m (kept_is f c part want keeps signs os k h n e), a)
  cell_is items (Err fault) f c part want keeps signs os k fits h a n e m = rw m tt

-- ---- all cells
all_inside : {D : Type 0} (s c : SpanOf) (v : List (Slice D)) → is_inside s c ≡ true → AreInside c v → AreInside s v
all_inside s c [] h k = tt
all_inside s c (x ∷ v) h k = (inside-trans s c x.span h k.0, all_inside s c v h k.1)

more_inside : {D : Type 0} (s : SpanOf) (v w : List (Slice D)) → AreInside s v → AreInside s w → AreInside s (v ++ w)
more_inside s [] w h k = k
more_inside s (x ∷ v) w h k = (h.0, more_inside s v w h.1 k)

module _ {D B : Type 0} (value : D → Ratio → Ratio → Ratio → B) (start end : D → B) (f : Ratio → Option B) where
  abbrev pub Gives : SpanOf → List (Slice D) → Type 0
  Gives c v = AreKeptOn value start end f c v

  kept_inside : (s : SpanOf) (cells : List SpanOf) (slices : List (Slice D)) → AreGivenInOrder (λ v. v) Gives cells slices → AllByRecursion (λ c. is_inside s c ≡ true) cells → AreInside s slices
  kept_inside s [] slices h k = rw h tt
  kept_inside s (c ∷ cells) slices h k = rw h.4 (more_inside s h.0 h.1 (all_inside s c h.0 k.0 h.2.inside) (kept_inside s cells h.1 h.3 k.1))

  found_by : (c : SpanOf) (cells : List SpanOf) (t : Ratio) (o : Option B) (b : Bool) → has c t ≡ b → (b || in_some cells t) ≡ true → (in_some cells t ≡ true → MatchOption (piece_at (λ c. c) cells t) (o ≡ None) (λ p. (v : List (Slice D)) × Gives p v × (o ≡ value_at value v t)) → o ≡ f t) → MatchOption (cond b (Some c) (piece_at (λ c. c) cells t)) (o ≡ None) (λ p. (v : List (Slice D)) × Gives p v × (o ≡ value_at value v t)) → o ≡ f t
  found_by c cells t o true e h g m = m.2 ∙ m.1.values t e
  found_by c cells t o false e h g m = g h m

  found : (cells : List SpanOf) (t : Ratio) (o : Option B) → in_some cells t ≡ true → MatchOption (piece_at (λ c. c) cells t) (o ≡ None) (λ p. (v : List (Slice D)) × Gives p v × (o ≡ value_at value v t)) → o ≡ f t
  found [] t o h m = absurd (true≢false (sym h))
  found (c ∷ cells) t o h m = found_by c cells t o (has c t) refl h (λ k n. found cells t o k n) m

  pub all_kept : (s : SpanOf) (cells : List SpanOf) (slices : List (Slice D)) → AreGivenInOrder (λ v. v) Gives cells slices → AreCells s cells → AreKeptOn value start end f s slices
  all_kept s cells slices h a =
      let l : IsPiecewise value start end (λ c. c) (λ v. v) Gives cells slices = is_lifted value start end (λ c. c) (λ v. v) Gives (λ p v k g. (g.ordered, g.inside)) cells slices h a.clear in
      record { ordered = l.ordered; inside = kept_inside s cells slices h a.inside; values = λ t i. found cells t (value_at value slices t) (a.covers t ∙ i) (l.at_each t) }

  -- the parts already kept, and then those of the rest, are those of the whole
  abbrev pub IsMade : List SpanOf → List SpanOf → List (Slice D) → Type 0
  IsMade all rest out = (v : List (Slice D)) → AreGivenInOrder (λ v. v) Gives rest v → AreGivenInOrder (λ v. v) Gives all (out ++ v)

  pub made_step : (all rest later : List SpanOf) (out out' more : List (Slice D)) (c : SpanOf) → rest ≡ c ∷ later → out' ≡ out ++ more → Gives c more → IsMade all rest out → IsMade all later out'
  made_step all rest later out out' more c e n g m v k = rw (n, append_assoc out more v) (m (more ++ v) (subst (λ z. AreGivenInOrder (λ v. v) Gives z (more ++ v)) (sym e) (more, v, g, k, refl)))

  pub made_end : (s : SpanOf) (all rest : List SpanOf) (out : List (Slice D)) → rest ≡ [] → AreCells s all → IsMade all rest out → AreKeptOn value start end f s out
  made_end s all rest out e a m = all_kept s all out (rw append-nil at (m [] (rw e refl))) a

-- ---- the formulas
module _ (parts : Ratio → List Ratio) where
  abbrev EndsFit : SpanOf → Type 0
  EndsFit c = AllFit (at_ends parts c)

  pub roots_fit : (rs : List Ratio) → AllFit (flat_map parts rs) → AllByRecursion (λ t. AllFit (parts t)) rs
  roots_fit [] h = tt
  roots_fit (r ∷ rs) h = (all_first (parts r) (flat_map parts rs) h, roots_fit rs (all_second (parts r) (flat_map parts rs) h))

  fit_roots : (rs : List Ratio) → AllByRecursion (λ t. AllFit (parts t)) rs → AllFit (flat_map parts rs)
  fit_roots [] h = tt
  fit_roots (r ∷ rs) h = all_both (parts r) (flat_map parts rs) h.0 (fit_roots rs h.1)

  cut_fits : (s : SpanOf) (rs : List Ratio) (t : Ratio) → AllFit (parts s.lower) → AllFit (parts s.upper) → AllByRecursion (λ t. AllFit (parts t)) rs → IsCut s rs t → AllFit (parts t)
  cut_fits s rs t a b h i = elim i [ inl e ↦ subst (λ z. AllFit (parts z)) (sym e) a | inr k ↦ elim k [ inl e ↦ subst (λ z. AllFit (parts z)) (sym e) b | inr j ↦ each_of_all (λ t. AllFit (parts t)) rs h t j ] ]

  -- if the values at the ends of the piece and at the roots fit, so do those at the ends of each
  -- cell
  pub cells_fit : (s : SpanOf) (rs : List Ratio) (cells : List SpanOf) → EndsFit s → AllByRecursion (λ t. AllFit (parts t)) rs → AllByRecursion (λ c. IsCut s rs c.lower × IsCut s rs c.upper) cells → AllByRecursion EndsFit cells
  cells_fit s rs [] a h k = tt
  cells_fit s rs (c ∷ cells) a h k =
      let l = all_first (parts s.lower) (parts s.upper) a in
      let u = all_second (parts s.lower) (parts s.upper) a in
      (all_both (parts c.lower) (parts c.upper) (cut_fits s rs c.lower l u h k.0.0) (cut_fits s rs c.upper l u h k.0.1), cells_fit s rs cells a h k.1)

  pub end_fits : (r : Ratio) (cells : List SpanOf) → AllByRecursion EndsFit cells → IsSomeEnd r cells → AllFit (parts r)
  end_fits r [] h i = absurd i
  end_fits r (c ∷ cells) h i = elim i [
    | inl k ↦ elim k [ inl e ↦ subst (λ z. AllFit (parts z)) e (all_first (parts c.lower) (parts c.upper) h.0) | inr e ↦ subst (λ z. AllFit (parts z)) e (all_second (parts c.lower) (parts c.upper) h.0) ]
    | inr k ↦ end_fits r cells h.1 k
  ]

  each_fits : (rs : List Ratio) (cells : List SpanOf) → AllByRecursion EndsFit cells → AllByRecursion (λ r. IsSomeEnd r cells) rs → AllByRecursion (λ t. AllFit (parts t)) rs
  each_fits [] cells h k = tt
  each_fits (r ∷ rs) cells h k = (end_fits r cells h k.0, each_fits rs cells h k.1)

  pub cuts_fit : (s : SpanOf) (rs : List Ratio) (cells : List SpanOf) → AreCutAt s rs cells → AllByRecursion EndsFit cells → AllFit (flat_map parts rs)
  cuts_fit s rs cells a h = fit_roots rs (each_fits rs cells h a.each)

  pub cuts_fail : (s : SpanOf) (rs : List Ratio) (cells : List SpanOf) (i : ℕ) (c : SpanOf) → AreCutAt s rs cells → EndsFit s → slice_get cells i ≡ Some c → (¬ EndsFit c) → ¬ AllFit (flat_map parts rs)
  cuts_fail s rs cells i c a b e n h = n (each_get EndsFit cells i c (cells_fit s rs cells b (roots_fit rs h) a.only) e)

  pub fits_more : (all rest later : List SpanOf) (c : SpanOf) → rest ≡ c ∷ later → EndsFit c → (AllByRecursion EndsFit rest → AllByRecursion EndsFit all) → AllByRecursion EndsFit later → AllByRecursion EndsFit all
  fits_more all rest later c e h m k = m (rw e (h, k))

  pub fits_end : (all rest : List SpanOf) → rest ≡ [] → (AllByRecursion EndsFit rest → AllByRecursion EndsFit all) → AllByRecursion EndsFit all
  fits_end all rest e m = m (rw e tt)

pub kept_fault : (parts : List Ratio) (all : List Ratio) (f : Fault Formula) → IsPartFault F1 parts f → ((¬ AllFit parts) → ¬ AllFit all) → OnCause (λ g. IsFirst (record { formula = F1; parts = all } ∷ []) (Some g)) f
kept_fault parts all (Because f) h g = inr (g h.1, ap Some h.0)
kept_fault parts all NoMemory h g = tt
