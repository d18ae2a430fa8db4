-- A temporal value at the instants that are not in a set, by the remainders of its time.
use Rattle.std.{specs.Prelude.{◌≡◌, ◌⊎◌, Bool, true, false, cond, ◌&&◌, not, List, [], ◌∷◌, ◌++◌, map, Option, Some, None, Result, Ok, Err, refl}, specs.List.{flat_map, filter, AllByRecursion}}
use Rattle.std.proofs.Common.{ap, sym, ◌∙◌, subst, inl, inr, ⊎_elim, true≢false}
use Rattle.mob_ratio.specs.Ratio.{Ratio}
use Rattle.mob_frac.{specs.Formula.{AllFit}, proofs.Fits.{all_fit_or}}
use Rattle.mob_span.{specs.Span.{SpanOf, has, has_instant}, specs.Neighbours.{is_inside}, specs.Meet.{meet_of}, specs.Meets.{PieceOf, shared_pieces}, specs.Sets.{in_some, IsSpanSet}}
use Rattle.mob_span.{specs.Remainders.{AreRemainders, remainders_of}, proofs.Insides.{inside_has}, proofs.Shared.{row}, proofs.Leaving.{set_clear}, proofs.RemainderEnds.{remainders_cut, spans_cut}}
use Rattle.mob_slice.{specs.Course.{IsCourse}, specs.Slices.{value_at}, specs.Sides.{at_ends}, specs.Cut.{slice_parts}, specs.Entries.{IsFirst, IsJudged}, specs.declared.slice.Slice.{Slice}}
use Rattle.mob_slice.{specs.declared.formula.Formula.{Formula}, specs.declared.formula.Formula.TheVariants.{F1}, proofs.Cuts.{all_both, all_first, all_second}, proofs.Options.{none_some}}
use Rattle.mob_list.{specs.declared.fault.Fault.{Fault}, specs.declared.fault.Fault.TheVariants.{Because, NoMemory}}
use Rattle.mob_cells.specs.Restricted.{where_wanted, AreRestricted}
use Rattle.mob_restrict.specs.Cuts.{entry_of_cut}

-- a value is defined only within its time
gone : {C B : Type 0} (value : C → Ratio → Ratio → Ratio → B) (h : SpanOf) (v : List (Slice C)) (t : Ratio) → AllByRecursion (λ s. is_inside h s.span ≡ true) v → has h t ≡ false → value_at value v t ≡ None
gone value h [] t a n = refl
gone value h (s ∷ v) t a n = rw (inside_has h s.span t a.0 n) (gone value h v t a.1 n)

by_hull : {B : Type 0} (o : Option B) (inside w : Bool) → (inside ≡ false → o ≡ None) → where_wanted true (λ x. inside && not w) o ≡ where_wanted false (λ x. w) o
by_hull o false w f = rw (f refl) refl
by_hull None true w f = refl
by_hull (Some x) true w f = refl

-- its values in the remainders of its time are its values at the instants outside the set
pub outside_values : {C B : Type 0} (value : C → Ratio → Ratio → Ratio → B) (start end : C → B) (v slices : List (Slice C)) (h : SpanOf) (spans remainders : List SpanOf) → AllByRecursion (λ s. is_inside h s.span ≡ true) v → AreRemainders h spans remainders → AreRestricted value start end true (λ t x. in_some remainders t) v slices → AreRestricted value start end false (λ t x. in_some spans t) v slices
outside_values value start end v slices h spans remainders a g r = record {
  ordered = r.ordered;
  values = λ t. r.values t ∙ ap (λ b. where_wanted true (λ x. b) (value_at value v t)) (g t) ∙ by_hull (value_at value v t) (has h t) (in_some spans t) (λ n. gone value h v t a n);
}

module _ {C : Type 0} (parts : C → Ratio → Ratio → Ratio → List Ratio) where
  -- every cut at the ends of the pieces fits
  abbrev pub CutsFit : List (PieceOf (Slice C) SpanOf) → Type 0
  CutsFit ps = AllByRecursion (λ p. AllFit (at_ends (slice_parts parts p.left) p.span)) ps

  cuts_fit : (ps : List (PieceOf (Slice C) SpanOf)) → IsFirst (flat_map (entry_of_cut parts) ps) None → CutsFit ps
  cuts_fit [] h = tt
  cuts_fit (p ∷ ps) h = ⊎_elim (λ m. (m.0, cuts_fit ps m.1)) (λ m. none_some F1 m.1) h

  none_first : (ps : List (PieceOf (Slice C) SpanOf)) → CutsFit ps → IsFirst (flat_map (entry_of_cut parts) ps) None
  none_first [] h = refl
  none_first (p ∷ ps) h = inl (h.0, none_first ps h.1)

  one_fails : (ps : List (PieceOf (Slice C) SpanOf)) (f : Formula) → IsFirst (flat_map (entry_of_cut parts) ps) (Some f) → (Some f ≡ Some F1) × (¬ CutsFit ps)
  one_fails [] f h = none_some f (sym h)
  one_fails (p ∷ ps) f h = ⊎_elim (λ m. let n = one_fails ps f m.1 in (n.0, λ k. n.1 k.1)) (λ m. (m.1, λ k. m.0 k.0)) h

  first_fails : (ps : List (PieceOf (Slice C) SpanOf)) → (¬ CutsFit ps) → IsFirst (flat_map (entry_of_cut parts) ps) (Some F1)
  first_fails [] n = absurd (n tt)
  first_fails (p ∷ ps) n = ⊎_elim (λ m. inl (m, first_fails ps (λ k. n (m, k)))) (λ m. inr (m, refl)) (all_fit_or (at_ends (slice_parts parts p.left) p.span))

  -- if two lists of cuts fit or fail together, they give the same error
  judged_alike : {V : Type 0} (ps qs : List (PieceOf (Slice C) SpanOf)) (r : Result V (Fault Formula)) → (CutsFit ps → CutsFit qs) → (CutsFit qs → CutsFit ps) → IsJudged (flat_map (entry_of_cut parts) ps) r → IsJudged (flat_map (entry_of_cut parts) qs) r
  judged_alike ps qs (Ok v) f g h = none_first qs (f (cuts_fit ps h))
  judged_alike ps qs (Err (Because e)) f g h = let m = one_fails ps e h in subst (λ o. IsFirst (flat_map (entry_of_cut parts) qs) o) (sym m.0) (first_fails qs (λ k. m.1 (g k)))
  judged_alike ps qs (Err NoMemory) f g h = tt

  -- the cuts of one slice, at the ends of its intersection with each span
  abbrev SliceFits : Slice C → List SpanOf → Type 0
  SliceFits s rs = AllByRecursion (λ r. has_instant (meet_of s.span r) ≡ true → AllFit (slice_parts parts s (meet_of s.span r).lower) × AllFit (slice_parts parts s (meet_of s.span r).upper)) rs

  row_fits : (s : Slice C) (rs : List SpanOf) → CutsFit (row (λ s. s.span) (λ r. r) s rs) → SliceFits s rs
  row_fits s [] h = tt
  row_fits s (r ∷ rs) h = by (has_instant (meet_of s.span r)) refl h (λ q. row_fits s rs q)
    where
      by : (b : Bool) → has_instant (meet_of s.span r) ≡ b → CutsFit (map (λ z. record { span = meet_of s.span z; left = s; right = z }) (cond b (r ∷ filter (λ z. has_instant (meet_of s.span z)) rs) (filter (λ z. has_instant (meet_of s.span z)) rs))) → (CutsFit (row (λ s. s.span) (λ r. r) s rs) → SliceFits s rs) → SliceFits s (r ∷ rs)
      by true e k ih = (λ i. (all_first (slice_parts parts s (meet_of s.span r).lower) (slice_parts parts s (meet_of s.span r).upper) k.0, all_second (slice_parts parts s (meet_of s.span r).lower) (slice_parts parts s (meet_of s.span r).upper) k.0), ih k.1)
      by false e k ih = (λ i. absurd (true≢false (sym i ∙ e)), ih k)

  fits_row : (s : Slice C) (rs : List SpanOf) → SliceFits s rs → CutsFit (row (λ s. s.span) (λ r. r) s rs)
  fits_row s [] h = tt
  fits_row s (r ∷ rs) h = by (has_instant (meet_of s.span r)) refl (fits_row s rs h.1)
    where
      by : (b : Bool) → has_instant (meet_of s.span r) ≡ b → CutsFit (row (λ s. s.span) (λ r. r) s rs) → CutsFit (map (λ z. record { span = meet_of s.span z; left = s; right = z }) (cond b (r ∷ filter (λ z. has_instant (meet_of s.span z)) rs) (filter (λ z. has_instant (meet_of s.span z)) rs)))
      by true e ih = let m = h.0 e in (all_both (slice_parts parts s (meet_of s.span r).lower) (slice_parts parts s (meet_of s.span r).upper) m.0 m.1, ih)
      by false e ih = ih

  fit_both : (ps qs : List (PieceOf (Slice C) SpanOf)) → CutsFit ps → CutsFit qs → CutsFit (ps ++ qs)
  fit_both [] qs h k = k
  fit_both (p ∷ ps) qs h k = (h.0, fit_both ps qs h.1 k)

  fit_front : (ps qs : List (PieceOf (Slice C) SpanOf)) → CutsFit (ps ++ qs) → CutsFit ps × CutsFit qs
  fit_front [] qs h = (tt, h)
  fit_front (p ∷ ps) qs h = let m = fit_front ps qs h.1 in ((h.0, m.0), m.1)

  -- if two lists of spans cut each slice at the same instants, they cut the whole so
  cut_alike : (v : List (Slice C)) (rs ws : List SpanOf) (h : SpanOf) → AllByRecursion (λ s. is_inside h s.span ≡ true) v → ((s : Slice C) → is_inside h s.span ≡ true → SliceFits s rs → SliceFits s ws) → CutsFit (shared_pieces (λ s. s.span) (λ r. r) v rs) → CutsFit (shared_pieces (λ s. s.span) (λ r. r) v ws)
  cut_alike [] rs ws h a f k = tt
  cut_alike (s ∷ v) rs ws h a f k =
      let m = fit_front (row (λ s. s.span) (λ r. r) s rs) (shared_pieces (λ s. s.span) (λ r. r) v rs) k in
      fit_both (row (λ s. s.span) (λ r. r) s ws) (shared_pieces (λ s. s.span) (λ r. r) v ws) (fits_row s ws (f s a.0 (row_fits s rs m.0))) (cut_alike v rs ws h a.1 f m.1)

module _ {C B : Type 0} {steady copies : Bool} {value : C → Ratio → Ratio → Ratio → B} {start end : C → B} {can_make : B → B → Type 0} {make : B → B → C} {continues : C → C → Ratio → Ratio → Ratio → Bool} {parts : C → Ratio → Ratio → Ratio → List Ratio} (laws : IsCourse steady copies value start end can_make make continues parts) where
  own_low : (s : Slice C) → AllFit (slice_parts parts s s.span.lower)
  own_low s = subst AllFit (sym (laws.lower_parts s.course s.span.lower s.span.upper)) tt

  own_high : (s : Slice C) → AllFit (slice_parts parts s s.span.upper)
  own_high s = subst AllFit (sym (laws.upper_parts s.course s.span.lower s.span.upper)) tt

  -- The remainders of the time of a value cut it where the set does. So both give the same error.
  pub judged_by_set : {V : Type 0} (v : List (Slice C)) (spans remainders : List SpanOf) (h : SpanOf) (r : Result V (Fault Formula)) → AllByRecursion (λ s. is_inside h s.span ≡ true) v → has_instant h ≡ true → IsSpanSet spans → remainders ≡ remainders_of h spans
      → IsJudged (flat_map (entry_of_cut parts) (shared_pieces (λ s. s.span) (λ r. r) v remainders)) r → IsJudged (flat_map (entry_of_cut parts) (shared_pieces (λ s. s.span) (λ r. r) v spans)) r
  judged_by_set v spans remainders h r a i o e j =
      judged_alike parts (shared_pieces (λ s. s.span) (λ r. r) v (remainders_of h spans)) (shared_pieces (λ s. s.span) (λ r. r) v spans) r
      (cut_alike parts v (remainders_of h spans) spans h a (λ s k. spans_cut (λ t. AllFit (slice_parts parts s t)) s.span (own_low s) (own_high s) h spans k i o))
      (cut_alike parts v spans (remainders_of h spans) h a (λ s k. remainders_cut (λ t. AllFit (slice_parts parts s t)) s.span (own_low s) (own_high s) h spans k (set_clear spans o)))
      (subst (λ z. IsJudged (flat_map (entry_of_cut parts) (shared_pieces (λ s. s.span) (λ r. r) v z)) r) e j)
