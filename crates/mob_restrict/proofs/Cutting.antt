-- The parts cut out of a temporal value.
use Rattle.std.{specs.Prelude.{◌≡◌, Bool, true, List, [], ◌∷◌, map, Option, Some, None, option_map, Result, Ok, Err, MatchResult, IfOk, refl}, specs.List.{flat_map, AllByRecursion}}
use Rattle.std.{specs.Iterator.{Yields, Drains, YieldsFirstBy}, proofs.Common.{ap, sym, ◌∙◌, subst, inl, inr}, proofs.lemmas.Result.{IfOk-weaker}}
use Rattle.mob_ratio.specs.Ratio.{Ratio}
use Rattle.mob_frac.specs.Formula.{AllFit}
use Rattle.mob_span.{specs.Span.{SpanOf}, specs.Meets.{PieceOf, shared_pieces}, specs.Pieces.{piece_at}, specs.Sets.{in_some}, proofs.MeetLaws.{meets_at, meets_hold, HoldsBoth, sides}}
use Rattle.mob_span.proofs.Sharing.{is_there, there}
use Rattle.mob_slice.{specs.Slices.{IsSound, IsRisingInTime, value_at}, specs.Parts.{HoldsMet}, specs.Operands.{map_both}, specs.Look.{IsLookFault}, specs.Cut.{slice_value, slice_parts}}
use Rattle.mob_slice.{specs.Sides.{at_ends, HasValues}, specs.Entries.{IsFirst, IsJudged}, specs.declared.slice.Slice.{Slice}, specs.declared.formula.Formula.{Formula}}
use Rattle.mob_slice.{specs.Piecewise.{IsPiecewise, IsFirstFailure}, proofs.LookUps.{value_by}, proofs.Orders.{all_sound}, proofs.Yielded.{drained}}
use Rattle.mob_list.{specs.Faults.{OnCause}, specs.declared.fault.Fault.{Fault}, specs.declared.fault.Fault.TheVariants.{Because, NoMemory}}
use Rattle.mob_lift.{specs.Given.{AreOn, IsGiven}, proofs.OnPieces.{one_on}, proofs.PieceLaws.{map_at, twice, both_map}, proofs.Pointwise.{mapped_at}, proofs.Judged.{judged}}
use Rattle.mob_cells.specs.Restricted.{where_wanted, AreRestricted}
use Rattle.mob_restrict.specs.Cuts.{entry_of_cut}

-- one cut, or the reason why it failed
module _ {C : Type 0} (lines : C → Ratio → Ratio → Ratio → List Ratio) (p : PieceOf (Slice C) SpanOf) where
  pub cut_fails : (copies : Bool) (f : Fault Formula) → IsLookFault copies (at_ends (slice_parts lines p.left) p.span) f → OnCause (λ f. IsFirst (entry_of_cut lines p) (Some f)) f
  cut_fails copies (Because f) h = inr (h.1, ap Some h.0)
  cut_fails copies NoMemory h = tt

  pub cut_given : {B V : Type 0} (value : C → Ratio → Ratio → Ratio → B) (start end : C → B) (items : V → List (Slice C)) (s : Slice C) (r : Result V (Fault Formula)) → HasValues value start end (slice_value value p.left) p.span s → AllFit (at_ends (slice_parts lines p.left) p.span) → MatchResult r (λ v. items v ≡ s ∷ []) (λ e. e ≡ NoMemory) → IsGiven value start end items (slice_value value p.left) p.span (entry_of_cut lines p) r
  cut_given value start end items s (Ok v) h k m = (one_on value start end (slice_value value p.left) p.span s (items v) m h, inl (k, refl))
  cut_given value start end items s (Err g) h k m = rw m tt

all_units : (rs : List SpanOf) → AllByRecursion (λ r. Unit {0}) rs
all_units [] = tt
all_units (r ∷ rs) = (tt, all_units rs)

-- the slices of the pieces contain them
pub met_hold : {C B : Type 0} (start end : C → B) (v : List (Slice C)) (spans : List SpanOf) → IsRisingInTime start end v → AllByRecursion (HoldsMet start end) (shared_pieces (λ s. s.span) (λ r. r) v spans)
met_hold {C} start end v spans h = firsts (shared_pieces (λ s. s.span) (λ r. r) v spans) (meets_hold (λ s. s.span) (λ r. r) (IsSound start end) (λ r. Unit {0}) v spans (all_sound start end v h) (all_units spans))
  where
    firsts : (ps : List (PieceOf (Slice C) SpanOf)) → AllByRecursion (HoldsBoth (λ s. s.span) (λ r. r) (IsSound start end) (λ r. Unit {0})) ps → AllByRecursion (HoldsMet start end) ps
    firsts [] m = tt
    firsts (p ∷ ps) m = (m.0.0, firsts ps m.1)

wanted_there : {B : Type 0} (o : Option B) (p : Option SpanOf) (b : Bool) → b ≡ is_there p → map_both (λ x r. x) o p ≡ where_wanted true (λ x. b) o
wanted_there None p b e = refl
wanted_there (Some x) None b e = rw e refl
wanted_there (Some x) (Some r) b e = rw e refl

as_it_is : (o : Option SpanOf) → option_map (λ r. r) o ≡ o
as_it_is None = refl
as_it_is (Some r) = refl

module _ {C B P V I W : Type 0} (value : C → Ratio → Ratio → Ratio → B) (start end : C → B) (lines : C → Ratio → Ratio → Ratio → List Ratio) (items : V → List (Slice C)) (view : P → PieceOf (Slice C) SpanOf) (rest : I → List (PieceOf (Slice C) SpanOf)) (list : W → List (Slice C)) (walk : I) (v : List (Slice C)) (spans : List SpanOf) (e : rest walk ≡ shared_pieces (λ s. s.span) (λ r. r) v spans) (gives : P → V → Type 0) (fails : Formula → P → Type 0)
    (gave : (p : P) (u : V) → gives p u → AreOn value start end (slice_value value (view p).left) (view p).span (items u) × IsFirst (entry_of_cut lines (view p)) None)
    (failed : (f : Formula) (p : P) → fails f p → IsFirst (entry_of_cut lines (view p)) (Some f)) where
  abbrev span : P → SpanOf
  span p = (view p).span

  within_values : (ps : List P) (slices : List (Slice C)) → rest walk ≡ map view ps → IsPiecewise value start end span items gives ps slices → AreRestricted value start end true (λ t x. in_some spans t) v slices
  within_values ps slices i h = record {
    ordered = h.ordered;
    values = λ t.
        let f : PieceOf (Slice C) SpanOf → B = λ q. slice_value value q.left t in
        let ms = shared_pieces (λ s. s.span) (λ r. r) v spans in
        let k : Slice C × SpanOf → B = λ q. slice_value value q.0 t in
        mapped_at h (λ p t. slice_value value (view p).left t) (λ p u t j g. (gave p u g).0.values t j) t
        ∙ sym (ap (option_map f) (map_at span (λ q. q.span) view (λ p. refl) ps t) ∙ twice view f (piece_at span ps t))
        ∙ ap (λ qs. option_map f (piece_at (λ q. q.span) qs t)) (sym i ∙ e)
        ∙ sym (twice (sides (λ s. s.span) (λ r. r)) k (piece_at (λ q. q.span) ms t))
        ∙ ap (option_map k) (meets_at (λ s. s.span) (λ r. r) v spans t)
        ∙ both_map (λ x r. x) (λ s. slice_value value s t) (λ r. r) (piece_at (λ s. s.span) v t) (piece_at (λ r. r) spans t)
        ∙ ap (λ o. map_both (λ x r. x) o (option_map (λ r. r) (piece_at (λ r. r) spans t))) (sym (value_by value v t))
        ∙ ap (λ o. map_both (λ x r. x) (value_at value v t) o) (as_it_is (piece_at (λ r. r) spans t))
        ∙ wanted_there (value_at value v t) (piece_at (λ r. r) spans t) (in_some spans t) (there (λ r. r) spans t);
  }

  -- the result for the whole, from the cuts of all pieces
  pub whole_within : (r : Result W (Fault Formula))
      → IfOk r (λ all. (ps : List P) × Drains (YieldsFirstBy view rest) walk ps × IsPiecewise value start end span items gives ps (list all))
      → ((f : Formula) → r ≡ Err (Because f) → (ps : List P) × (t : I) × Yields (YieldsFirstBy view rest) walk ps t × IsFirstFailure gives (fails f) ps)
      → IfOk r (λ all. AreRestricted value start end true (λ t x. in_some spans t) v (list all)) × IsJudged (flat_map (entry_of_cut lines) (shared_pieces (λ s. s.span) (λ r. r) v spans)) r
  whole_within r h k = (
    IfOk-weaker r _ _ (λ all n. within_values n.0 (list all) (drained view rest walk n.0 n.1) n.2) h,
    subst (λ qs. IsJudged (flat_map (entry_of_cut lines) qs) r) e (judged view rest items gives fails (entry_of_cut lines) walk r (λ p u g. (gave p u g).1) failed (IfOk-weaker r _ _ (λ all n. (n.0, n.1, list all, n.2.made)) h) k),
  )
