-- The restriction of a slice to one value in numbers of any size.
use Rattle.std.{specs.Prelude.{◌≡◌, Bool, false, List, [], ◌∷◌, Option, Some, None, Result, Ok, Err, refl}}
use Rattle.std.proofs.Common.{ap, sym, ◌∙◌}
use Rattle.mob_list.{specs.declared.fault.Fault.{Fault}, specs.declared.fault.Fault.TheVariants.{Because, NoMemory}}
use Rattle.mob_ratio.specs.Ratio.{Ratio}
use Rattle.mob_span.{specs.Meets.{PieceOf}, proofs.Insides.{inside_self}}
use Rattle.mob_slice.{specs.Comparison.{IsComparison, gap_parts}, specs.Course.{IsCourse}, specs.Cut.{slice_value}, specs.Entries.{IsFirst}, specs.Modes.{by_mode, entry_given}, specs.OnPiece.{AreKeptOn, IsKeptBy}, specs.Sides.{at_ends, SideOf, Moves, Stays, HoldsPiece}, specs.Slices.{IsSound}}
use Rattle.mob_slice.{specs.declared.comparison.Gaps.{Gaps}, specs.declared.comparison.Rel.{Rel}, specs.declared.comparison.Rel.TheVariants.{Eq}, specs.declared.formula.Formula.{Formula}, specs.declared.formula.Formula.TheVariants.{F2}, specs.declared.mode.Mode.{Mode}, specs.declared.mode.Mode.TheVariants.{Narrow, Wide}, specs.declared.slice.Slice.{Slice}}
use Rattle.mob_slice.proofs.{Firsts.{one_first}, Narrowing.{given_fits}, OnOnePiece.{kept_behind}, Options.{none_some}}
use Rattle.mob_cells.{specs.declared.turning.Turning.{Turning}, specs.Gaps.{gap_ends}, specs.Kept.{entry_of_cuts, entry_of_roots}, specs.Restricted.{kept_value}, specs.Turnings.{IsTurning, kept_turned, turn_numbers}}
use Rattle.mob_cells.proofs.{AllFirst.{none_back, none_front, none_one}, PieceTurns.{level_piece, related_at}, TurnChanges.{changes_fit, same_first}}
use Rattle.mob_restrict.{specs.Sql.Wide.{given_values, value_changes}, specs.Values.{entries_of_value, slice_gaps}}

pub none_by_mode : (mode : Mode) → IsFirst (by_mode mode [] []) None
none_by_mode Narrow = refl
none_by_mode Wide = refl

-- a slice and a value, as a piece
abbrev pub beside : {C B : Type 0} → Slice C → B → PieceOf (SideOf C B) (SideOf C B)
beside s x = record { span = s.span; left = Moves s; right = Stays x }

pub beside_holds : {C B : Type 0} (start end : C → B) (s : Slice C) (x : B) → IsSound start end s → HoldsPiece start end start end (beside s x)
beside_holds start end s x sound = ((sound, inside_self s.span), tt)

-- ---- where the narrow entries fit, so do the wide ones
module _ {C B : Type 0} (value : C → Ratio → Ratio → Ratio → B) (lines : C → Ratio → Ratio → Ratio → List Ratio) (gaps : B → B → Gaps) (relates : B → B → Bool) (x : B) where
  pub values_narrow : (s : Slice C) → IsFirst (entries_of_value value lines gaps x s) None → IsFirst (given_values value gaps relates x s) None
  values_narrow s h =
      let fs = gap_ends (slice_gaps value gaps x s s.span.lower) (slice_gaps value gaps x s s.span.upper) in
      let cuts = none_back (record { formula = F2; parts = at_ends (λ t. gap_parts (slice_gaps value gaps x s t)) s.span } ∷ []) (entry_of_roots s.span fs ∷ entry_of_cuts lines s s.span fs ∷ []) h in
      given_fits (value_changes value gaps relates x s) (changes_fit s.span fs (λ t. relates (slice_value value s t) x) (none_one (entry_of_roots s.span fs) (none_front (entry_of_roots s.span fs ∷ []) (entry_of_cuts lines s s.span fs ∷ []) cuts)))

  abbrev wanted : Bool → Slice C → Ratio → Option B
  wanted want s t = kept_value want (relates (slice_value value s t) x) (slice_value value s t)

  module _ (want : Bool) (s : Slice C) where
    pub kept_narrow : {start end : C → B} (v : List (Slice C)) → AreKeptOn value start end (wanted want s) s.span v × IsFirst (entries_of_value value lines gaps x s) None → AreKeptOn value start end (wanted want s) s.span v × IsFirst (given_values value gaps relates x s) None
    kept_narrow v h = (h.0, values_narrow s h.1)

    -- where they all fit, the result is the same
    pub kept_alike : {V : Type 0} (start end : C → B) (items : V → List (Slice C)) → IsFirst (entries_of_value value lines gaps x s) None → (q : Result V (Fault Formula)) → IsKeptBy value start end items (wanted want s) s.span (entries_of_value value lines gaps x s) q → IsKeptBy value start end items (wanted want s) s.span (given_values value gaps relates x s) q
    kept_alike start end items fits (Ok v) h = kept_narrow (items v) h
    kept_alike start end items fits (Err (Because f)) h = none_some f (one_first (entries_of_value value lines gaps x s) None (Some f) fits h)
    kept_alike start end items fits (Err NoMemory) h = tt

-- ---- by the results on the slice
module _ {C B : Type 0} {steady copies : Bool} {value : C → Ratio → Ratio → Ratio → B} {start end : C → B} {can_make : B → B → Type 0} {make : B → B → C} {continues : C → C → Ratio → Ratio → Ratio → Bool} {parts : C → Ratio → Ratio → Ratio → List Ratio} (laws : IsCourse steady copies value start end can_make make continues parts)
    {relation : Rel → B → B → Bool} {gaps : B → B → Gaps} {ordered : Bool} (comparison : IsComparison steady ordered value start end relation gaps) where
  pub turned_kept : {V : Type 0} (items : V → List (Slice C)) (q : Result V (Fault Formula)) (want : Bool) (s : Slice C) (x : B) (w : Turning) → steady ≡ false → IsSound start end s
      → IsTurning s.span (gap_ends (slice_gaps value gaps x s s.span.lower) (slice_gaps value gaps x s s.span.upper)) Eq w → IsKeptBy value start end items (kept_turned value want w s) s.span (entry_given (turn_numbers w.turn)) q
      → IsKeptBy value start end items (λ t. kept_value want (relation Eq (slice_value value s t) x) (slice_value value s t)) s.span (given_values value gaps (relation Eq) x s) q
  turned_kept items q want s x w moves sound results m =
      let p : PieceOf (SideOf C B) (SideOf C B) = beside s x in
      let fs = gap_ends (slice_gaps value gaps x s s.span.lower) (slice_gaps value gaps x s s.span.upper) in
      let meets : Ratio → Bool = λ t. relation Eq (slice_value value s t) x in
      let level = level_piece value gaps p (slice_gaps value gaps x s s.span.lower) (slice_gaps value gaps x s s.span.upper) sound.some refl refl in
      let is = related_at laws comparison p (beside_holds start end s x sound) sound.some moves Eq tt in
      kept_behind value start end items (kept_turned value want w s) (λ t. kept_value want (relation Eq (slice_value value s t) x) (slice_value value s t)) s.span (given_values value gaps (relation Eq) x s) (entry_given (turn_numbers w.turn)) q
      (λ t i. ap (λ b. kept_value want b (slice_value value s t)) (sym (results.each t i) ∙ sym (is t i)))
      (same_first s.span fs Eq w meets sound.some level results is) m
