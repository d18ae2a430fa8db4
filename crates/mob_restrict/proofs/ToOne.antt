-- The restriction of a slice to one value.
use Rattle.std.{specs.Prelude.{◌≡◌, Bool, true, false, cond, List, [], ◌∷◌, ◌++◌, Some, None, Result, Ok, Err, MatchResult, refl}, specs.List.{AllByRecursion}}
use Rattle.std.proofs.Common.{ap, sym, ◌∙◌, subst, inl, inr}
use Rattle.mob_ratio.specs.Ratio.{Ratio}
use Rattle.mob_frac.specs.Formula.{AllFit}
use Rattle.mob_span.specs.Flags.{same_bool}
use Rattle.mob_slice.{specs.declared.formula.Formula.TheVariants.{F2}, specs.Course.{IsCourse}, specs.Slices.{IsSound}, specs.Comparison.{IsComparison, gap_parts}, specs.Look.{IsLookFault}}
use Rattle.mob_slice.{specs.Cut.{slice_value, slice_parts}, specs.Sides.{at_ends, HasValues}, specs.Entries.{IsFirst, IsPartFault}, specs.declared.slice.Slice.{Slice}}
use Rattle.mob_slice.{specs.declared.comparison.Rel.{Rel}, specs.declared.comparison.Rel.TheVariants.{Eq}, specs.declared.comparison.Gaps.{Gaps}, specs.declared.comparison.Gaps.TheVariants.{Constant}}
use Rattle.mob_slice.{specs.OnPiece.{AreKeptOn, IsKeptBy}, specs.declared.formula.Formula.{Formula}, proofs.OnOnePiece.{kept_behind, one_kept}}
use Rattle.mob_list.{specs.Faults.{OnCause}, specs.declared.fault.Fault.{Fault}, specs.declared.fault.Fault.TheVariants.{Because, NoMemory}}
use Rattle.mob_cells.{specs.declared.linear.Ends.{Ends}, specs.Roots.{IsLevel}, specs.Cells.{signs_of}, specs.Kept.{entries_of_cuts}, specs.Restricted.{kept_value}, specs.Gaps.{gap_ends, related_by}}
use Rattle.mob_cells.{proofs.GapSigns.{by_gaps, no_gaps, gaps_level}, proofs.OwnEnds.{own_fit, start_value, end_value}}
use Rattle.mob_restrict.specs.Values.{entries_of_value, slice_gaps}

module _ {C B : Type 0} {steady copies : Bool} {value : C → Ratio → Ratio → Ratio → B} {start end : C → B} {can_make : B → B → Type 0} {make : B → B → C} {continues : C → C → Ratio → Ratio → Ratio → Bool} {parts : C → Ratio → Ratio → Ratio → List Ratio} (laws : IsCourse steady copies value start end can_make make continues parts)
    {relation : Rel → B → B → Bool} {gaps : B → B → Gaps} {ordered : Bool} (comparison : IsComparison steady ordered value start end relation gaps) (s : Slice C) (sound : IsSound start end s) (x : B) where
  low : gaps (start s.course) x ≡ slice_gaps value gaps x s s.span.lower
  low = ap (λ z. gaps z x) (start_value laws s)

  high : gaps (end s.course) x ≡ slice_gaps value gaps x s s.span.upper
  high = ap (λ z. gaps z x) (end_value laws s sound)

  same_parts : gap_parts (gaps (start s.course) x) ++ gap_parts (gaps (end s.course) x) ≡ at_ends (λ t. gap_parts (slice_gaps value gaps x s t)) s.span
  same_parts = ap (λ g. gap_parts g ++ gap_parts (gaps (end s.course) x)) low ∙ ap (λ g. gap_parts (slice_gaps value gaps x s s.span.lower) ++ gap_parts g) high

  same_ends : gap_ends (gaps (start s.course) x) (gaps (end s.course) x) ≡ gap_ends (slice_gaps value gaps x s s.span.lower) (slice_gaps value gaps x s s.span.upper)
  same_ends = ap (λ g. gap_ends g (gaps (end s.course) x)) low ∙ ap (λ g. gap_ends (slice_gaps value gaps x s s.span.lower) g) high

  pub gaps_fail : (f : Fault Formula) → IsPartFault F2 (gap_parts (gaps (start s.course) x) ++ gap_parts (gaps (end s.course) x)) f → OnCause (λ g. IsFirst (entries_of_value value parts gaps x s) (Some g)) f
  gaps_fail (Because f) h = inr (subst (λ z. ¬ AllFit z) same_parts h.1, ap Some h.0)
  gaps_fail NoMemory h = tt

  pub level_gaps : (fs : List Ends) → fs ≡ gap_ends (gaps (start s.course) x) (gaps (end s.course) x) → AllByRecursion (IsLevel s.span) fs
  level_gaps fs e = rw e (gaps_level s.span (gaps (start s.course) x) (gaps (end s.course) x) (λ n. ap (λ z. gaps z x) (sound.level n)))

  module _ (moves : steady ≡ false) (want : Bool) (fs : List Ends) (e : fs ≡ gap_ends (gaps (start s.course) x) (gaps (end s.course) x)) (fits : AllFit (gap_parts (gaps (start s.course) x) ++ gap_parts (gaps (end s.course) x))) where
    related : (t : Ratio) → related_by Eq (signs_of s.span fs t) ≡ relation Eq (slice_value value s t) x
    related t =
        let d = make x x in
        let c = laws.can_level x in
        ap (λ z. related_by Eq (signs_of s.span z t)) (e ∙ ap (λ z. gap_ends (gaps (start s.course) z) (gaps (end s.course) x)) (sym (laws.start_made x x c)) ∙ ap (λ z. gap_ends (gaps (start s.course) (start d)) (gaps (end s.course) z)) (sym (laws.end_made x x c)))
        ∙ sym (by_gaps comparison moves Eq tt s.course d s.span t)
        ∙ ap (λ y. relation Eq (slice_value value s t) y) (laws.level x s.span.lower s.span.upper t)

    pub lines_kept : {V : Type 0} (items : V → List (Slice C)) (q : Result V (Fault Formula)) → IsKeptBy value start end items (λ t. kept_value want (related_by Eq (signs_of s.span fs t)) (slice_value value s t)) s.span (entries_of_cuts parts s s.span fs) q → IsKeptBy value start end items (λ t. kept_value want (relation Eq (slice_value value s t) x) (slice_value value s t)) s.span (entries_of_value value parts gaps x s) q
    lines_kept items q m = kept_behind value start end items (λ t. kept_value want (related_by Eq (signs_of s.span fs t)) (slice_value value s t)) (λ t. kept_value want (relation Eq (slice_value value s t) x) (slice_value value s t)) s.span (entries_of_value value parts gaps x s) (entries_of_cuts parts s s.span fs) q
        (λ t i. ap (λ b. kept_value want b (slice_value value s t)) (related t))
        (λ o h. inl (subst AllFit same_parts fits, subst (λ z. IsFirst (entries_of_cuts parts s s.span z) o) (e ∙ same_ends) h)) m

  module _ (stays : steady ≡ true) where
    none : (t : Ratio) → slice_gaps value gaps x s t ≡ Constant
    none t = no_gaps comparison stays (slice_value value s t) x

    parts_none : at_ends (λ t. gap_parts (slice_gaps value gaps x s t)) s.span ≡ []
    parts_none = rw (none s.span.lower, none s.span.upper) refl

    pub steady_first : IsFirst (entries_of_value value parts gaps x s) None
    steady_first = inl (subst AllFit (sym parts_none) tt, subst (λ z. IsFirst (entries_of_cuts parts s s.span z) None) (sym (ap (λ g. gap_ends g (slice_gaps value gaps x s s.span.upper)) (none s.span.lower))) (inl (tt, inl (tt, refl))))

    value_same : (t : Ratio) → slice_value value s t ≡ start s.course
    value_same t = laws.one_value stays s.course s.span.lower s.span.upper t

    wanted : (want k : Bool) (t : Ratio) → k ≡ same_bool want (relation Eq (start s.course) x) → cond k (Some (slice_value value s t)) None ≡ kept_value want (relation Eq (slice_value value s t) x) (slice_value value s t)
    wanted want k t e = ap (λ b. cond b (Some (slice_value value s t)) None) (e ∙ ap (λ y. same_bool want (relation Eq y x)) (sym (value_same t)))

    pub steady_nothing : (want k : Bool) (v : List (Slice C)) → k ≡ same_bool want (relation Eq (start s.course) x) → k ≡ false → v ≡ [] → AreKeptOn value start end (λ t. kept_value want (relation Eq (slice_value value s t) x) (slice_value value s t)) s.span v
    steady_nothing want k v e n m = rw m (record { ordered = tt; inside = tt; values = λ t i. ap (λ b. cond b (Some (slice_value value s t)) None) (sym n) ∙ wanted want k t e })

    pub steady_fails : (f : Fault Formula) → IsLookFault copies (at_ends (slice_parts parts s) s.span) f → OnCause (λ g. IsFirst (entries_of_value value parts gaps x s) (Some g)) f
    steady_fails (Because f) h = absurd (h.1 (own_fit laws s))
    steady_fails NoMemory h = tt

    pub steady_all : {V : Type 0} (items : V → List (Slice C)) (q : Result V (Fault Formula)) (want k : Bool) (p : Slice C) → k ≡ same_bool want (relation Eq (start s.course) x) → k ≡ true → HasValues value start end (slice_value value s) s.span p → MatchResult q (λ v. items v ≡ p ∷ []) (λ e. e ≡ NoMemory) → IsKeptBy value start end items (λ t. kept_value want (relation Eq (slice_value value s t) x) (slice_value value s t)) s.span (entries_of_value value parts gaps x s) q
    steady_all items (Ok v) want k p e n h m =
        (rw m (one_kept value start end (λ t. kept_value want (relation Eq (slice_value value s t) x) (slice_value value s t)) (slice_value value s) s.span p h (λ t i. ap (λ b. cond b (Some (slice_value value s t)) None) (sym n) ∙ wanted want k t e)), steady_first)
    steady_all items (Err f) want k p e n h m = rw m tt
