-- A comparison on one piece.
use Rattle.std.{specs.Prelude.{◌≡◌, Bool, true, false, List, [], ◌∷◌, ◌++◌, Option, Some, None, Result, Ok, Err, IfErr, refl}, specs.List.{AllByRecursion, flat_map}}
use Rattle.std.proofs.Common.{ap, sym, ◌∙◌, subst, inl, inr}
use Rattle.mob_ratio.{specs.Ratio.{Ratio}, specs.Order.{before}}
use Rattle.mob_frac.specs.Formula.{AllFit}
use Rattle.mob_span.{specs.Span.{has}, specs.Meets.{PieceOf}}
use Rattle.mob_slice.{specs.declared.formula.Formula.TheVariants.{F2}, specs.Course.{IsCourse}, specs.Comparison.{IsComparison, MayAsk, gap_parts}, specs.Look.{IsLookFault}}
use Rattle.mob_slice.{specs.Operands.{steady_value, steady_limit}, specs.Sides.{SideOf, side_at, side_parts, at_ends, HasValues}, specs.Entries.{IsFirst, IsJudged, IsPartFault}}
use Rattle.mob_slice.{specs.declared.slice.Slice.{Slice}, specs.declared.steady.Steady.{Steady}, specs.declared.comparison.Rel.{Rel}, specs.declared.comparison.Gaps.{Gaps}}
use Rattle.mob_slice.{specs.declared.formula.Formula.{Formula}, specs.OnPiece.{IsKeptBy}, proofs.Cuts.{all_both, all_first, all_second}, proofs.Firsts.{one_first}, proofs.OnOnePiece.{kept_behind}}
use Rattle.mob_slice.{proofs.Options.{none_some}, proofs.JoinedFirsts.{first_joined}}
use Rattle.mob_list.{specs.Faults.{OnCause}, specs.declared.fault.Fault.{Fault}, specs.declared.fault.Fault.TheVariants.{Because, NoMemory}}
use Rattle.mob_lift.specs.Given.{IsGiven, on_sides}
use Rattle.mob_cells.{specs.declared.linear.Ends.{Ends}, specs.Roots.{IsLevel}, specs.Cells.{signs_of}, specs.Kept.{entry_of_roots}, specs.Gaps.{gap_ends, related_by, piece_gaps, entries_of_ends}}
use Rattle.mob_cells.{proofs.GapSigns.{by_gaps, gaps_level}, proofs.SteadyEnds.{gap_none, steady_ends}}
use Rattle.mob_compare.specs.Compared.{entries_of_gaps}

module _ {C B : Type 0} (value : C → Ratio → Ratio → Ratio → B) (lines : C → Ratio → Ratio → Ratio → List Ratio) (gaps : B → B → Gaps) (p : PieceOf (SideOf C B) (SideOf C B)) where
  pub left_fails : (copies : Bool) (f : Fault Formula) → IsLookFault copies (at_ends (side_parts lines p.left) p.span) f → OnCause (λ g. IsFirst (entries_of_gaps value lines gaps p) (Some g)) f
  left_fails copies (Because f) h = inr (λ all. h.1 (all_first (at_ends (side_parts lines p.left) p.span) (at_ends (side_parts lines p.right) p.span) all), ap Some h.0)
  left_fails copies NoMemory h = tt

  pub right_fails : (copies : Bool) (f : Fault Formula) → IsLookFault copies (at_ends (side_parts lines p.right) p.span) f → OnCause (λ g. IsFirst (entries_of_gaps value lines gaps p) (Some g)) f
  right_fails copies (Because f) h = inr (λ all. h.1 (all_second (at_ends (side_parts lines p.left) p.span) (at_ends (side_parts lines p.right) p.span) all), ap Some h.0)
  right_fails copies NoMemory h = tt

  module _ {start end : C → B} (l r : Slice C) (hl : HasValues value start end (side_at value p.left) p.span l) (hr : HasValues value start end (side_at value p.right) p.span r)
      (fl : AllFit (at_ends (side_parts lines p.left) p.span)) (fr : AllFit (at_ends (side_parts lines p.right) p.span)) where
    low : gaps (start l.course) (start r.course) ≡ piece_gaps value gaps p p.span.lower
    low = ap (λ x. gaps x (start r.course)) hl.from ∙ ap (λ y. gaps (side_at value p.left p.span.lower) y) hr.from

    high : gaps (end l.course) (end r.course) ≡ piece_gaps value gaps p p.span.upper
    high = ap (λ x. gaps x (end r.course)) hl.to ∙ ap (λ y. gaps (side_at value p.left p.span.upper) y) hr.to

    same_parts : gap_parts (gaps (start l.course) (start r.course)) ++ gap_parts (gaps (end l.course) (end r.course)) ≡ at_ends (λ t. gap_parts (piece_gaps value gaps p t)) p.span
    same_parts = ap (λ g. gap_parts g ++ gap_parts (gaps (end l.course) (end r.course))) low ∙ ap (λ g. gap_parts (piece_gaps value gaps p p.span.lower) ++ gap_parts g) high

    same_ends : gap_ends (gaps (start l.course) (start r.course)) (gaps (end l.course) (end r.course)) ≡ gap_ends (piece_gaps value gaps p p.span.lower) (piece_gaps value gaps p p.span.upper)
    same_ends = ap (λ g. gap_ends g (gaps (end l.course) (end r.course))) low ∙ ap (λ g. gap_ends (piece_gaps value gaps p p.span.lower) g) high

    first_fit : AllFit (at_ends (side_parts lines p.left) p.span ++ at_ends (side_parts lines p.right) p.span)
    first_fit = all_both (at_ends (side_parts lines p.left) p.span) (at_ends (side_parts lines p.right) p.span) fl fr

    pub gaps_fail : (f : Fault Formula) → IsPartFault F2 (gap_parts (gaps (start l.course) (start r.course)) ++ gap_parts (gaps (end l.course) (end r.course))) f → OnCause (λ g. IsFirst (entries_of_gaps value lines gaps p) (Some g)) f
    gaps_fail (Because f) h = inl (first_fit, inr (subst (λ z. ¬ AllFit z) same_parts h.1, ap Some h.0))
    gaps_fail NoMemory h = tt

    pub level_gaps : (fs : List Ends) → fs ≡ gap_ends (gaps (start l.course) (start r.course)) (gaps (end l.course) (end r.course)) → AllByRecursion (IsLevel p.span) fs
    level_gaps fs e = rw e (gaps_level p.span (gaps (start l.course) (start r.course)) (gaps (end l.course) (end r.course)) (λ n.
        ap (λ x. gaps x (start r.course)) (hl.sound.level (subst (λ z. before z.lower z.upper ≡ false) (sym hl.on) n)) ∙ ap (λ y. gaps (end l.course) y) (hr.sound.level (subst (λ z. before z.lower z.upper ≡ false) (sym hr.on) n))))

    module _ {relation : Rel → B → B → Bool} {steady ordered : Bool} (laws : IsComparison steady ordered value start end relation gaps) (moves : steady ≡ false) (rel : Rel) (asked : MayAsk ordered rel) (fs : List Ends) (e : fs ≡ gap_ends (gaps (start l.course) (start r.course)) (gaps (end l.course) (end r.course)))
        (fits : AllFit (gap_parts (gaps (start l.course) (start r.course)) ++ gap_parts (gaps (end l.course) (end r.course)))) where
      related : (t : Ratio) → has p.span t ≡ true → related_by rel (signs_of p.span fs t) ≡ relation rel (side_at value p.left t) (side_at value p.right t)
      related t i =
          ap (λ z. related_by rel (signs_of p.span z t)) e
          ∙ sym (by_gaps laws moves rel asked l.course r.course p.span t)
          ∙ ap (λ x. relation rel x (value r.course p.span.lower p.span.upper t)) (subst (λ z. value l.course z.lower z.upper t ≡ side_at value p.left t) hl.on (hl.same t i))
          ∙ ap (λ y. relation rel (side_at value p.left t) y) (subst (λ z. value r.course z.lower z.upper t ≡ side_at value p.right t) hr.on (hr.same t i))

      behind : (r : Option Formula) → IsFirst (entry_of_roots p.span fs ∷ []) r → IsFirst (entries_of_gaps value lines gaps p) r
      behind r h = inl (first_fit, inl (subst AllFit same_parts fits, subst (λ z. IsFirst (entry_of_roots p.span z ∷ []) r) (e ∙ same_ends) h))

      pub lines_given : {V : Type 0} (items : V → List (Slice (Steady Bool))) (q : Result V (Fault Formula)) → IsKeptBy steady_value steady_limit steady_limit items (λ t. Some (related_by rel (signs_of p.span fs t))) p.span (entry_of_roots p.span fs ∷ []) q → IsGiven steady_value steady_limit steady_limit items (on_sides value value (relation rel) p) p.span (entries_of_gaps value lines gaps p) q
      lines_given items q m = kept_behind steady_value steady_limit steady_limit items (λ t. Some (related_by rel (signs_of p.span fs t))) (λ t. Some (on_sides value value (relation rel) p t)) p.span (entries_of_gaps value lines gaps p) (entry_of_roots p.span fs ∷ []) q (λ t i. ap Some (related t i)) behind m

-- ---- steady courses
module _ {C B : Type 0} {steady copies : Bool} {value : C → Ratio → Ratio → Ratio → B} {start end : C → B} {can_make : B → B → Type 0} {make : B → B → C} {continues : C → C → Ratio → Ratio → Ratio → Bool} {parts : C → Ratio → Ratio → Ratio → List Ratio} (laws : IsCourse steady copies value start end can_make make continues parts)
    {relation : Rel → B → B → Bool} {gaps : B → B → Gaps} {ordered : Bool} (comparison : IsComparison steady ordered value start end relation gaps) (s : steady ≡ true) where
  steady_first : (p : PieceOf (SideOf C B) (SideOf C B)) → IsFirst (entries_of_gaps value parts gaps p) None
  steady_first p = first_joined (entries_of_ends value parts gaps p) (entry_of_roots p.span (gap_ends (piece_gaps value gaps p p.span.lower) (piece_gaps value gaps p p.span.upper)) ∷ []) None (steady_ends laws comparison s p)
      (subst (λ z. IsFirst (entry_of_roots p.span z ∷ []) None) (sym (ap (λ h. gap_ends h (piece_gaps value gaps p p.span.upper)) (gap_none laws comparison s p p.span.lower))) (inl (tt, refl)))

  steady_fits : (ps : List (PieceOf (SideOf C B) (SideOf C B))) → IsFirst (flat_map (entries_of_gaps value parts gaps) ps) None
  steady_fits [] = refl
  steady_fits (p ∷ ps) = first_joined (entries_of_gaps value parts gaps p) (flat_map (entries_of_gaps value parts gaps) ps) None (steady_first p) (steady_fits ps)

  -- so the only error is a failed allocation
  pub memory_alone : {V : Type 0} (ps : List (PieceOf (SideOf C B) (SideOf C B))) (q : Result V (Fault Formula)) → IsJudged (flat_map (entries_of_gaps value parts gaps) ps) q → IfErr q (λ e. e ≡ NoMemory)
  memory_alone ps (Ok v) h = tt
  memory_alone ps (Err (Because f)) h = none_some f (one_first (flat_map (entries_of_gaps value parts gaps) ps) None (Some f) (steady_fits ps) h)
  memory_alone ps (Err NoMemory) h = refl
