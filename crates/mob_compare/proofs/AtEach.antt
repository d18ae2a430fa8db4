-- Comparisons at each instant in numbers of any size, on one piece.
use Rattle.std.{specs.Prelude.{◌≡◌, Bool, true, false, List, [], ◌∷◌, Some, None, Result, Ok, Err, IfErr, MatchResult, refl}, specs.List.{flat_map}}
use Rattle.std.proofs.Common.{ap, sym, ◌∙◌, subst}
use Rattle.mob_list.{specs.Faults.{OnCause}, specs.declared.fault.Fault.{Fault}, specs.declared.fault.Fault.TheVariants.{Because, NoMemory}}
use Rattle.mob_ratio.specs.Ratio.{Ratio}
use Rattle.mob_frac.specs.Formula.{AllFit}
use Rattle.mob_span.{specs.Span.{has_instant}, specs.Meets.{PieceOf}}
use Rattle.mob_slice.{specs.Comparison.{IsComparison, MayAsk}, specs.Course.{IsCourse}, specs.Entries.{IsFirst, IsJudged}, specs.Modes.{entry_given}, specs.OnPiece.{IsKeptBy}, specs.Operands.{steady_value, steady_limit}, specs.Sides.{SideOf, Moves, Stays, HoldsPiece, side_at, side_start}}
use Rattle.mob_slice.{specs.declared.comparison.Gaps.{Gaps}, specs.declared.comparison.Rel.{Rel}, specs.declared.formula.Formula.{Formula}, specs.declared.slice.Slice.{Slice}, specs.declared.steady.Steady.{Steady}}
use Rattle.mob_slice.proofs.{Firsts.{one_first}, JoinedFirsts.{first_joined}, Narrowing.{given_fits}, OnOnePiece.{kept_behind, one_steady}, Options.{none_some}}
use Rattle.mob_lift.specs.Given.{AreOn, IsGiven, on_sides}
use Rattle.mob_cells.{specs.declared.turning.Turning.{Turning}, specs.Gaps.{entries_of_ends, gap_ends, piece_gaps}, specs.Kept.{entry_of_roots}, specs.Roots.{roots_parts}, specs.Turnings.{IsTurning, turn_numbers, turning_at}}
use Rattle.mob_cells.proofs.{AllFirst.{none_back, none_one}, PieceTurns.{level_piece, related_at, turning_piece}, SteadyEnds.{gap_none}, TurnChanges.{changes_fit, same_first}}
use Rattle.mob_compare.{specs.Compared.{entries_of_gaps}, specs.Sql.Wide.{given_changes, sign_changes}}

-- ---- where the narrow entries fit, so do the wide ones
module _ {C B : Type 0} (value : C → Ratio → Ratio → Ratio → B) (lines : C → Ratio → Ratio → Ratio → List Ratio) (gaps : B → B → Gaps) (relates : B → B → Bool) where
  pub changes_narrow : (p : PieceOf (SideOf C B) (SideOf C B)) → IsFirst (entries_of_gaps value lines gaps p) None → IsFirst (given_changes value gaps relates p) None
  changes_narrow p h =
      let fs = gap_ends (piece_gaps value gaps p p.span.lower) (piece_gaps value gaps p p.span.upper) in
      given_fits (sign_changes value gaps relates p) (changes_fit p.span fs (λ t. relates (side_at value p.left t) (side_at value p.right t)) (none_one (entry_of_roots p.span fs) (none_back (entries_of_ends value lines gaps p) (entry_of_roots p.span fs ∷ []) h)))

  pub lines_narrow : (v : List (Slice (Steady Bool))) (p : PieceOf (SideOf C B) (SideOf C B)) → AreOn steady_value steady_limit steady_limit (on_sides value value relates p) p.span v × IsFirst (entries_of_gaps value lines gaps p) None → AreOn steady_value steady_limit steady_limit (on_sides value value relates p) p.span v × IsFirst (given_changes value gaps relates p) None
  lines_narrow v p h = (h.0, changes_narrow p h.1)

-- ---- by the results on the piece
module _ {C B : Type 0} {steady copies : Bool} {value : C → Ratio → Ratio → Ratio → B} {start end : C → B} {can_make : B → B → Type 0} {make : B → B → C} {continues : C → C → Ratio → Ratio → Ratio → Bool} {parts : C → Ratio → Ratio → Ratio → List Ratio} (laws : IsCourse steady copies value start end can_make make continues parts)
    {relation : Rel → B → B → Bool} {gaps : B → B → Gaps} {ordered : Bool} (comparison : IsComparison steady ordered value start end relation gaps) where
  pub turned_given : {V : Type 0} (items : V → List (Slice (Steady Bool))) (q : Result V (Fault Formula)) (p : PieceOf (SideOf C B) (SideOf C B)) (rel : Rel) (w : Turning) (first last : Gaps) → steady ≡ false → MayAsk ordered rel → HoldsPiece start end start end p → has_instant p.span ≡ true
      → first ≡ piece_gaps value gaps p p.span.lower → last ≡ piece_gaps value gaps p p.span.upper → IsTurning p.span (gap_ends first last) rel w → IsKeptBy steady_value steady_limit steady_limit items (λ t. Some (turning_at p.span w t)) p.span (entry_given (turn_numbers w.turn)) q
      → IsGiven steady_value steady_limit steady_limit items (on_sides value value (relation rel) p) p.span (given_changes value gaps (relation rel) p) q
  turned_given items q p rel w first last moves asked held some ef el t m =
      let fs = gap_ends (piece_gaps value gaps p p.span.lower) (piece_gaps value gaps p p.span.upper) in
      let results = turning_piece value gaps p first last rel w ef el t in
      let meets : Ratio → Bool = λ u. relation rel (side_at value p.left u) (side_at value p.right u) in
      let level = level_piece value gaps p (piece_gaps value gaps p p.span.lower) (piece_gaps value gaps p p.span.upper) some refl refl in
      let is = related_at laws comparison p held some moves rel asked in
      kept_behind steady_value steady_limit steady_limit items (λ u. Some (turning_at p.span w u)) (λ u. Some (on_sides value value (relation rel) p u)) p.span (given_changes value gaps (relation rel) p) (entry_given (turn_numbers w.turn)) q
      (λ u i. ap Some (sym (results.each u i) ∙ sym (is u i)))
      (same_first p.span fs rel w meets some level results is) m

  -- ---- steady courses
  steady_at : (q : SideOf C B) (t : Ratio) → steady ≡ true → side_start start q ≡ side_at value q t
  steady_at (Moves s) t e = sym (laws.one_value e s.course s.span.lower s.span.upper t)
  steady_at (Stays b) t e = refl

  pub steady_changes : (s : steady ≡ true) (relates : B → B → Bool) (p : PieceOf (SideOf C B) (SideOf C B)) → IsFirst (given_changes value gaps relates p) None
  steady_changes s relates p =
      let fs = gap_ends (piece_gaps value gaps p p.span.lower) (piece_gaps value gaps p p.span.upper) in
      let none : fs ≡ [] = ap (λ g. gap_ends g (piece_gaps value gaps p p.span.upper)) (gap_none laws comparison s p p.span.lower) in
      given_fits (sign_changes value gaps relates p) (changes_fit p.span fs (λ t. relates (side_at value p.left t) (side_at value p.right t)) (subst (λ z. AllFit (roots_parts p.span z)) (sym none) tt))

  changes_none : (s : steady ≡ true) (relates : B → B → Bool) (ps : List (PieceOf (SideOf C B) (SideOf C B))) → IsFirst (flat_map (given_changes value gaps relates) ps) None
  changes_none s relates [] = refl
  changes_none s relates (p ∷ ps) = first_joined (given_changes value gaps relates p) (flat_map (given_changes value gaps relates) ps) None (steady_changes s relates p) (changes_none s relates ps)

  -- the only error is a failed allocation
  pub changes_alone : {V : Type 0} (s : steady ≡ true) (relates : B → B → Bool) (ps : List (PieceOf (SideOf C B) (SideOf C B))) (q : Result V (Fault Formula)) → IsJudged (flat_map (given_changes value gaps relates) ps) q → IfErr q (λ e. e ≡ NoMemory)
  changes_alone s relates ps (Ok v) h = tt
  changes_alone s relates ps (Err (Because f)) h = none_some f (one_first (flat_map (given_changes value gaps relates) ps) None (Some f) (changes_none s relates ps) h)
  changes_alone s relates ps (Err NoMemory) h = refl

  -- and the one value is that at each instant
  pub steady_given : {V : Type 0} (items : V → List (Slice (Steady Bool))) (q : Result V (Fault Formula)) (s : steady ≡ true) (rel : Rel) (p : PieceOf (SideOf C B) (SideOf C B)) (x : Bool) → has_instant p.span ≡ true → x ≡ relation rel (side_start start p.left) (side_start start p.right)
      → MatchResult q (λ v. items v ≡ record { span = p.span; course = record { value = x } } ∷ []) (λ e. e ≡ NoMemory) → IsGiven steady_value steady_limit steady_limit items (on_sides value value (relation rel) p) p.span (given_changes value gaps (relation rel) p) q
  steady_given items (Ok v) s rel p x some e h = (
    subst (AreOn steady_value steady_limit steady_limit (on_sides value value (relation rel) p) p.span) (sym h)
        (one_steady (λ t. Some (on_sides value value (relation rel) p t)) p.span x some (λ t i. ap Some (e ∙ ap (λ y. relation rel y (side_start start p.right)) (steady_at p.left t s) ∙ ap (λ y. relation rel (side_at value p.left t) y) (steady_at p.right t s)))),
    steady_changes s (relation rel) p,
  )
  steady_given items (Err f) s rel p x some e h = subst (OnCause (λ g. IsFirst (given_changes value gaps (relation rel) p) (Some g))) (sym h) tt
