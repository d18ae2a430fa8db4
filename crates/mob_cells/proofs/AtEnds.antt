-- The gaps at the ends of a piece, and their entries.
use Rattle.std.{specs.Prelude.{◌≡◌, Bool, true, false, List, ◌++◌, Some, None, refl}, proofs.Common.{ap, sym, ◌∙◌, subst, inl, inr}}
use Rattle.mob_ratio.specs.Ratio.{Ratio}
use Rattle.mob_frac.specs.Formula.{AllFit}
use Rattle.mob_span.{specs.Span.{SpanOf, has, has_instant}, specs.Meets.{PieceOf}}
use Rattle.mob_slice.{specs.Comparison.{IsComparison, gap_parts, gaps_at}, specs.Course.{IsCourse}, specs.Sides.{SideOf, Moves, Stays, side_at, side_parts, at_ends, HoldsSide, HoldsPiece, HasValues}}
use Rattle.mob_slice.{specs.declared.comparison.Rel.{Rel}, specs.Entries.{IsFirst}, specs.declared.comparison.Gaps.{Gaps}, specs.declared.formula.Formula.{Formula}}
use Rattle.mob_slice.{specs.declared.formula.Formula.TheVariants.{F1, F2}, specs.declared.slice.Slice.{Slice}, proofs.Cuts.{all_both, all_first, all_second, cut_is, level_is}}
use Rattle.mob_cells.specs.Gaps.{piece_gaps, end_gaps, entries_of_ends}

module _ {C B : Type 0} (value : C → Ratio → Ratio → Ratio → B) (lines : C → Ratio → Ratio → Ratio → List Ratio) (gaps : B → B → Gaps) (p : PieceOf (SideOf C B) (SideOf C B)) where
  pub left_fails : (f : Formula) → (f ≡ F1) × (¬ AllFit (at_ends (side_parts lines p.left) p.span)) → IsFirst (entries_of_ends value lines gaps p) (Some f)
  left_fails f h = inr (λ all. h.1 (all_first (at_ends (side_parts lines p.left) p.span) (at_ends (side_parts lines p.right) p.span) all), ap Some h.0)

  pub right_fails : (f : Formula) → (f ≡ F1) × (¬ AllFit (at_ends (side_parts lines p.right) p.span)) → IsFirst (entries_of_ends value lines gaps p) (Some f)
  right_fails f h = inr (λ all. h.1 (all_second (at_ends (side_parts lines p.left) p.span) (at_ends (side_parts lines p.right) p.span) all), ap Some h.0)

  module _ {start end : C → B} (l r : Slice C) (hl : HasValues value start end (side_at value p.left) p.span l) (hr : HasValues value start end (side_at value p.right) p.span r)
      (fl : AllFit (at_ends (side_parts lines p.left) p.span)) (fr : AllFit (at_ends (side_parts lines p.right) p.span)) where
    pub low : gaps (start l.course) (start r.course) ≡ piece_gaps value gaps p p.span.lower
    low = ap (λ x. gaps x (start r.course)) hl.from ∙ ap (λ y. gaps (side_at value p.left p.span.lower) y) hr.from

    pub high : gaps (end l.course) (end r.course) ≡ piece_gaps value gaps p p.span.upper
    high = ap (λ x. gaps x (end r.course)) hl.to ∙ ap (λ y. gaps (side_at value p.left p.span.upper) y) hr.to

    ends_fit : AllFit (at_ends (side_parts lines p.left) p.span ++ at_ends (side_parts lines p.right) p.span)
    ends_fit = all_both (at_ends (side_parts lines p.left) p.span) (at_ends (side_parts lines p.right) p.span) fl fr

    pub lower_fails : (f : Formula) → (f ≡ F2) × (¬ AllFit (gap_parts (gaps (start l.course) (start r.course)))) → IsFirst (entries_of_ends value lines gaps p) (Some f)
    lower_fails f h = inl (ends_fit, inr (λ all. h.1 (subst (λ g. AllFit (gap_parts g)) (sym low) (all_first (gap_parts (piece_gaps value gaps p p.span.lower)) (gap_parts (piece_gaps value gaps p p.span.upper)) all)), ap Some h.0))

    pub upper_fails : (f : Formula) → (f ≡ F2) × (¬ AllFit (gap_parts (gaps (end l.course) (end r.course)))) → IsFirst (entries_of_ends value lines gaps p) (Some f)
    upper_fails f h = inl (ends_fit, inr (λ all. h.1 (subst (λ g. AllFit (gap_parts g)) (sym high) (all_second (gap_parts (piece_gaps value gaps p p.span.lower)) (gap_parts (piece_gaps value gaps p p.span.upper)) all)), ap Some h.0))

    pub all_fit : AllFit (gap_parts (gaps (start l.course) (start r.course))) → AllFit (gap_parts (gaps (end l.course) (end r.course))) → IsFirst (entries_of_ends value lines gaps p) None
    all_fit a b = inl (ends_fit, inl (all_both (gap_parts (piece_gaps value gaps p p.span.lower)) (gap_parts (piece_gaps value gaps p p.span.upper)) (subst (λ g. AllFit (gap_parts g)) low a) (subst (λ g. AllFit (gap_parts g)) high b), refl))

    pub both_ends : (g h : Gaps) → g ≡ gaps (start l.course) (start r.course) → h ≡ gaps (end l.course) (end r.course) → record { at_lower = g; at_upper = h } ≡ end_gaps value gaps p
    both_ends g h e f = λ i. record { at_lower = (e ∙ low) i; at_upper = (f ∙ high) i }

-- ---- at each instant between them
module _ {C B : Type 0} {steady copies : Bool} {value : C → Ratio → Ratio → Ratio → B} {start end : C → B} {can_make : B → B → Type 0} {make : B → B → C} {continues : C → C → Ratio → Ratio → Ratio → Bool} {parts : C → Ratio → Ratio → Ratio → List Ratio} (laws : IsCourse steady copies value start end can_make make continues parts)
    {relation : Rel → B → B → Bool} {gaps : B → B → Gaps} {ordered : Bool} (comparison : IsComparison steady ordered value start end relation gaps) where
  -- a side, as a slice on the piece, has its values
  on_side : (q : SideOf C B) (r : SpanOf) → HoldsSide start end q r → has_instant r ≡ true → (s : Slice C) × HasValues value start end (side_at value q) r s
  on_side (Moves s) r h k = let v : Ratio → B = λ t. value s.course s.span.lower s.span.upper t in (record { span = r; course = make (v r.lower) (v r.upper) }, cut_is laws s r (v r.lower) (v r.upper) h.1 k refl refl)
  on_side (Stays b) r h k = (record { span = r; course = make b b }, level_is laws b b b r k refl refl)

  -- the gaps of two courses on a piece change linearly from those at its lower end to those at the
  -- upper one
  pub gaps_on : (p : PieceOf (SideOf C B) (SideOf C B)) → HoldsPiece start end start end p → has_instant p.span ≡ true → steady ≡ false → (t : Ratio) → has p.span t ≡ true → gaps (side_at value p.left t) (side_at value p.right t) ≡ gaps_at (piece_gaps value gaps p p.span.lower) (piece_gaps value gaps p p.span.upper) p.span.lower p.span.upper t
  gaps_on p held some e t i =
      let l = on_side p.left p.span held.0 some in
      let r = on_side p.right p.span held.1 some in
      let a = subst (λ z. value l.0.course z.lower z.upper t ≡ side_at value p.left t) l.1.on (l.1.same t i) in
      let b = subst (λ z. value r.0.course z.lower z.upper t ≡ side_at value p.right t) r.1.on (r.1.same t i) in
      ap (λ x. gaps x (side_at value p.right t)) (sym a) ∙ ap (λ y. gaps (value l.0.course p.span.lower p.span.upper t) y) (sym b)
      ∙ comparison.linear e l.0.course r.0.course p.span.lower p.span.upper t
      ∙ ap (λ x. gaps_at (gaps x (start r.0.course)) (gaps (end l.0.course) (end r.0.course)) p.span.lower p.span.upper t) l.1.from
      ∙ ap (λ y. gaps_at (gaps (side_at value p.left p.span.lower) y) (gaps (end l.0.course) (end r.0.course)) p.span.lower p.span.upper t) r.1.from
      ∙ ap (λ x. gaps_at (piece_gaps value gaps p p.span.lower) (gaps x (end r.0.course)) p.span.lower p.span.upper t) l.1.to
      ∙ ap (λ y. gaps_at (piece_gaps value gaps p p.span.lower) (gaps (side_at value p.left p.span.upper) y) p.span.lower p.span.upper t) r.1.to
