-- When a comparison has the wanted result on a piece.
use Rattle.std.{specs.Prelude.{◌≡◌, ◌↔◌, Bool, true, false, cond, List, [], ◌∷◌, refl}, specs.List.{AllByRecursion}, proofs.Common.{ap, sym, ◌∙◌, subst}}
use Rattle.mob_ratio.specs.Ratio.{Ratio}
use Rattle.mob_span.{specs.Span.{has, has_instant}, specs.Meets.{PieceOf}, specs.Pieces.{PiecesAreClear}, specs.Flags.{same_bool}, proofs.SpanLemmas.{some_instant}}
use Rattle.mob_slice.{specs.Comparison.{IsComparison, MayAsk, relates_gaps, gaps_at}, specs.Course.{IsCourse}, specs.Ranks.{holds}, specs.Sides.{SideOf, Moves, Stays, side_at, side_start, HoldsPiece}}
use Rattle.mob_slice.{specs.declared.comparison.Rel.{Rel}, specs.declared.comparison.Gaps.{Gaps}, specs.declared.comparison.Gaps.TheVariants.{Constant, One, Two}}
use Rattle.mob_cells.{specs.Gaps.{piece_gaps}, proofs.AtEnds.{gaps_on}}
use Rattle.mob_compare.{specs.Met.{order_of, gaps_meet, piece_meets}, proofs.Meeting.{gaps_exact}}

by_order : (rel : Rel) (g : Gaps) → relates_gaps rel g ≡ holds rel (order_of g)
by_order rel Constant = refl
by_order rel (One g) = refl
by_order rel (Two g h) = refl

module _ {C B : Type 0} {steady copies : Bool} {value : C → Ratio → Ratio → Ratio → B} {start end : C → B} {can_make : B → B → Type 0} {make : B → B → C} {continues : C → C → Ratio → Ratio → Ratio → Bool} {parts : C → Ratio → Ratio → Ratio → List Ratio} (laws : IsCourse steady copies value start end can_make make continues parts)
    {relation : Rel → B → B → Bool} {gaps : B → B → Gaps} {ordered : Bool} (comparison : IsComparison steady ordered value start end relation gaps) where
  steady_side : (q : SideOf C B) (t : Ratio) → steady ≡ true → side_start start q ≡ side_at value q t
  steady_side (Moves s) t e = sym (laws.one_value e s.course s.span.lower s.span.upper t)
  steady_side (Stays b) t e = refl

  module _ (rel : Rel) (asked : MayAsk ordered rel) (want : Bool) (p : PieceOf (SideOf C B) (SideOf C B)) (held : HoldsPiece start end start end p) (some : has_instant p.span ≡ true) where
    -- the comparison at an instant, by the gaps there
    order_at : steady ≡ false → (t : Ratio) → has p.span t ≡ true → relation rel (side_at value p.left t) (side_at value p.right t) ≡ holds rel (order_of (gaps_at (piece_gaps value gaps p p.span.lower) (piece_gaps value gaps p p.span.upper) p.span.lower p.span.upper t))
    order_at e t i =
        comparison.by_signs e rel (side_at value p.left t) (side_at value p.right t) asked
        ∙ by_order rel (gaps (side_at value p.left t) (side_at value p.right t))
        ∙ ap (λ g. holds rel (order_of g)) (gaps_on laws comparison p held some e t i)

    -- the comparison has the wanted result at an instant of the piece
    abbrev pub IsMetOn : Type 0
    IsMetOn = (t : Ratio) × (has p.span t ≡ true) × (same_bool (relation rel (side_at value p.left t) (side_at value p.right t)) want ≡ true)

    exact_by : (b : Bool) → steady ≡ b → (piece_meets steady value start relation gaps rel want p ≡ true) ↔ IsMetOn
    exact_by true e =
        let at : (t : Ratio) → same_bool (relation rel (side_start start p.left) (side_start start p.right)) want ≡ same_bool (relation rel (side_at value p.left t) (side_at value p.right t)) want =
        λ t. ap (λ x. same_bool (relation rel x (side_start start p.right)) want) (steady_side p.left t e) ∙ ap (λ y. same_bool (relation rel (side_at value p.left t) y) want) (steady_side p.right t e) in (
          λ h. let m = some_instant p.span some in (m.0, m.1, sym (at m.0) ∙ subst (λ z. cond z (same_bool (relation rel (side_start start p.left) (side_start start p.right)) want) (gaps_meet (λ o. same_bool (holds rel o) want) p.span (piece_gaps value gaps p p.span.lower) (piece_gaps value gaps p p.span.upper)) ≡ true) e h),
          λ m. rw e (at m.0 ∙ m.2),
        )
    exact_by false e =
        let g = gaps_exact (λ o. same_bool (holds rel o) want) p.span (piece_gaps value gaps p p.span.lower) (piece_gaps value gaps p p.span.upper) some in (
          λ h. let m = g.0 (subst (λ z. cond z (same_bool (relation rel (side_start start p.left) (side_start start p.right)) want) (gaps_meet (λ o. same_bool (holds rel o) want) p.span (piece_gaps value gaps p p.span.lower) (piece_gaps value gaps p p.span.upper)) ≡ true) e h) in
              (m.0, m.1, ap (λ b. same_bool b want) (order_at e m.0 m.1) ∙ m.2),
          λ m. rw e (g.1 (m.0, m.1, sym (ap (λ b. same_bool b want) (order_at e m.0 m.1)) ∙ m.2)),
        )

    -- the test of the piece is exact
    pub piece_exact : (piece_meets steady value start relation gaps rel want p ≡ true) ↔ IsMetOn
    piece_exact = exact_by steady refl

  -- and so on each of the pieces
  module _ (rel : Rel) (asked : MayAsk ordered rel) (want : Bool) where
    abbrev pub IsTold : PieceOf (SideOf C B) (SideOf C B) → Type 0
    IsTold p = (piece_meets steady value start relation gaps rel want p ≡ true) ↔ ((t : Ratio) × (has p.span t ≡ true) × (same_bool (relation rel (side_at value p.left t) (side_at value p.right t)) want ≡ true))

    pub all_told : (ps : List (PieceOf (SideOf C B) (SideOf C B))) → PiecesAreClear (λ p. p.span) ps → AllByRecursion (HoldsPiece start end start end) ps → AllByRecursion IsTold ps
    all_told [] c h = tt
    all_told (p ∷ ps) c h = (piece_exact rel asked want p h.0 c.0, all_told ps c.2 h.1)
