-- The results of a comparison on a piece of two operands.
use Rattle.std.{specs.Prelude.{◌≡◌, Bool, true, false, cond, ◌&&◌, List, [], ◌∷◌, Option, Some, None, IfSome, refl}, specs.List.{AllByRecursion}, specs.declared.cmp.Ordering.TheVariants.{Less, Equal}, specs.Ordering.{is_eq}}
use Rattle.std.proofs.Common.{arith, ap, sym, ◌∙◌, subst}
use Rattle.mob_ratio.{specs.Ratio.{Ratio}, specs.Sign.{nil, sign_of}, proofs.Order.{before-neither}, proofs.Signs.{sign_nil}}
use Rattle.mob_span.{specs.Span.{SpanOf, has, has_instant}, specs.Meets.{PieceOf}, proofs.Insides.{inner_has}, proofs.SpanLemmas.{some_upto}}
use Rattle.mob_slice.{specs.Comparison.{IsComparison, MayAsk, relates_gaps}, specs.Course.{IsCourse}, specs.Sides.{SideOf, HoldsPiece, side_at}, specs.declared.comparison.Gaps.{Gaps}, specs.declared.comparison.Rel.{Rel}, specs.declared.comparison.Rel.TheVariants.{Eq}}
use Rattle.mob_cells.{specs.declared.linear.Ends.{Ends}, specs.declared.turning.Turn.{Turn}, specs.declared.turning.Turning.{Turning}, specs.Cells.{signs_of}, specs.Gaps.{gap_ends, piece_gaps, related_by}, specs.Roots.{IsLevel, function_at}, specs.Turnings.{IsTurnInside, IsTurning}}
use Rattle.mob_cells.proofs.{AtEnds.{gaps_on}, GapSigns.{gaps_level, signs_related}}

-- the functions with these gaps at the ends of a piece
pub level_piece : {C B : Type 0} (value : C → Ratio → Ratio → Ratio → B) (gaps : B → B → Gaps) (p : PieceOf (SideOf C B) (SideOf C B)) (first last : Gaps) → has_instant p.span ≡ true → first ≡ piece_gaps value gaps p p.span.lower → last ≡ piece_gaps value gaps p p.span.upper → AllByRecursion (IsLevel p.span) (gap_ends first last)
level_piece value gaps p first last some ef el = gaps_level p.span first last (λ n.
    let u = some_upto p.span some in
    let at : p.span.lower ≡ p.span.upper = before-neither p.span.lower p.span.upper n (grind (arith, u)) in
    ef ∙ ap (piece_gaps value gaps p) at ∙ sym el)

pub turning_piece : {C B : Type 0} (value : C → Ratio → Ratio → Ratio → B) (gaps : B → B → Gaps) (p : PieceOf (SideOf C B) (SideOf C B)) (first last : Gaps) (rel : Rel) (w : Turning) → first ≡ piece_gaps value gaps p p.span.lower → last ≡ piece_gaps value gaps p p.span.upper → IsTurning p.span (gap_ends first last) rel w → IsTurning p.span (gap_ends (piece_gaps value gaps p p.span.lower) (piece_gaps value gaps p p.span.upper)) rel w
turning_piece value gaps p first last rel w ef el t = subst (λ z. IsTurning p.span z rel w) (ap (λ g. gap_ends g last) ef ∙ ap (λ g. gap_ends (piece_gaps value gaps p p.span.lower) g) el) t

module _ {C B : Type 0} {steady copies : Bool} {value : C → Ratio → Ratio → Ratio → B} {start end : C → B} {can_make : B → B → Type 0} {make : B → B → C} {continues : C → C → Ratio → Ratio → Ratio → Bool} {parts : C → Ratio → Ratio → Ratio → List Ratio} (laws : IsCourse steady copies value start end can_make make continues parts)
    {relation : Rel → B → B → Bool} {gaps : B → B → Gaps} {ordered : Bool} (comparison : IsComparison steady ordered value start end relation gaps) (p : PieceOf (SideOf C B) (SideOf C B)) (held : HoldsPiece start end start end p) (some : has_instant p.span ≡ true) (moves : steady ≡ false) where
  -- the comparison at an instant, by the signs of the gaps there
  pub related_at : (rel : Rel) → MayAsk ordered rel → (t : Ratio) → has p.span t ≡ true → relation rel (side_at value p.left t) (side_at value p.right t) ≡ related_by rel (signs_of p.span (gap_ends (piece_gaps value gaps p p.span.lower) (piece_gaps value gaps p p.span.upper)) t)
  related_at rel asked t i =
      comparison.by_signs moves rel (side_at value p.left t) (side_at value p.right t) asked
      ∙ ap (relates_gaps rel) (gaps_on laws comparison p held some moves t i)
      ∙ sym (signs_related rel (piece_gaps value gaps p p.span.lower) (piece_gaps value gaps p p.span.upper) p.span t)

  -- where each gap is 0 the two values are equal
  pub equal_at : (t : Ratio) → has p.span t ≡ true → AllByRecursion (λ f. function_at p.span f t ≡ nil) (gap_ends (piece_gaps value gaps p p.span.lower) (piece_gaps value gaps p p.span.upper)) → side_at value p.left t ≡ side_at value p.right t
  equal_at t i z = (comparison.equal (side_at value p.left t) (side_at value p.right t)).0 (related_at Eq tt t i ∙ all_nil p.span (gap_ends (piece_gaps value gaps p p.span.lower) (piece_gaps value gaps p p.span.upper)) t z)
    where
      nil_equal : (q : Ratio) → q ≡ nil → is_eq (sign_of q) ≡ true
      nil_equal q e = ap (λ z. is_eq (sign_of z)) e ∙ ap is_eq sign_nil

      both : (a b : Bool) → a ≡ true → b ≡ true → is_eq (cond (a && b) Equal Less) ≡ true
      both a b h k = rw (h, k) refl

      all_nil : (s : SpanOf) (functions : List Ends) (t : Ratio) → AllByRecursion (λ f. function_at s f t ≡ nil) functions → related_by Eq (signs_of s functions t) ≡ true
      all_nil s [] t h = refl
      all_nil s (f ∷ []) t h = nil_equal (function_at s f t) h.0
      all_nil s (f ∷ g ∷ []) t h = both (is_eq (sign_of (function_at s f t))) (is_eq (sign_of (function_at s g t))) (nil_equal (function_at s f t) h.0) (nil_equal (function_at s g t) h.1.0)
      all_nil s (f ∷ g ∷ k ∷ functions) t h = refl

  pub equal_turn : (w : Turning) (rel : Rel) → IsTurning p.span (gap_ends (piece_gaps value gaps p p.span.lower) (piece_gaps value gaps p p.span.upper)) rel w → IfSome w.turn (λ c. side_at value p.left c.at ≡ side_at value p.right c.at)
  equal_turn w rel t = by w.turn t.inside t.zero
    where
      by : (turn : Option Turn) → IsTurnInside p.span turn → IfSome turn (λ c. AllByRecursion (λ f. function_at p.span f c.at ≡ nil) (gap_ends (piece_gaps value gaps p p.span.lower) (piece_gaps value gaps p p.span.upper))) → IfSome turn (λ c. side_at value p.left c.at ≡ side_at value p.right c.at)
      by None i z = tt
      by (Some c) i z = equal_at c.at (inner_has p.span c.at i.0 i.1) z
