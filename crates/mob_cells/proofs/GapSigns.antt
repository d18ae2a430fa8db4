-- Comparisons by the signs of the gaps.
use Rattle.std.{specs.Prelude.{◌≡◌, Bool, true, false, cond, ◌&&◌, refl}, specs.List.{AllByRecursion}, specs.declared.cmp.Ordering.TheVariants.{Less, Equal}, specs.Ordering.{is_eq}}
use Rattle.std.proofs.Common.{ap, sym, ◌∙◌}
use Rattle.mob_ratio.{specs.Ratio.{Ratio}, specs.Order.{before, same}, specs.Line.{line_at}, specs.Sign.{nil, sign_of}, proofs.Signs.{eq_sign}}
use Rattle.mob_span.specs.Span.{SpanOf}
use Rattle.mob_slice.{specs.Ranks.{holds}, specs.Comparison.{IsComparison, MayAsk, gaps_at, relates_gaps}, specs.declared.comparison.Rel.{Rel}, specs.declared.comparison.Gaps.{Gaps}}
use Rattle.mob_slice.specs.declared.comparison.Gaps.TheVariants.{Constant, One, Two}
use Rattle.mob_cells.{specs.Roots.{IsLevel}, specs.Cells.{signs_of}, specs.Gaps.{gap_ends, related_by}}

pub signs_related : (rel : Rel) (a b : Gaps) (s : SpanOf) (t : Ratio) → related_by rel (signs_of s (gap_ends a b) t) ≡ relates_gaps rel (gaps_at a b s.lower s.upper t)
signs_related rel Constant b s t = refl
signs_related rel (One f) Constant s t = refl
signs_related rel (One f) (One g) s t = refl
signs_related rel (One f) (Two g h) s t = refl
signs_related rel (Two f e) Constant s t = refl
signs_related rel (Two f e) (One g) s t = refl
signs_related rel (Two f e) (Two g h) s t = ap (λ b. holds rel (cond b Equal Less)) (ap (λ b. b && is_eq (sign_of (line_at e h s.lower s.upper t))) (eq_sign (line_at f g s.lower s.upper t)) ∙ ap (λ b. same (line_at f g s.lower s.upper t) nil && b) (eq_sign (line_at e h s.lower s.upper t)))

one_same : (f g : Ratio) → One f ≡ One g → f ≡ g
one_same f g e = cc

two_same : (f e g h : Ratio) → Two f e ≡ Two g h → (f ≡ g) × (e ≡ h)
two_same f e g h p = (cc, cc)

pub gaps_level : (s : SpanOf) (a b : Gaps) → (before s.lower s.upper ≡ false → a ≡ b) → AllByRecursion (IsLevel s) (gap_ends a b)
gaps_level s Constant b h = tt
gaps_level s (One f) Constant h = tt
gaps_level s (One f) (One g) h = (λ e. one_same f g (h e), tt)
gaps_level s (One f) (Two g k) h = tt
gaps_level s (Two f e) Constant h = tt
gaps_level s (Two f e) (One g) h = tt
gaps_level s (Two f e) (Two g k) h = (λ i. (two_same f e g k (h i)).0, (λ i. (two_same f e g k (h i)).1, tt))

module _ {C B : Type 0} {value : C → Ratio → Ratio → Ratio → B} {start end : C → B} {relation : Rel → B → B → Bool} {gaps : B → B → Gaps} {steady ordered : Bool} (laws : IsComparison steady ordered value start end relation gaps) where
  -- the comparison of two courses on one span follows from the signs of their gaps
  pub by_gaps : steady ≡ false → (rel : Rel) → MayAsk ordered rel → (c d : C) (s : SpanOf) (t : Ratio) → relation rel (value c s.lower s.upper t) (value d s.lower s.upper t) ≡ related_by rel (signs_of s (gap_ends (gaps (start c) (start d)) (gaps (end c) (end d))) t)
  by_gaps h rel asked c d s t =
      laws.by_signs h rel (value c s.lower s.upper t) (value d s.lower s.upper t) asked
      ∙ ap (relates_gaps rel) (laws.linear h c d s.lower s.upper t)
      ∙ sym (signs_related rel (gaps (start c) (start d)) (gaps (end c) (end d)) s t)

  -- steady courses have no gaps
  pub no_gaps : steady ≡ true → (x y : B) → gaps x y ≡ Constant
  no_gaps h x y = (laws.constant x y).1 h
