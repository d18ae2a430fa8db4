-- The gaps of steady courses have no formula.
use Rattle.std.{specs.Prelude.{◌≡◌, Bool, true, List, [], ◌++◌, None, refl}, proofs.Common.{ap, inl}}
use Rattle.mob_ratio.specs.Ratio.{Ratio}
use Rattle.mob_frac.specs.Formula.{AllFit}
use Rattle.mob_span.specs.Meets.{PieceOf}
use Rattle.mob_slice.{specs.Course.{IsCourse}, specs.Comparison.{IsComparison, gap_parts}, specs.Sides.{SideOf, Moves, Stays, side_at, side_parts, at_ends}, specs.Entries.{IsFirst}}
use Rattle.mob_slice.{specs.declared.comparison.Rel.{Rel}, specs.declared.comparison.Gaps.{Gaps}, specs.declared.comparison.Gaps.TheVariants.{Constant}}
use Rattle.mob_cells.{specs.Gaps.{piece_gaps, entries_of_ends}, proofs.GapSigns.{no_gaps}}

none_by : (xs ys : List Ratio) → xs ≡ [] → ys ≡ [] → xs ++ ys ≡ []
none_by xs ys e f = rw (e, f) refl

fit_by : (xs : List Ratio) → xs ≡ [] → AllFit xs
fit_by xs e = rw e tt

module _ {C B : Type 0} {steady copies : Bool} {value : C → Ratio → Ratio → Ratio → B} {start end : C → B} {can_make : B → B → Type 0} {make : B → B → C} {continues : C → C → Ratio → Ratio → Ratio → Bool} {parts : C → Ratio → Ratio → Ratio → List Ratio} (laws : IsCourse steady copies value start end can_make make continues parts)
    {relation : Rel → B → B → Bool} {gaps : B → B → Gaps} {ordered : Bool} (comparison : IsComparison steady ordered value start end relation gaps) (s : steady ≡ true) (p : PieceOf (SideOf C B) (SideOf C B)) where
  side_none : (q : SideOf C B) (t : Ratio) → side_parts parts q t ≡ []
  side_none (Moves x) t = laws.no_parts s x.course x.span.lower x.span.upper t
  side_none (Stays b) t = refl

  ends_none : (f : Ratio → List Ratio) → ((t : Ratio) → f t ≡ []) → at_ends f p.span ≡ []
  ends_none f h = none_by (f p.span.lower) (f p.span.upper) (h p.span.lower) (h p.span.upper)

  pub gap_none : (t : Ratio) → piece_gaps value gaps p t ≡ Constant
  gap_none t = no_gaps comparison s (side_at value p.left t) (side_at value p.right t)

  sides_fit : AllFit (at_ends (side_parts parts p.left) p.span ++ at_ends (side_parts parts p.right) p.span)
  sides_fit = fit_by (at_ends (side_parts parts p.left) p.span ++ at_ends (side_parts parts p.right) p.span) (none_by (at_ends (side_parts parts p.left) p.span) (at_ends (side_parts parts p.right) p.span) (ends_none (side_parts parts p.left) (side_none p.left)) (ends_none (side_parts parts p.right) (side_none p.right)))

  gaps_fit : AllFit (at_ends (λ t. gap_parts (piece_gaps value gaps p t)) p.span)
  gaps_fit = fit_by (at_ends (λ t. gap_parts (piece_gaps value gaps p t)) p.span) (ends_none (λ t. gap_parts (piece_gaps value gaps p t)) (λ t. ap gap_parts (gap_none t)))

  pub steady_ends : IsFirst (entries_of_ends value parts gaps p) None
  steady_ends = inl (sides_fit, inl (gaps_fit, refl))
