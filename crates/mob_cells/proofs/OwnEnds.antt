-- A slice at the ends of its own span.
use Rattle.std.{specs.Prelude.{◌≡◌, Bool, true, false, List, [], refl}, proofs.Common.{arith, ap, sym, ◌∙◌}}
use Rattle.mob_ratio.{specs.Ratio.{Ratio}, specs.Order.{before}, proofs.Order.{before-neither}}
use Rattle.mob_frac.specs.Formula.{AllFit}
use Rattle.mob_span.proofs.SpanLemmas.{some_upto}
use Rattle.mob_slice.{specs.Course.{IsCourse}, specs.Slices.{IsSound}, specs.Sides.{at_ends}, specs.Cut.{slice_value, slice_parts}, specs.declared.slice.Slice.{Slice}}

module _ {C B : Type 0} {steady copies : Bool} {value : C → Ratio → Ratio → Ratio → B} {start end : C → B} {can_make : B → B → Type 0} {make : B → B → C} {continues : C → C → Ratio → Ratio → Ratio → Bool} {parts : C → Ratio → Ratio → Ratio → List Ratio} (laws : IsCourse steady copies value start end can_make make continues parts) where
  -- the values at its own ends are stored, not computed
  pub own_ends : (s : Slice C) → at_ends (slice_parts parts s) s.span ≡ []
  own_ends s = rw (laws.lower_parts s.course s.span.lower s.span.upper, laws.upper_parts s.course s.span.lower s.span.upper) refl

  pub own_fit : (s : Slice C) → AllFit (at_ends (slice_parts parts s) s.span)
  own_fit s = rw (own_ends s) tt

  end_by : (s : Slice C) → IsSound start end s → (b : Bool) → before s.span.lower s.span.upper ≡ b → end s.course ≡ slice_value value s s.span.upper
  end_by s h true e = sym (laws.at_upper s.course s.span.lower s.span.upper e)
  end_by s h false e =
      let at : s.span.lower ≡ s.span.upper = before-neither s.span.lower s.span.upper e (let u = some_upto s.span h.some in grind (arith, u)) in
      sym (h.level e) ∙ sym (laws.at_lower s.course s.span.lower s.span.upper) ∙ ap (λ t. value s.course s.span.lower s.span.upper t) at

  pub start_value : (s : Slice C) → start s.course ≡ slice_value value s s.span.lower
  start_value s = sym (laws.at_lower s.course s.span.lower s.span.upper)

  pub end_value : (s : Slice C) → IsSound start end s → end s.course ≡ slice_value value s s.span.upper
  end_value s h = end_by s h (before s.span.lower s.span.upper) refl
