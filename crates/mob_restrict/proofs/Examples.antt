-- Worked examples of the definitions. Each holds by computing.
use Rattle.std.{specs.Prelude.{◌≡◌, true, false, pos, [], ◌∷◌, Some, None, refl}, specs.List.{flat_map}}
use Rattle.mob_ratio.{specs.Gcd.{gcd, gcd_steps}, specs.Lowest.{in_lowest_terms}, specs.Ratio.{Ratio, over, whole, turned, inverse, ◌+ℚ◌, ◌*ℚ◌, neg_ℚ}, specs.Order.{before, same}}
use Rattle.mob_frac.specs.Formula.{line_parts}
use Rattle.mob_span.{specs.Span.{SpanOf}, specs.Meets.{shared_pieces}}
use Rattle.mob_slice.{specs.declared.slice.Slice.{Slice}, specs.declared.formula.Formula.TheVariants.{F1}}
use Rattle.mob_cells.specs.Restricted.{where_wanted}
use Rattle.mob_restrict.specs.Cuts.{entry_of_cut}

-- a value is kept if the instant is wanted, and in the minus form if it is not
kept : where_wanted true (λ (x : Ratio). true) (Some (whole (pos 1))) ≡ Some (whole (pos 1))
kept = refl

left_out : where_wanted false (λ (x : Ratio). true) (Some (whole (pos 1))) ≡ None
left_out = refl

record Rise : Type 0 where
  from : Ratio
  to : Ratio

abbrev rise : Slice Rise
rise = record { span = record { lower = whole (pos 0); upper = whole (pos 3); lower_inc = true; upper_inc = true }; course = record { from = whole (pos 0); to = whole (pos 1) } }

abbrev at_end : SpanOf
at_end = record { lower = whole (pos 3); upper = whole (pos 5); lower_inc = true; upper_inc = true }

-- the line from 0 at 0 to 1 at 3, restricted to the span [3, 5]: they share the end of the slice,
-- whose value is stored, not computed
end_cut : flat_map (entry_of_cut (λ (c : Rise) l u t. line_parts c.from c.to l u t)) (shared_pieces (λ s. s.span) (λ r. r) (rise ∷ []) (at_end ∷ [])) ≡ record { formula = F1; parts = [] } ∷ []
unfolding over gcd gcd_steps in_lowest_terms whole before same
end_cut = refl

abbrev inner : SpanOf
inner = record { lower = whole (pos 1); upper = whole (pos 1); lower_inc = true; upper_inc = true }

-- restricted to the instant 1, its parts appear twice, since both ends of the intersection are that
-- instant
inner_cut : flat_map (entry_of_cut (λ (c : Rise) l u t. line_parts c.from c.to l u t)) (shared_pieces (λ s. s.span) (λ r. r) (rise ∷ []) (inner ∷ []))
    ≡ record { formula = F1; parts = whole (pos 1) ∷ whole (pos 3) ∷ over (pos 1) 3 ∷ whole (pos 1) ∷ over (pos 1) 3 ∷ over (pos 1) 3 ∷ whole (pos 1) ∷ whole (pos 3) ∷ over (pos 1) 3 ∷ whole (pos 1) ∷ over (pos 1) 3 ∷ over (pos 1) 3 ∷ [] } ∷ []
unfolding over gcd gcd_steps in_lowest_terms whole ◌+ℚ◌ neg_ℚ ◌*ℚ◌ inverse turned before same
inner_cut = refl
