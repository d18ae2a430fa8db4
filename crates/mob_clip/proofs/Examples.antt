-- Worked examples of the definitions. Each holds by computing.
use Rattle.std.specs.Prelude.{◌≡◌, Bool, true, false, pos, negsuc, List, [], ◌∷◌, Some, refl}
use Rattle.mob_ratio.{specs.Gcd.{gcd, gcd_steps}, specs.Lowest.{in_lowest_terms}, specs.Ratio.{over, whole, turned, inverse, ◌+ℚ◌, ◌*ℚ◌, neg_ℚ}, specs.Order.{before, same}}
use Rattle.mob_ratio.{specs.Line.{line_at, line_value}, specs.Sign.{opposite, root_at, sign_of}}
use Rattle.mob_slice.{specs.declared.slice.Slice.{Slice}, specs.declared.line.PlaneLine.{PlaneLine}, specs.declared.formula.Formula.TheVariants.{F1, F2, F3}}
use Rattle.mob_stbox.specs.Boxes.{BoxOf, in_box}
use Rattle.mob_clip.{specs.declared.timeline.Change.{Change}, specs.Timelines.{step_at}, specs.Boxes.{entries_of_box}}

-- a value that is true only at 2
abbrev touch : List (Change Bool)
touch = record { at = whole (pos 2); there = true; after = false } ∷ []

in_front : step_at false touch (whole (pos 1)) ≡ false
unfolding over gcd gcd_steps in_lowest_terms whole before same
in_front = refl

there : step_at false touch (whole (pos 2)) ≡ true
unfolding over gcd gcd_steps in_lowest_terms whole before same
there = refl

after : step_at false touch (whole (pos 3)) ≡ false
unfolding over gcd gcd_steps in_lowest_terms whole before same
after = refl

-- [POINT(0 0)@0, POINT(4 0)@4]
abbrev trip : Slice PlaneLine
trip = record {
  span = record { lower = whole (pos 0); upper = whole (pos 4); lower_inc = true; upper_inc = true };
  course = record { from = record { x = whole (pos 0); y = whole (pos 0) }; to = record { x = whole (pos 4); y = whole (pos 0) } };
}

-- STBOX XT(((1,0),(3,0)),[0, 2))
abbrev box : BoxOf
box = record {
  space = Some (record { xmin = whole (pos 1); xmax = whole (pos 3); ymin = whole (pos 0); ymax = whole (pos 0) });
  time = Some (record { lower = whole (pos 0); upper = whole (pos 2); lower_inc = true; upper_inc = false });
}

-- at 1 it reaches the west side, and at 2 the time of the box is over
at_side : in_box box (whole (pos 1)) (record { x = whole (pos 1); y = whole (pos 0) }) ≡ true
unfolding over gcd gcd_steps in_lowest_terms whole before same
at_side = refl

over_then : in_box box (whole (pos 2)) (record { x = whole (pos 2); y = whole (pos 0) }) ≡ false
unfolding over gcd gcd_steps in_lowest_terms whole before same
over_then = refl

-- F1 at 2, the end of the time of the box; the differences to the four sides at 0 and at 2; the
-- root 1 of the first of them; F1 at 1
trip_entries : entries_of_box box trip
    ≡ record { formula = F1; parts = whole (pos 2) ∷ whole (pos 4) ∷ over (pos 1) 2 ∷ whole (pos 4) ∷ whole (pos 2) ∷ whole (pos 2) ∷ [] }
    ∷ record { formula = F2; parts = whole (negsuc 0) ∷ whole (negsuc 2) ∷ whole (pos 0) ∷ whole (pos 0) ∷ whole (pos 1) ∷ whole (negsuc 0) ∷ whole (pos 0) ∷ whole (pos 0) ∷ [] }
    ∷ record { formula = F3; parts = whole (negsuc 1) ∷ over (pos 1) 2 ∷ whole (pos 2) ∷ whole (pos 1) ∷ whole (pos 1) ∷ [] }
    ∷ record { formula = F1; parts = whole (pos 1) ∷ whole (pos 4) ∷ over (pos 1) 4 ∷ whole (pos 4) ∷ whole (pos 1) ∷ whole (pos 1) ∷ [] }
    ∷ []
unfolding over gcd gcd_steps in_lowest_terms whole ◌+ℚ◌ neg_ℚ ◌*ℚ◌ inverse turned before same line_at line_value opposite root_at sign_of
trip_entries = refl
