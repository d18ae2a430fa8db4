-- Worked examples of boxes. Each holds by computing.
use Rattle.std.specs.Prelude.{◌≡◌, Bool, true, false, pos, Some, None, refl}
use Rattle.mob_ratio.{specs.Gcd.{gcd, gcd_steps}, specs.Lowest.{in_lowest_terms}, specs.Ratio.{Ratio, over, whole, ◌+ℚ◌, neg_ℚ}, specs.Order.{before, same}}
use Rattle.mob_span.specs.Span.{SpanOf}
use Rattle.mob_stbox.{specs.Boxes.{BoxOf, overlaps, contains, cover, same_box}, specs.Expansion.{expanded}, specs.declared.area.Area.{Area}}

abbrev area : Ratio → Ratio → Ratio → Ratio → Area
area x0 y0 x1 y1 = record { xmin = x0; xmax = x1; ymin = y0; ymax = y1 }

abbrev until : Ratio → Ratio → Bool → SpanOf
until l u inc = record { lower = l; upper = u; lower_inc = true; upper_inc = inc }

-- ((0,1),(2,3)) in [0, 2)
abbrev first : BoxOf
first = record { space = Some (area (whole (pos 0)) (whole (pos 1)) (whole (pos 2)) (whole (pos 3))); time = Some (until (whole (pos 0)) (whole (pos 2)) false) }

-- ((2,3),(4,4)) in [1, 3]: it touches the first one at a corner
abbrev corner : BoxOf
corner = record { space = Some (area (whole (pos 2)) (whole (pos 3)) (whole (pos 4)) (whole (pos 4))); time = Some (until (whole (pos 1)) (whole (pos 3)) true) }

-- the same from the instant 2 on, which the first one excludes
abbrev late : BoxOf
late = record { space = corner.space; time = Some (until (whole (pos 2)) (whole (pos 3)) true) }

-- time alone, and space alone
abbrev timed : BoxOf
timed = record { space = None; time = Some (until (whole (pos 1)) (whole (pos 1)) true) }

abbrev spaced : BoxOf
spaced = record { space = first.space; time = None }

touching : overlaps first corner ≡ true
unfolding over gcd gcd_steps in_lowest_terms whole before overlaps
touching = refl

no_instant : overlaps first late ≡ false
unfolding over gcd gcd_steps in_lowest_terms whole before overlaps
no_instant = refl

by_time : overlaps first timed ≡ true
unfolding over gcd gcd_steps in_lowest_terms whole before overlaps
by_time = refl

no_dimension : overlaps spaced timed ≡ false
unfolding over gcd gcd_steps in_lowest_terms whole before overlaps
no_dimension = refl

-- a box with fewer dimensions may contain one with more, but not the other way round
more_dimensions : contains spaced first ≡ true
unfolding over gcd gcd_steps in_lowest_terms whole before contains
more_dimensions = refl

fewer_dimensions : contains first spaced ≡ false
unfolding over gcd gcd_steps in_lowest_terms whole before contains
fewer_dimensions = refl

-- the smallest box over the two is ((0,1),(4,4)) in [0, 3]
covered : same_box (cover first corner) (record { space = Some (area (whole (pos 0)) (whole (pos 1)) (whole (pos 4)) (whole (pos 4))); time = Some (until (whole (pos 0)) (whole (pos 3)) true) }) ≡ true
unfolding over gcd gcd_steps in_lowest_terms whole before same cover same_box
covered = refl

-- ((0,1),(2,3)) expanded by 1 is ((-1,0),(3,4)); by -1 it is the point 1 2, and by -2 nothing is
-- left
wider : expanded first (whole (pos 1)) ≡ Some (record { space = Some (area (neg_ℚ (whole (pos 1))) (whole (pos 0)) (whole (pos 3)) (whole (pos 4))); time = first.time })
unfolding over gcd gcd_steps in_lowest_terms whole before ◌+ℚ◌ neg_ℚ
wider = refl

narrower : expanded first (neg_ℚ (whole (pos 1))) ≡ Some (record { space = Some (area (whole (pos 1)) (whole (pos 2)) (whole (pos 1)) (whole (pos 2))); time = first.time })
unfolding over gcd gcd_steps in_lowest_terms whole before ◌+ℚ◌ neg_ℚ
narrower = refl

none_left : expanded first (neg_ℚ (whole (pos 2))) ≡ None
unfolding over gcd gcd_steps in_lowest_terms whole before ◌+ℚ◌ neg_ℚ
none_left = refl
