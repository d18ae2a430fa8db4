-- Worked examples of the definitions. Each holds by computing.
use Rattle.std.proofs.Common.{◌≡◌, true, false, pos, negsuc, refl, [], ◌∷◌, ℕ}
use Rattle.mob_ratio.{specs.Gcd.{gcd, gcd_steps}, specs.Lowest.{in_lowest_terms}, specs.Ratio.{Ratio, over, whole, turned, inverse, ◌+ℚ◌, ◌*ℚ◌, neg_ℚ}, specs.Order.{before, same}}
use Rattle.mob_ratio.{specs.Line.{line_at, line_value}, specs.Quadratic.{absolute}}
use Rattle.mob_plane.specs.declared.point.Point.{Point}
use Rattle.mob_slice.{specs.Sides.{Moves, Stays}, specs.declared.formula.Formula.TheVariants.{F1, F2, F5, F6}}
use Rattle.mob_legs.specs.Legs.{PointPiece, piece_reaches, piece_approach}
use Rattle.mob_near.{specs.Distances.{distance_squared, are_within}, specs.Entries.{entries_of_within, entries_of_approach}}

abbrev n : ℕ → Ratio
n k = whole (pos k)

abbrev point : Ratio → Ratio → Point
point x y = record { x = x; y = y }

-- from (0, 0) to (3, 4) the distance is 5, and not less
five : distance_squared (point (n 0) (n 0)) (point (n 3) (n 4)) ≡ n 25
unfolding over gcd gcd_steps in_lowest_terms whole ◌+ℚ◌ neg_ℚ ◌*ℚ◌
five = refl

within_five : are_within (n 5) (point (n 0) (n 0)) (point (n 3) (n 4)) ≡ true
unfolding over gcd gcd_steps in_lowest_terms whole ◌+ℚ◌ neg_ℚ ◌*ℚ◌ before
within_five = refl

not_within : are_within (over (pos 49) 10) (point (n 0) (n 0)) (point (n 3) (n 4)) ≡ false
unfolding over gcd gcd_steps in_lowest_terms whole ◌+ℚ◌ neg_ℚ ◌*ℚ◌ before
not_within = refl

-- nothing is within a distance below 0
never : are_within (whole (negsuc 0)) (point (n 0) (n 0)) (point (n 0) (n 0)) ≡ false
unfolding over gcd gcd_steps in_lowest_terms whole ◌+ℚ◌ neg_ℚ ◌*ℚ◌ before
never = refl

-- from 0 to 10 a point moves from (0, 0) to (10, 0), excluding the end; another stays at (13, 0)
abbrev towards : PointPiece
towards = record {
  span = record { lower = n 0; upper = n 10; lower_inc = true; upper_inc = false };
  left = Moves (record { span = record { lower = n 0; upper = n 10; lower_inc = true; upper_inc = false }; course = record { from = point (n 0) (n 0); to = point (n 10) (n 0) } });
  right = Stays (point (n 13) (n 0));
}

-- they are never within 3, and yet their nearest approach squared is 9
not_reached : piece_reaches (n 9) towards ≡ false
unfolding over gcd gcd_steps in_lowest_terms whole ◌+ℚ◌ neg_ℚ ◌*ℚ◌ inverse turned before same line_at line_value absolute
not_reached = refl

approached : piece_approach towards ≡ n 9
unfolding over gcd gcd_steps in_lowest_terms whole ◌+ℚ◌ neg_ℚ ◌*ℚ◌ inverse turned before same line_at line_value
approached = refl

-- their formulas: no quotient, since the nearest point is not strictly between
entries : entries_of_within (n 3) (towards ∷ []) ≡
    record { formula = F6; parts = n 9 ∷ [] }
    ∷ record { formula = F1; parts = [] }
    ∷ record { formula = F2; parts = whole (negsuc 12) ∷ n 0 ∷ whole (negsuc 2) ∷ n 0 ∷ [] }
    ∷ record { formula = F6; parts = n 169 ∷ n 0 ∷ n 169 ∷ n 9 ∷ n 0 ∷ n 9 ∷ [] }
    ∷ record { formula = F5; parts = n 10 ∷ n 0 ∷ n 100 ∷ n 0 ∷ n 100 ∷ whole (negsuc 129) ∷ n 0 ∷ whole (negsuc 129) ∷ whole (negsuc 29) ∷ n 0 ∷ n 0 ∷ n 0 ∷ [] }
    ∷ []
unfolding over gcd gcd_steps in_lowest_terms whole ◌+ℚ◌ neg_ℚ ◌*ℚ◌ inverse turned before same line_at line_value
entries = refl

no_entries : entries_of_within (whole (negsuc 2)) (towards ∷ []) ≡ []
unfolding over gcd gcd_steps in_lowest_terms whole before
no_entries = refl

-- between 0 and 5 two points move side by side, 3 apart, with both ends excluded
abbrev beside : PointPiece
beside = record {
  span = record { lower = n 0; upper = n 5; lower_inc = false; upper_inc = false };
  left = Moves (record { span = record { lower = n 0; upper = n 5; lower_inc = false; upper_inc = false }; course = record { from = point (n 0) (n 0); to = point (n 5) (n 0) } });
  right = Moves (record { span = record { lower = n 0; upper = n 5; lower_inc = false; upper_inc = false }; course = record { from = point (n 0) (n 3); to = point (n 5) (n 3) } });
}

level : piece_reaches (n 9) beside ≡ true
unfolding over gcd gcd_steps in_lowest_terms whole ◌+ℚ◌ neg_ℚ ◌*ℚ◌ inverse turned before same line_at line_value absolute
level = refl

-- from 0 to 10 a point passes another one at (5, 2): it is nearest at 5, and its formula has the
-- quotients
abbrev past : PointPiece
past = record {
  span = record { lower = n 0; upper = n 10; lower_inc = true; upper_inc = true };
  left = Moves (record { span = record { lower = n 0; upper = n 10; lower_inc = true; upper_inc = true }; course = record { from = point (n 0) (n 0); to = point (n 10) (n 0) } });
  right = Stays (point (n 5) (n 2));
}

passed_by : piece_approach past ≡ n 4
unfolding over gcd gcd_steps in_lowest_terms whole ◌+ℚ◌ neg_ℚ ◌*ℚ◌ inverse turned before same line_at line_value
passed_by = refl

quotients : entries_of_approach past ≡
    record { formula = F1; parts = [] }
    ∷ record { formula = F2; parts = whole (negsuc 4) ∷ whole (negsuc 1) ∷ n 5 ∷ whole (negsuc 1) ∷ [] }
    ∷ record { formula = F6; parts = n 25 ∷ n 4 ∷ n 29 ∷ n 25 ∷ n 4 ∷ n 29 ∷ [] }
    ∷ record { formula = F5; parts = n 10 ∷ n 0 ∷ n 100 ∷ n 0 ∷ n 100 ∷ whole (negsuc 49) ∷ n 0 ∷ whole (negsuc 49) ∷ n 50 ∷ n 0 ∷ whole (negsuc 19) ∷ n 20 ∷ over (pos 1) 5 ∷ n 4 ∷ [] }
    ∷ []
unfolding over gcd gcd_steps in_lowest_terms whole ◌+ℚ◌ neg_ℚ ◌*ℚ◌ inverse turned before same line_at line_value
quotients = refl
