-- Worked entries of the wide mode, by the definitions, also of operators that keep their narrow
-- entries.
use Rattle.std.{specs.Prelude.{ℕ, pos, negsuc}, proofs.Common.{true, [], ◌∷◌, Some, None, refl, ◌≡◌}}
use Rattle.mob_ratio.{specs.Ratio.{Ratio, whole, over, turned, inverse, ◌+ℚ◌, ◌*ℚ◌, neg_ℚ}, specs.Gcd.{gcd, gcd_steps}, specs.Lowest.{in_lowest_terms}, specs.Line.{line_at, line_value}}
use Rattle.mob_ratio.{specs.Order.{before, same}, specs.Sign.{opposite, root_at, sign_of}}
use Rattle.mob_span.specs.Span.{SpanOf}
use Rattle.mob_plane.specs.declared.point.Point.{Point as PointOf}
use Rattle.mob_slice.{specs.Modes.{entry_given}, specs.declared.line.Line.{Line}, specs.declared.line.PlaneLine.{PlaneLine}, specs.declared.mode.Mode.TheVariants.{Wide}, specs.declared.slice.Slice.{Slice}}
use Rattle.mob_slice.specs.declared.formula.Formula.TheVariants.{Given}
use Rattle.mob_value.specs.declared.value.Value.TheVariants.{Number, Moment, Point, Span, Box, MovingFrac, MovingPoint}
use Rattle.mob_arith.{specs.declared.sql.calculation.Calculation.TheVariants.{Sum}, specs.Sql.Wide.{wide_arithmetic_entries}}
use Rattle.mob_compare.specs.Sql.Wide.{wide_sign_entries}
use Rattle.mob_restrict.specs.Sql.Wide.{wide_look_entries, wide_restriction_entries, wide_value_entries}
use Rattle.mob_clip.specs.Sql.Wide.{wide_box_entries}
use Rattle.mob_meaning.specs.Operators.{entries_of_two, entries_of_three}
use Rattle.mob_ast.specs.declared.types.Cmp.TheVariants as cmp
use Rattle.mob_ast.specs.declared.types.SqlType.TheVariants as sql
use Rattle.mob_operators.specs.declared.operator.Op.TheVariants as op

abbrev n : ℕ → Ratio
n i = whole (pos i)

abbrev closed : ℕ → ℕ → SpanOf
closed i j = record { lower = n i; upper = n j; lower_inc = true; upper_inc = true }

abbrev line : ℕ → ℕ → Ratio → Ratio → Slice Line
line i j x y = record { span = closed i j; course = record { from = x; to = y } }

abbrev at : Ratio → Ratio → PointOf
at x y = record { x = x; y = y }

-- a point that goes along y = 0 from 0 to 10, in as many seconds
abbrev way : Slice PlaneLine
way = record { span = closed 0 10; course = record { from = at (n 0) (n 0); to = at (n 10) (n 0) } }

-- the line from 0 to 7 crosses 1 at a seventh of its time: there `#<=` ceases to hold, once, and
-- `#=` holds at this instant alone
once : wide_sign_entries cmp.Le (Some sql.TFrac) (MovingFrac (line 0 1 (n 0) (n 7) ∷ [])) (Number (n 1)) ≡ entry_given (over (pos 1) 7 ∷ [])
unfolding line_at line_value ◌+ℚ◌ ◌*ℚ◌ neg_ℚ inverse turned whole over gcd gcd_steps in_lowest_terms before same opposite root_at sign_of
once = refl

twice : wide_sign_entries cmp.Eq (Some sql.TFrac) (MovingFrac (line 0 1 (n 0) (n 7) ∷ [])) (Number (n 1)) ≡ entry_given (over (pos 1) 7 ∷ over (pos 1) 7 ∷ [])
unfolding line_at line_value ◌+ℚ◌ ◌*ℚ◌ neg_ℚ inverse turned whole over gcd gcd_steps in_lowest_terms before same opposite root_at sign_of
twice = refl

-- a point is at (3, 0) after 3 seconds; it passes below (3, 1), which is no instant of `#=`
meets_there : wide_sign_entries cmp.Eq (Some sql.TPoint) (MovingPoint (way ∷ [])) (Point (at (n 3) (n 0))) ≡ entry_given (n 3 ∷ n 3 ∷ [])
unfolding line_at line_value ◌+ℚ◌ ◌*ℚ◌ neg_ℚ inverse turned whole over gcd gcd_steps in_lowest_terms before same opposite root_at sign_of
meets_there = refl

never_meets : wide_sign_entries cmp.Eq (Some sql.TPoint) (MovingPoint (way ∷ [])) (Point (at (n 3) (n 1))) ≡ entry_given []
unfolding line_at line_value ◌+ℚ◌ ◌*ℚ◌ neg_ℚ inverse turned whole over gcd gcd_steps in_lowest_terms before same opposite root_at sign_of
never_meets = refl

-- atValues has the same instant
at_three : wide_value_entries (MovingPoint (way ∷ [])) (Point (at (n 3) (n 0))) ≡ entry_given (n 3 ∷ n 3 ∷ [])
unfolding line_at line_value ◌+ℚ◌ ◌*ℚ◌ neg_ℚ inverse turned whole over gcd gcd_steps in_lowest_terms before same opposite root_at sign_of
at_three = refl

-- a sum over time has its values at the ends of a piece
sums : wide_arithmetic_entries Sum sql.TFrac (MovingFrac (line 0 1 (n 0) (n 7) ∷ [])) (Number (n 1)) ≡ entry_given (n 1 ∷ n 8 ∷ [])
unfolding line_at line_value ◌+ℚ◌ ◌*ℚ◌ neg_ℚ inverse turned whole over gcd gcd_steps in_lowest_terms before same
sums = refl

-- the value at an instant inside a slice is computed, that at an end is held
inside : wide_look_entries (MovingFrac (line 0 2 (n 0) (n 6) ∷ [])) (Moment (n 1)) ≡ entry_given (n 3 ∷ [])
unfolding line_at line_value ◌+ℚ◌ ◌*ℚ◌ neg_ℚ inverse turned whole over gcd gcd_steps in_lowest_terms before same
inside = refl

held : wide_look_entries (MovingFrac (line 0 2 (n 0) (n 6) ∷ [])) (Moment (n 2)) ≡ entry_given []
unfolding line_at line_value ◌+ℚ◌ ◌*ℚ◌ neg_ℚ inverse turned whole over gcd gcd_steps in_lowest_terms before same
held = refl

-- atTime: the part from 1 on has one value that is computed
cut : wide_restriction_entries (MovingFrac (line 0 2 (n 0) (n 6) ∷ [])) (Span (closed 1 5)) ≡ entry_given (n 3 ∷ [])
unfolding line_at line_value ◌+ℚ◌ ◌*ℚ◌ neg_ℚ inverse turned whole over gcd gcd_steps in_lowest_terms before same
cut = refl

-- atStbox: in the box from (2, -1) to (4, 1) from 2 to 4; its y is level and held
through : wide_box_entries (MovingPoint (way ∷ [])) (Box (record { space = Some (record { xmin = n 2; ymin = whole (negsuc 0); xmax = n 4; ymax = n 1 }); time = None })) ≡ entry_given (n 2 ∷ n 4 ∷ n 2 ∷ n 4 ∷ [])
unfolding line_at line_value ◌+ℚ◌ ◌*ℚ◌ neg_ℚ inverse turned whole over gcd gcd_steps in_lowest_terms before same opposite root_at sign_of
through = refl

-- a box that it does not enter has no number, though it passes the x of two of its sides
beside : wide_box_entries (MovingPoint (way ∷ [])) (Box (record { space = Some (record { xmin = n 2; ymin = n 1; xmax = n 4; ymax = n 3 }); time = None })) ≡ entry_given []
unfolding line_at line_value ◌+ℚ◌ ◌*ℚ◌ neg_ℚ inverse turned whole over gcd gcd_steps in_lowest_terms before same opposite root_at sign_of
beside = refl

-- the nearest approach of the way from (-1500000000, 1) to (1500000000, 1) to the origin is 1: one
-- number, and no step on the way to it
abbrev long_way : Slice PlaneLine
long_way = record { span = closed 0 1; course = record { from = at (whole (negsuc 1499999999)) (n 1); to = at (n 1500000000) (n 1) } }

far : entries_of_two Wide op.NearestApproachSquared sql.Numeric [] (MovingPoint (long_way ∷ [])) (Point (at (n 0) (n 0))) ≡ entry_given (n 1 ∷ [])
unfolding line_at line_value ◌+ℚ◌ ◌*ℚ◌ neg_ℚ inverse turned whole over gcd gcd_steps in_lowest_terms before same
far = refl

within : entries_of_three Wide op.EDwithin (MovingPoint (long_way ∷ [])) (Point (at (n 0) (n 0))) (Number (n 1)) ≡ []
within = refl

-- a product of numbers names the number that is given
product : entries_of_two Wide op.Multiply sql.Int (sql.Int ∷ sql.Int ∷ []) (Number (n 3)) (Number (n 4)) ≡ record { formula = Given; parts = n 12 ∷ [] } ∷ []
unfolding ◌*ℚ◌ whole over gcd gcd_steps in_lowest_terms
product = refl
