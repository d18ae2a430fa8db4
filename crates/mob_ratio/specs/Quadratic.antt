-- Convex quadratic functions on the interval from 0 to 1, such as the squared length of a
-- difference that changes linearly. A function is given by a, b and c: its value at s is `a·s·s +
-- 2·b·s + c`. So c is its value at 0, and b is half its slope there.
use Rattle.std.specs.Prelude.{◌≡◌, Bool, true, cond, ◌&&◌, ◌||◌, pos, Option, Some, None}
use Rattle.mob_ratio.{specs.Ratio.{Ratio, whole, ◌+ℚ◌, ◌-ℚ◌, ◌*ℚ◌, ◌/ℚ◌, neg_ℚ}, specs.Order.{before, up_to, same}, specs.Sign.{nil}}

-- the number 1
abbrev pub one : Ratio
one = whole (pos 1)

-- the value at s
abbrev pub quadratic : Ratio → Ratio → Ratio → Ratio → Ratio
quadratic a b c s = (c +ℚ s *ℚ (b +ℚ b)) +ℚ (s *ℚ s) *ℚ a

-- the value at 1
abbrev pub at_one : Ratio → Ratio → Ratio → Ratio
at_one a b c = (c +ℚ (b +ℚ b)) +ℚ a

-- s lies strictly between 0 and 1, or is an included end
abbrev pub in_unit : Bool → Bool → Ratio → Bool
in_unit with_nil with_one s = (before nil s || (with_nil && up_to nil s)) && (before s one || (with_one && up_to s one))

-- the function has its least value strictly between 0 and 1: it falls at 0 and rises at 1
abbrev pub dips : Ratio → Ratio → Bool
dips a b = before b nil && before nil (a +ℚ b)

-- a times that least value
abbrev pub scaled_least : Ratio → Ratio → Ratio → Ratio
scaled_least a b c = a *ℚ c -ℚ b *ℚ b

-- some value is at most d, by the first and the last value (at 0 and 1) and by `between`, which
-- says whether a least value inside is at most d. An excluded end suffices if the value there is
-- below d, since nearby values are below d too. Two excluded ends suffice if both values are at
-- most d, since then so are all between.
abbrev pub reaches_by : Ratio → Ratio → Ratio → Bool → Bool → Bool → Bool
reaches_by d first last with_nil with_one between =
    before first d || before last d || (with_nil && up_to first d) || (with_one && up_to last d) || (up_to first d && up_to last d) || between

abbrev pub reaches : Ratio → Ratio → Ratio → Ratio → Bool → Bool → Bool
reaches a b c d with_nil with_one = reaches_by d c (at_one a b c) with_nil with_one (dips a b && up_to (scaled_least a b c) (a *ℚ d))

-- the greatest lower bound of the values: the least value inside, or else the smaller end value,
-- whether or not that end is included
abbrev pub infimum_by : Ratio → Ratio → Option Ratio → Ratio
infimum_by first last None = cond (before last first) last first
infimum_by first last (Some least) = least

abbrev pub infimum : Ratio → Ratio → Ratio → Ratio
infimum a b c = infimum_by c (at_one a b c) (cond (dips a b) (Some (scaled_least a b c /ℚ a)) None)

-- s is included, and the value there is at most d
pub record IsAtMost (a b c d : Ratio) (with_nil with_one : Bool) (s : Ratio) : Type 0 where
  pub inside : in_unit with_nil with_one s ≡ true
  pub near : up_to (quadratic a b c s) d ≡ true

-- s is included, and the value there is below m
pub record IsUnderAt (a b c m : Ratio) (with_nil with_one : Bool) (s : Ratio) : Type 0 where
  pub inside : in_unit with_nil with_one s ≡ true
  pub under : before (quadratic a b c s) m ≡ true

-- m is the greatest lower bound of the values at all included s: none is below m, and for every
-- greater number there is a value below it
pub record IsInfimum (a b c : Ratio) (with_nil with_one : Bool) (m : Ratio) : Type 0 where
  pub lower : (s : Ratio) → in_unit with_nil with_one s ≡ true → up_to m (quadratic a b c s) ≡ true
  pub greatest : (n : Ratio) → before m n ≡ true → (s : Ratio) × IsUnderAt a b c n with_nil with_one s

-- the absolute value
unfoldable pub absolute : Ratio → Ratio
absolute q = cond (before q nil) (neg_ℚ q) q

-- k·k is at most a·d, by quotients; true if k is 0
abbrev pub square_is_within : Ratio → Ratio → Ratio → Bool
square_is_within a k d = same k nil || up_to (absolute (k /ℚ a)) (absolute (d /ℚ k))
