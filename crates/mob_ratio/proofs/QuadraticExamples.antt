-- Worked examples of the definitions. Each holds by computing.
use Rattle.std.proofs.Common.{◌≡◌, true, false, pos, negsuc, refl}
use Rattle.mob_ratio.{specs.Gcd.{gcd, gcd_steps}, specs.Lowest.{in_lowest_terms}, specs.Ratio.{over, whole, turned, inverse, ◌+ℚ◌, ◌*ℚ◌, neg_ℚ}, specs.Order.{before, same}}
use Rattle.mob_ratio.specs.Quadratic.{quadratic, dips, reaches, infimum, absolute, square_is_within}

-- 4·s·s - 4·s + 2 is 1 at 1/2, its least value
middle : quadratic (whole (pos 4)) (whole (negsuc 1)) (whole (pos 2)) (over (pos 1) 2) ≡ whole (pos 1)
unfolding over gcd gcd_steps in_lowest_terms whole ◌+ℚ◌ ◌*ℚ◌
middle = refl

dips_inside : dips (whole (pos 4)) (whole (negsuc 1)) ≡ true
unfolding over gcd gcd_steps in_lowest_terms whole ◌+ℚ◌ before
dips_inside = refl

least_one : infimum (whole (pos 4)) (whole (negsuc 1)) (whole (pos 2)) ≡ whole (pos 1)
unfolding over gcd gcd_steps in_lowest_terms whole ◌+ℚ◌ neg_ℚ ◌*ℚ◌ inverse turned before
least_one = refl

-- it is at most 1 with both ends excluded, and never at most 1/2
reaches_one : reaches (whole (pos 4)) (whole (negsuc 1)) (whole (pos 2)) (whole (pos 1)) false false ≡ true
unfolding over gcd gcd_steps in_lowest_terms whole ◌+ℚ◌ neg_ℚ ◌*ℚ◌ before
reaches_one = refl

misses_half : reaches (whole (pos 4)) (whole (negsuc 1)) (whole (pos 2)) (over (pos 1) 2) true true ≡ false
unfolding over gcd gcd_steps in_lowest_terms whole ◌+ℚ◌ neg_ℚ ◌*ℚ◌ before
misses_half = refl

-- s·s is 0 at 0 alone: with 0 excluded it is never at most 0, and 0 is still its greatest lower
-- bound
end_counts : reaches (whole (pos 1)) (whole (pos 0)) (whole (pos 0)) (whole (pos 0)) true false ≡ true
unfolding over gcd gcd_steps in_lowest_terms whole ◌+ℚ◌ neg_ℚ ◌*ℚ◌ before
end_counts = refl

end_left_out : reaches (whole (pos 1)) (whole (pos 0)) (whole (pos 0)) (whole (pos 0)) false true ≡ false
unfolding over gcd gcd_steps in_lowest_terms whole ◌+ℚ◌ neg_ℚ ◌*ℚ◌ before
end_left_out = refl

approached_end : infimum (whole (pos 1)) (whole (pos 0)) (whole (pos 0)) ≡ whole (pos 0)
unfolding over gcd gcd_steps in_lowest_terms whole ◌+ℚ◌ neg_ℚ ◌*ℚ◌ inverse turned before
approached_end = refl

-- a constant function equal to the bound reaches it everywhere inside
level : reaches (whole (pos 0)) (whole (pos 0)) (whole (pos 9)) (whole (pos 9)) false false ≡ true
unfolding over gcd gcd_steps in_lowest_terms whole ◌+ℚ◌ neg_ℚ ◌*ℚ◌ before
level = refl

-- |-3/2| is at most |9/3|
by_quotients : square_is_within (whole (pos 2)) (whole (negsuc 2)) (whole (pos 9)) ≡ true
unfolding over gcd gcd_steps in_lowest_terms whole ◌+ℚ◌ neg_ℚ ◌*ℚ◌ inverse turned before same absolute
by_quotients = refl
