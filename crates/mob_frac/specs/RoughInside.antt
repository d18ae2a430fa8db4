-- The fields of a `Rough`, and the rational that they represent.
use Rattle.std.specs.Prelude.{◌^◌, ◌<◌, pos, ◌<ℤ◌, nat_abs}
use Rattle.mob_ratio.specs.Ratio.{Ratio, over}
use Rattle.mob_frac.specs.declared.rough.Rough.TheInside.{Inside}

-- the invariant of the fields, which need not be in lowest terms
pub record IsRough (f : Inside) : Type 0 where
  pub den_positive : pos 0 <ℤ f.den
  pub num_fits : nat_abs f.num < 2 ^ 62
  pub den_fits : nat_abs f.den < 2 ^ 62

-- the number that the fields represent
abbrev pub rough_value : Inside → Ratio
rough_value f = over f.num (nat_abs f.den)
