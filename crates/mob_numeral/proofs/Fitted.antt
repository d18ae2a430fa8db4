-- The test for numbers that fit.
use Rattle.std.proofs.Common.{◌≡◌, Bool, true, cond, Some, None, sym, ap, subst, rules}
use Rattle.mob_ratio.specs.Ratio.{Ratio}
use Rattle.mob_frac.specs.Fits.{Fits}
use Rattle.mob_numeral.{specs.Fitting.{fits, fitting, number_value}, specs.NumberText.{number_text}, proofs.Again.{number_plain}}

fits_test : (q : Ratio) → Fits q → fits q ≡ true
unfolding fits
fits_test q f = let a = f.num_fits in let b = f.den_fits in search rules

pub fitting_fits : (q r : Ratio) → Fits q → q ≡ r → fitting r ≡ Some q
fitting_fits q r f e = subst (λ (x : Ratio). fitting x ≡ Some q) e (ap (λ (b : Bool). cond b (Some q) None) (fits_test q f))

-- the printed text of a number that fits denotes that number
pub number_value_said : (q : Ratio) → Fits q → number_value (number_text q) (Some q)
number_value_said q f =
    let n = number_plain q f in
    record { meant = n.0; said = n.1; is = sym (fitting_fits q _ f n.2) }
