use Rattle.std.{specs.Prelude.{IfSome}, proofs.Common.{◌≡◌, subst}}
use Rattle.mob_ratio.specs.Ratio.{Ratio}
use Rattle.mob_frac.specs.Fits.{Fits}
use Rattle.mob_frac.proofs.rough.Rough.difference.Goals as goal

pub returns : goal.returns
returns c = record { value = subst (λ (z : Ratio). IfSome c.rough.result (λ r. (r ≡ z) × Fits z)) c.difference.ensures.value c.rough.ensures.value }
