-- An error of one result type, as an error of another.
use Rattle.std.{specs.Prelude.{◌≡◌, Result, Err}, proofs.Common.{ap}}

abbrev the_err : (A : Type 0) {E : Type 0} → E → Result A E
the_err A x = Err x

pub err_as : {A B E : Type 0} {x y : E} → the_err A x ≡ the_err A y → the_err B x ≡ the_err B y
err_as {A} {B} {E} {x} {y} e = ap (the_err B) (same x y e)
  where
    same : (x y : E) → the_err A x ≡ the_err A y → x ≡ y
    same x y e = cc
