-- Tests, and options by a test.
use Rattle.std.{specs.Prelude.{is_some}, proofs.Common.{◌≡◌, Bool, true, false, ◌&&◌, Option, Some, None, refl, sym, true≢false}}

pub some_of : {X : Type 0} (o : Option X) → is_some o ≡ true → (x : X) × (o ≡ Some x)
some_of None h = absurd (true≢false (sym h))
some_of (Some x) h = (x, refl)

-- of two tests that exclude each other not both are true
pub neither_true : (a f : Bool) → (a ≡ true → f ≡ false) → (a && f) ≡ false
neither_true true f h = h refl
neither_true false f h = refl
