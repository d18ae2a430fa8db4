-- The first of two options.
use Rattle.std.specs.Prelude.{◌≡◌, Bool, true, false, cond, Option, Some, None, refl}

abbrev pub or_else : {B : Type 0} → Option B → Option B → Option B
or_else None y = y
or_else (Some x) y = Some x

pub cond-or_else : {B : Type 0} (b : Bool) (x : B) (y z : Option B) → cond b (Some x) (or_else y z) ≡ or_else (cond b (Some x) y) z
cond-or_else true x y z = refl
cond-or_else false x y z = refl

pub or_else-none : {B : Type 0} (x : Option B) → or_else x None ≡ x
or_else-none None = refl
or_else-none (Some x) = refl
