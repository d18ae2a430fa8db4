-- Lemmas on options that are some or none.
use Rattle.std.specs.Prelude.{◌≡◌, Some, None}

pub none_some : {A : Type 0} {R : Type 0} (x : A) → None ≡ Some x → R
none_some x e = cc

pub same_some : {A : Type 0} {x y : A} → Some x ≡ Some y → x ≡ y
same_some e = cc
