-- Entries that all fit.
use Rattle.std.{specs.Prelude.{List, [], ◌∷◌, ◌++◌, None}, specs.List.{flat_map}, proofs.Common.{inl, inr, refl}}
use Rattle.mob_frac.specs.Formula.{AllFit}
use Rattle.mob_slice.{specs.Entries.{Entry, IsFirst}, proofs.JoinedFirsts.{first_joined}}

pub none_front : (xs ys : List Entry) → IsFirst (xs ++ ys) None → IsFirst xs None
none_front [] ys h = refl
none_front (x ∷ xs) ys (inl h) = inl (h.0, none_front xs ys h.1)
none_front (x ∷ xs) ys (inr h) = cc h.1

pub none_back : (xs ys : List Entry) → IsFirst (xs ++ ys) None → IsFirst ys None
none_back [] ys h = h
none_back (x ∷ xs) ys (inl h) = none_back xs ys h.1
none_back (x ∷ xs) ys (inr h) = cc h.1

pub none_one : (e : Entry) → IsFirst (e ∷ []) None → AllFit e.parts
none_one e (inl h) = h.0
none_one e (inr h) = cc h.1

-- where no entry of the first kind passes, none of the second does
pub none_each : {P : Type 0} (f g : P → List Entry) → ((p : P) → IsFirst (f p) None → IsFirst (g p) None) → (ps : List P) → IsFirst (flat_map f ps) None → IsFirst (flat_map g ps) None
none_each f g on [] h = refl
none_each f g on (p ∷ ps) h = first_joined (g p) (flat_map g ps) None (on p (none_front (f p) (flat_map f ps) h)) (none_each f g on ps (none_back (f p) (flat_map f ps) h))
