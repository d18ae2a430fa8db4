-- The first entry that does not fit, in two concatenated lists of entries.
use Rattle.std.{specs.Prelude.{Option, Some, None, List, [], ◌∷◌, ◌++◌}, proofs.Common.{sym, inl, inr, ⊎_elim}}
use Rattle.mob_slice.{specs.Entries.{Entry, IsFirst}, specs.declared.formula.Formula.{Formula}, proofs.Options.{none_some}}

-- entries that all fit, followed by others
pub first_joined : (xs ys : List Entry) (r : Option Formula) → IsFirst xs None → IsFirst ys r → IsFirst (xs ++ ys) r
first_joined [] ys r h k = k
first_joined (e ∷ xs) ys r h k = ⊎_elim (λ m. inl (m.0, first_joined xs ys r m.1 k)) (λ m. none_some e.formula m.1) h

-- entries after the first that does not fit do not matter
pub first_front : (xs ys : List Entry) (f : Formula) → IsFirst xs (Some f) → IsFirst (xs ++ ys) (Some f)
first_front [] ys f h = none_some f (sym h)
first_front (e ∷ xs) ys f h = ⊎_elim (λ m. inl (m.0, first_front xs ys f m.1)) (λ m. inr m) h
