-- A list as its first entry and the others, and the consequence of an answer.
use Rattle.std.{specs.Prelude.{OnOk}, proofs.Common.{◌≡◌, ◌-◌, ◌≤◌, List, [], ◌∷◌, length, get_or, take, drop, sym, ap, arith, Result, Ok, Err}, proofs.lemmas.List.{take_all}}

pub parted : {A : Type 0} (xs : List A) (x : A) → x ≡ get_or xs 0 x → 1 ≤ length xs → xs ≡ x ∷ take (length xs - 1) (drop 1 xs)
parted [] x h n = absurd (omega arith)
parted {A} (y ∷ ys) x h n = rw (take_all (length (y ∷ ys) - 1) ys (omega arith)) (ap (λ (z : A). z ∷ ys) (sym h))

pub on_ok : {T E : Type 0} (r : Result T E) {P Q : Type 0} → (P → Q) → OnOk r P → OnOk r Q
on_ok (Ok v) f h = f h
on_ok (Err e) f h = tt
