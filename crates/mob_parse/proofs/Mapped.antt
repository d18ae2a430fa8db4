-- What is made of the value of an answer.
use Rattle.std.proofs.Common.{◌≡◌, Ok, Err, refl}
use Rattle.mob_grammar.specs.Reading.{Answer, ◌>>=◌}

-- a function of the value, and the value after another one
abbrev pub mapped : {A B : Type 0} → (A → B) → Answer A → Answer B
mapped h a = a >>= λ z. Ok (h z.0, z.1)

abbrev pub after : {A B : Type 0} → A → Answer B → Answer (A × B)
after x a = a >>= λ y. Ok ((x, y.0), y.1)

pub mapped_after : {A B C : Type 0} (h : A × B → C) (x : A) (a : Answer B) → mapped h (after x a) ≡ mapped (λ y. h (x, y)) a
mapped_after h x (Ok y) = refl
mapped_after h x (Err r) = refl

pub mapped_twice : {A B C : Type 0} (h : B → C) (g : A → B) (a : Answer A) → mapped h (mapped g a) ≡ mapped (λ x. h (g x)) a
mapped_twice h g (Ok x) = refl
mapped_twice h g (Err r) = refl
