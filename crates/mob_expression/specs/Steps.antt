-- A step of typing: a value and the constants so far, or the first mistake.
use Rattle.std.specs.Prelude.{◌≡◌, List, ◌∷◌, Result, Ok, Err}
use Rattle.mob_typed.specs.declared.typed.ConstText.{ConstText}
use Rattle.mob_list.specs.declared.fault.Fault.{Fault}
use Rattle.mob_scope.{specs.Answers.{◌>>=◌, StopsTyping}, specs.declared.fault.Mistake.{Mistake}}

-- a step takes the constants so far, and gives a value and the constants after it
abbrev pub TypingTurn : Type 0 → Type 0
TypingTurn A = List ConstText → Result (A × List ConstText) Mistake

-- the first of a list, and then the others
abbrev pub one_more : {A : Type 0} → TypingTurn A → TypingTurn (List A) → TypingTurn (List A)
one_more first others cs = first cs >>= λ r. others r.1 >>= λ s. Ok (r.0 ∷ s.0, s.1)

-- the program answers as the definition of a step says, and leaves these constants; a failed
-- allocation is always possible
abbrev pub TypesTo : {X Y : Type 0} → (X → Y) → Result X (Fault Mistake) → List ConstText → Result (Y × List ConstText) Mistake → Type 0
TypesTo view (Ok x) after read = read ≡ Ok (view x, after)
TypesTo view (Err e) after read = StopsTyping e read
