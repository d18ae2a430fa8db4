-- The first mistake in a part is the first mistake in the whole.
use Rattle.std.proofs.Common.{◌≡◌, ◌∙◌, ap, Result}
use Rattle.mob_list.{specs.declared.fault.Fault.{Fault}, specs.declared.fault.Fault.TheVariants.{Because, NoMemory}}
use Rattle.mob_scope.{specs.Answers.{◌>>=◌, StopsTyping}, specs.declared.fault.Mistake.{Mistake}}

pub fails_bind : {A B : Type 0} (f : Fault Mistake) (r : Result A Mistake) (k : A → Result B Mistake) → StopsTyping f r → StopsTyping f (r >>= k)
fails_bind (Because wrong) r k h = ap (λ a. a >>= k) h
fails_bind NoMemory r k h = tt

pub fails_along : {A : Type 0} (f : Fault Mistake) (r q : Result A Mistake) → q ≡ r → StopsTyping f r → StopsTyping f q
fails_along (Because wrong) r q e h = e ∙ h
fails_along NoMemory r q e h = tt
