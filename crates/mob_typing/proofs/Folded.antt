-- A list that is processed entry by entry, up to its end or the first mistake.
use Rattle.std.{proofs.Common.{◌≡◌, ◌∙◌, ◌<◌, ◌≤◌, ◌+◌, sym, ap, ℕ, List, [], ◌∷◌, length, drop, get_or, Result, Ok}, proofs.lemmas.List.{drop_more, drop_all}}
use Rattle.mob_list.specs.declared.fault.Fault.{Fault}
use Rattle.mob_scope.{specs.Answers.{◌>>=◌, StopsTyping}, specs.declared.fault.Mistake.{Mistake}}
use Rattle.mob_expression.proofs.Wrongs.{fails_along, fails_bind}

-- the entries before this position are processed
module _ {X S : Type 0} (step : S → X → Result S Mistake) (steps : S → List X → Result S Mistake) (more : (o : S) (x : X) (xs : List X) → steps o (x ∷ xs) ≡ (step o x >>= λ p. steps p xs)) (none : (o : S) → steps o [] ≡ Ok o)
    (xs : List X) (i : ℕ) (o : S) (whole : Result S Mistake) (so_far : whole ≡ steps o (drop i xs)) where
  module _ (x : X) (within : i < length xs) (at : x ≡ get_or xs i x) where
    abbrev later : S → Result S Mistake
    later p = steps p (drop (i + 1) xs)

    next : whole ≡ (step o x >>= later)
    next = so_far ∙ ap (steps o) (drop_more xs i x within ∙ ap (λ y. y ∷ drop (i + 1) xs) (sym at)) ∙ more o x (drop (i + 1) xs)

    pub step_fails : (e : Fault Mistake) → StopsTyping e (step o x) → StopsTyping e whole
    step_fails e h = fails_along e (step o x >>= later) whole next (fails_bind e (step o x) later h)

    pub step_made : (p : S) → step o x ≡ Ok p → whole ≡ steps p (drop (i + 1) xs)
    step_made p h = next ∙ ap (λ r. r >>= later) h

  pub steps_made : length xs ≤ i → whole ≡ Ok o
  steps_made last = so_far ∙ ap (steps o) (drop_all i xs last) ∙ none o
