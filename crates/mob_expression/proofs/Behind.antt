-- Lists made by steps of typing: the entries made so far, and those that the remaining steps add.
use Rattle.std.{proofs.Common.{◌≡◌, ◌∙◌, ◌<◌, ◌+◌, refl, sym, ap, ℕ, List, [], ◌∷◌, ◌++◌, length, drop, get_or, Result, Ok, Err}, proofs.lemmas.List.{drop_more}}
use Rattle.mob_typed.specs.declared.typed.ConstText.{ConstText}
use Rattle.mob_list.specs.declared.fault.Fault.{Fault}
use Rattle.mob_scope.{specs.Answers.{◌>>=◌, StopsTyping}, specs.declared.fault.Mistake.{Mistake}}
use Rattle.mob_expression.{specs.Steps.{TypingTurn, one_more}, proofs.Wrongs.{fails_along, fails_bind}}

-- the entries of a list, then those that a step gives
abbrev pub behind : {A : Type 0} → List A → TypingTurn (List A) → TypingTurn (List A)
behind [] others cs = others cs
behind (x ∷ xs) others cs = behind xs others cs >>= λ r. Ok (x ∷ r.0, r.1)

bind_both : {X Y Z : Type 0} (r : Result X Mistake) (f : X → Result Y Mistake) (g : Y → Result Z Mistake) → (r >>= f >>= g) ≡ (r >>= λ x. f x >>= g)
bind_both (Ok x) f g = refl
bind_both (Err w) f g = refl

module _ {A : Type 0} (first : TypingTurn A) (others : TypingTurn (List A)) (cs : List ConstText) where
  -- one more entry
  pub one_behind : (done : List A) → behind done (one_more first others) cs ≡ (first cs >>= λ r. behind (done ++ r.0 ∷ []) others r.1)
  one_behind [] = refl
  one_behind (x ∷ xs) =
      ap (λ r. r >>= λ l. Ok (x ∷ l.0, l.1)) (one_behind xs) ∙ bind_both (first cs) (λ r. behind (xs ++ r.0 ∷ []) others r.1) (λ l. Ok (x ∷ l.0, l.1))

  pub more_behind : (done : List A) (x : A) (ds : List ConstText) → first cs ≡ Ok (x, ds) → behind done (one_more first others) cs ≡ behind (done ++ x ∷ []) others ds
  more_behind done x ds is = one_behind done ∙ ap (λ r. r >>= λ l. behind (done ++ l.0 ∷ []) others l.1) is

  pub fails_behind : (f : Fault Mistake) (done : List A) → StopsTyping f (first cs) → StopsTyping f (behind done (one_more first others) cs)
  fails_behind f done h =
      let next : A × List ConstText → Result (List A × List ConstText) Mistake = λ r. behind (done ++ r.0 ∷ []) others r.1 in
      fails_along f (first cs >>= next) (behind done (one_more first others) cs) (one_behind done) (fails_bind f (first cs) next h)

-- no more entries
pub none_behind : {A : Type 0} (done : List A) (cs : List ConstText) → behind done (λ ds. Ok ([], ds)) cs ≡ Ok (done, cs)
none_behind [] cs = refl
none_behind (x ∷ xs) cs = ap (λ r. r >>= λ l. Ok (x ∷ l.0, l.1)) (none_behind xs cs)

pub same_behind : {A : Type 0} (f g : TypingTurn (List A)) (cs : List ConstText) → f cs ≡ g cs → (done : List A) → behind done f cs ≡ behind done g cs
same_behind f g cs is [] = is
same_behind f g cs is (x ∷ xs) = ap (λ r. r >>= λ l. Ok (x ∷ l.0, l.1)) (same_behind f g cs is xs)

-- a step for each entry of a list, if those before this position are made
module _ {X A : Type 0} (step : X → TypingTurn A) (steps : List X → TypingTurn (List A)) (more : (x : X) (xs : List X) (cs : List ConstText) → steps (x ∷ xs) cs ≡ one_more (step x) (steps xs) cs)
    (none : (cs : List ConstText) → steps [] cs ≡ Ok ([], cs)) (xs : List X) (i : ℕ) (done : List A) (cs : List ConstText) (whole : Result (List A × List ConstText) Mistake)
    (so_far : whole ≡ behind done (steps (drop i xs)) cs) where
  module _ (x : X) (within : i < length xs) (at : x ≡ get_or xs i x) where
    next : whole ≡ behind done (one_more (step x) (steps (drop (i + 1) xs))) cs
    next = so_far ∙ ap (λ ys. behind done (steps ys) cs) (drop_more xs i x within ∙ ap (λ y. y ∷ drop (i + 1) xs) (sym at))
        ∙ same_behind (steps (x ∷ drop (i + 1) xs)) (one_more (step x) (steps (drop (i + 1) xs))) cs (more x (drop (i + 1) xs) cs) done

    pub entry_fails : (f : Fault Mistake) → StopsTyping f (step x cs) → StopsTyping f whole
    entry_fails f h = fails_along f (behind done (one_more (step x) (steps (drop (i + 1) xs))) cs) whole next (fails_behind (step x) (steps (drop (i + 1) xs)) cs f done h)

    pub entry_made : (a : A) (ds : List ConstText) (after : List A) → step x cs ≡ Ok (a, ds) → after ≡ done ++ a ∷ [] → whole ≡ behind after (steps (drop (i + 1) xs)) ds
    entry_made a ds after h pushed = next ∙ more_behind (step x) (steps (drop (i + 1) xs)) cs done a ds h ∙ ap (λ d. behind d (steps (drop (i + 1) xs)) ds) (sym pushed)

  pub entries_made : drop i xs ≡ [] → whole ≡ Ok (done, cs)
  entries_made gone = so_far ∙ ap (λ ys. behind done (steps ys) cs) gone ∙ same_behind (steps []) (λ ds. Ok ([], ds)) cs (none cs) done ∙ none_behind done cs
