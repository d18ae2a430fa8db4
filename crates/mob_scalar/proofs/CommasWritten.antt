-- Texts with commas between them, as a loop writes them.
use Rattle.std.{proofs.Common.{◌≡◌, ℕ, ◌≤◌, List, [], ◌∷◌, ◌++◌, map, length, drop, codes, sym, ap, ◌∙◌, append_assoc, append-nil}, proofs.lemmas.List.{drop_all}}
use Rattle.mob_language.specs.Language.{Text}
use Rattle.mob_scalar.specs.Brackets.{with_commas, more_texts}

commas_more : {A : Type 0} (text : A → Text) (x : A) (xs : List A) → with_commas (map text (x ∷ xs)) ≡ text x ++ more_texts text xs
commas_more text x [] = sym (append-nil (text x))
commas_more text x (y ∷ ys) =
    ap (λ (t : Text). text x ++ codes ", " ++ t) (commas_more text y ys) ∙ simp append_assoc

pub commas_done : {A : Type 0} (text : A → Text) (all : List A) (first : A) (rest : List A) (i : ℕ) (old started now : Text)
    → all ≡ first ∷ rest → length rest ≤ i → started ≡ old ++ text first
    → now ++ more_texts text (drop i rest) ≡ started ++ more_texts text rest
    → now ≡ old ++ with_commas (map text all)
commas_done text all first rest i old started now is le start written =
    let none = drop_all i rest le in
    let done = rw none at written in
    sym (append-nil now) ∙ done ∙ rw (start, is, commas_more text first rest) (simp append_assoc)
