-- Texts separated by commas without spaces, as a loop writes them.
use Rattle.std.{specs.List.{join_with_byte}, proofs.Common.{◌≡◌, List, [], ◌∷◌, ◌++◌, map, codes, sym, ap, ◌∙◌, append_assoc, append-nil}}
use Rattle.mob_language.specs.Language.{Text}

-- the texts after the first one, each after a comma
abbrev pub more_joined : {A : Type 0} → (A → Text) → List A → Text
more_joined text [] = []
more_joined text (x ∷ xs) = codes "," ++ (text x ++ more_joined text xs)

pub joined_more : {A : Type 0} (text : A → Text) (x : A) (xs : List A) → join_with_byte 44 (map text (x ∷ xs)) ≡ text x ++ more_joined text xs
joined_more text x [] = sym (append-nil (text x))
joined_more text x (y ∷ ys) = ap (λ (t : Text). text x ++ (codes "," ++ t)) (joined_more text y ys)

pub joined_done : {A : Type 0} (text : A → Text) (all : List A) (first : A) (rest left : List A) (old started now : Text)
    → all ≡ first ∷ rest → left ≡ [] → started ≡ old ++ text first
    → now ++ more_joined text left ≡ started ++ more_joined text rest
    → now ≡ old ++ join_with_byte 44 (map text all)
joined_done text all first rest left old started now is none start written =
    let done = rw none at written in
    sym (append-nil now) ∙ done ∙ rw (start, is, joined_more text first rest) (append_assoc old (text first) (more_joined text rest))
