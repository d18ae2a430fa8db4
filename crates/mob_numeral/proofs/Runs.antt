-- Splitting off a run of bytes in a loop.
use Rattle.std.{proofs.Common.{◌≡◌, ℕ, ◌+◌, ◌<◌, [], ◌∷◌, ◌++◌, length, get_or, take, drop, Bool, true, refl, sym, ap, ◌∙◌, append_assoc, add-one, drop-cons}, proofs.lemmas.List.{take_more}}
use Rattle.mob_language.{specs.Language.{Text}, specs.Readers.{split_while}}

-- the run begins with the first i bytes
abbrev pub IsSplit : (ℕ → Bool) → Text → ℕ → Type 0
IsSplit test text i = split_while test text ≡ (take i text ++ (split_while test (drop i text)).0, (split_while test (drop i text)).1)

many_step : (test : ℕ → Bool) (c : ℕ) (cs : Text) → test c ≡ true → split_while test (c ∷ cs) ≡ (c ∷ (split_while test cs).0, (split_while test cs).1)
many_step test c cs e = rw e refl

pub split_more : (test : ℕ → Bool) (text : Text) (i : ℕ) → i < length text → test (get_or text i 0) ≡ true → IsSplit test text i → IsSplit test text (i + 1)
split_more test text i lt e so_far =
    let c = get_or text i 0 in
    let cut : drop i text ≡ c ∷ drop (i + 1) text = rw (add-one, drop-cons text i 0 lt) refl in
    let grows : take (i + 1) text ≡ take i text ++ c ∷ [] = take_more text i 0 lt in
    let one = ap (split_while test) cut ∙ many_step test c (drop (i + 1) text) e in
    so_far ∙ rw (one, grows) (ap (λ (t : Text). (t, (split_while test (drop (i + 1) text)).1)) (sym (append_assoc (take i text) (c ∷ []) (split_while test (drop (i + 1) text)).0)))
