-- Lists made entry by entry.
use Rattle.std.{specs.Prelude.{slice_get}, proofs.Common.{◌≡◌, ◌∙◌, ◌<◌, ◌≤◌, ap, ℕ, ◌+◌, List, [], ◌∷◌, ◌++◌, append_assoc, length, map, Some, drop, get_or, sym}}
use Rattle.std.{proofs.lemmas.Option.{same_Some, slice_get_within, slice_get-get_or}, proofs.lemmas.List.{drop_more, drop_all, append-nil}}

pub drop_at : {A : Type 0} (xs : List A) (k : ℕ) (x : A) → slice_get xs k ≡ Some x → drop k xs ≡ x ∷ drop (k + 1) xs
drop_at xs k x h =
    let within = slice_get_within xs k x h in
    drop_more xs k x within ∙ ap (λ y. y ∷ drop (k + 1) xs) (same_Some (get_or xs k x) x (sym (slice_get-get_or xs k x within) ∙ h))

-- a list that is made of another in two steps, if the entries before this one are made
module _ {A B C : Type 0} (f : A → B) (g : B → C) (xs : List A) (i : ℕ) where
  pub mapped_more : (x : A) (done after : List C) → i < length xs → x ≡ get_or xs i x → after ≡ done ++ g (f x) ∷ [] → done ++ map g (map f (drop i xs)) ≡ after ++ map g (map f (drop (i + 1) xs))
  mapped_more x done after within at pushed =
      let rest = map g (map f (drop (i + 1) xs)) in
      ap (λ ys. done ++ map g (map f ys)) (drop_more xs i x within ∙ ap (λ y. y ∷ drop (i + 1) xs) (sym at)) ∙ sym (append_assoc done (g (f x) ∷ []) rest) ∙ ap (λ ys. ys ++ rest) (sym pushed)

  pub mapped_all : (done : List C) → length xs ≤ i → done ++ map g (map f (drop i xs)) ≡ done
  mapped_all done last = ap (λ ys. done ++ map g (map f ys)) (drop_all i xs last) ∙ append-nil done
