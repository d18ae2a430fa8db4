-- The results of an iterator that shows its rest.
use Rattle.std.{specs.Prelude.{◌≡◌, true, List, [], ◌∷◌, ◌++◌, map}, specs.Iterator.{Yields, Drains, HoldsAlong, YieldsFirstBy}, specs.List.{AllByRecursion}}
use Rattle.std.proofs.Common.{ap, ◌∙◌, subst, append-nil}
use Rattle.mob_span.{specs.Span.{SpanOf}, specs.Neighbours.{is_clear}, specs.Chained.{OfHead}, specs.Pieces.{PiecesAreClear}}

module _ {S A B : Type 0} (view : A → B) (rest : S → List B) where
  -- the results so far and the rest are the whole
  pub yielded : (s : S) (xs : List A) (t : S) → Yields (YieldsFirstBy view rest) s xs t → rest s ≡ map view xs ++ rest t
  yielded s [] t y = ap rest y
  yielded s (x ∷ xs) t y = y.1 ∙ ap (λ l. view x ∷ l) (yielded y.0 xs t y.2)

  -- a complete walk returns all
  pub drained : (s : S) (xs : List A) → Drains (YieldsFirstBy view rest) s xs → rest s ≡ map view xs
  drained s xs d = yielded s xs d.1.0 d.1.1 ∙ ap (λ l. map view xs ++ l) d.1.2.0 ∙ append-nil (map view xs)

  module _ (span : B → SpanOf) where
    head_front : (x : A) (xs : List A) (ys : List B) → OfHead (λ p q. is_clear (span p) (span q) ≡ true) (view x) (map view xs ++ ys) → OfHead (λ p q. is_clear (span (view p)) (span (view q)) ≡ true) x xs
    head_front x [] ys h = tt
    head_front x (z ∷ xs) ys h = h

    front_clear : (xs : List A) (ys : List B) → PiecesAreClear span (map view xs ++ ys) → PiecesAreClear (λ x. span (view x)) xs
    front_clear [] ys h = tt
    front_clear (x ∷ xs) ys h = (h.0, head_front x xs ys h.1, front_clear xs ys h.2)

    -- the results are ordered if the whole is
    pub clear_along : (s : S) → PiecesAreClear span (rest s) → HoldsAlong (YieldsFirstBy view rest) s (PiecesAreClear (λ x. span (view x)))
    clear_along s h xs t y = front_clear xs (rest t) (subst (PiecesAreClear span) (yielded s xs t y) h)

  module _ (P : B → Type 0) where
    front_all : (xs : List A) (ys : List B) → AllByRecursion P (map view xs ++ ys) → AllByRecursion (λ x. P (view x)) xs
    front_all [] ys h = tt
    front_all (x ∷ xs) ys h = (h.0, front_all xs ys h.1)

    pub all_along : (s : S) → AllByRecursion P (rest s) → HoldsAlong (YieldsFirstBy view rest) s (AllByRecursion (λ x. P (view x)))
    all_along s h xs t y = front_all xs (rest t) (subst (AllByRecursion P) (yielded s xs t y) h)
