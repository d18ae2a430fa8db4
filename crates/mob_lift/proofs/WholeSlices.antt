-- Lemmas on slices on their whole spans.
use Rattle.std.{specs.Prelude.{◌≡◌, true, List, [], ◌∷◌}, specs.List.{AllByRecursion}}
use Rattle.mob_span.{specs.Neighbours.{is_clear}, specs.Chained.{OfHead}, specs.Pieces.{PiecesAreClear}, proofs.Insides.{inside_self}}
use Rattle.mob_slice.{specs.Slices.{IsSound}, specs.declared.slice.Slice.{Slice}}
use Rattle.mob_lift.specs.Ones.{HoldsOne, whole_slices}

wholes_head : {C : Type 0} (s : Slice C) (v : List (Slice C)) → OfHead (λ p q. is_clear p.span q.span ≡ true) s v → OfHead (λ p q. is_clear p.0 q.0 ≡ true) (s.span, s) (whole_slices v)
wholes_head s [] h = tt
wholes_head s (r ∷ v) h = h

-- they are ordered and disjoint if the slices are
pub wholes_clear : {C : Type 0} (v : List (Slice C)) → PiecesAreClear (λ s. s.span) v → PiecesAreClear (λ p. p.0) (whole_slices v)
wholes_clear [] h = tt
wholes_clear (s ∷ v) h = (h.0, wholes_head s v h.1, wholes_clear v h.2)

-- each slice contains its span
pub wholes_hold : {C X : Type 0} (start end : C → X) (v : List (Slice C)) → AllByRecursion (IsSound start end) v → AllByRecursion (HoldsOne start end) (whole_slices v)
wholes_hold start end [] h = tt
wholes_hold start end (s ∷ v) h = ((h.0, inside_self s.span), wholes_hold start end v h.1)
