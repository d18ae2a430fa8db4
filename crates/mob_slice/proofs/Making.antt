-- The slices of a list of parts, as they are made.
use Rattle.std.{specs.Prelude.{◌≡◌, Bool, true, false, cond, Some, None, MatchOption, List, [], ◌∷◌, ◌++◌, refl}, specs.List.{AllByRecursion}}
use Rattle.std.proofs.Common.{ap, sym, ◌∙◌, subst, append_assoc, append-nil, inl, inr}
use Rattle.mob_span.{specs.Span.{SpanOf, has, has_instant}, specs.Neighbours.{is_clear, is_inside}, specs.Pieces.{PiecesAreClear, piece_at}, proofs.FirstOf.{or_else, cond-or_else, or_else-none}}
use Rattle.mob_span.proofs.Insides.{clear_trans, clear_inside, inside_clear, clear_has, inside_has}
use Rattle.mob_ratio.specs.Ratio.{Ratio}
use Rattle.mob_slice.{specs.Slices.{value_at, OfHead, IsClearOf, IsRisingInTime}, specs.Pieces.{AreInside}, specs.declared.slice.Slice.{Slice}}
use Rattle.mob_slice.specs.Piecewise.{AreGivenInOrder, IsPiecewise, IsFirstFailure}

-- each slice is after the span
abbrev AreAllClear : {D : Type 0} → SpanOf → List (Slice D) → Type 0
AreAllClear q [] = Unit {0}
AreAllClear q (s ∷ rest) = (is_clear q s.span ≡ true) × AreAllClear q rest

module _ {D : Type 0} where
  all_clear-append : (q : SpanOf) (xs ys : List (Slice D)) → AreAllClear q xs → AreAllClear q ys → AreAllClear q (xs ++ ys)
  all_clear-append q [] ys h k = k
  all_clear-append q (x ∷ xs) ys h k = (h.0, all_clear-append q xs ys h.1 k)

  all_clear_inside : (q p : SpanOf) (xs : List (Slice D)) → is_clear q p ≡ true → AreInside p xs → AreAllClear q xs
  all_clear_inside q p [] h k = tt
  all_clear_inside q p (x ∷ xs) h k = (clear_inside q p x.span h k.0, all_clear_inside q p xs h k.1)

  head_clear : (p : SpanOf) (x : Slice D) (ys : List (Slice D)) → is_inside p x.span ≡ true → AreAllClear p ys → OfHead IsClearOf x ys
  head_clear p x [] h k = tt
  head_clear p x (y ∷ ys) h k = inside_clear p y.span x.span h k.0

  head_joined : (p : SpanOf) (x : Slice D) (xs ys : List (Slice D)) → is_inside p x.span ≡ true → OfHead IsClearOf x xs → AreAllClear p ys → OfHead IsClearOf x (xs ++ ys)
  head_joined p x [] ys h l k = head_clear p x ys h k
  head_joined p x (y ∷ xs) ys h l k = l

  module _ {B : Type 0} (value : D → Ratio → Ratio → Ratio → B) where
    value_at-append : (xs ys : List (Slice D)) (t : Ratio) → value_at value (xs ++ ys) t ≡ or_else (value_at value xs t) (value_at value ys t)
    value_at-append [] ys t = refl
    value_at-append (x ∷ xs) ys t = ap (λ o. cond (has x.span t) (Some (value x.course x.span.lower x.span.upper t)) o) (value_at-append xs ys t) ∙ cond-or_else (has x.span t) _ _ _

    none_after : (q : SpanOf) (xs : List (Slice D)) (t : Ratio) → AreAllClear q xs → has q t ≡ true → value_at value xs t ≡ None
    none_after q [] t h k = refl
    none_after q (x ∷ xs) t h k = rw (clear_has q x.span t h.0 k) (none_after q xs t h.1 k)

    none_inside : (p : SpanOf) (xs : List (Slice D)) (t : Ratio) → AreInside p xs → has p t ≡ false → value_at value xs t ≡ None
    none_inside p [] t h k = refl
    none_inside p (x ∷ xs) t h k = rw (inside_has p x.span t h.0 k) (none_inside p xs t h.1 k)

module _ {P D B V : Type 0} (value : D → Ratio → Ratio → Ratio → B) (start end : D → B) (span : P → SpanOf) (items : V → List (Slice D)) (gives : P → V → Type 0) (sound : (p : P) (v : V) → has_instant (span p) ≡ true → gives p v → IsRisingInTime start end (items v) × AreInside (span p) (items v)) where
  ordered-append : (p : SpanOf) (xs ys : List (Slice D)) → IsRisingInTime start end xs → AreInside p xs → AreAllClear p ys → IsRisingInTime start end ys → IsRisingInTime start end (xs ++ ys)
  ordered-append p [] ys h k l m = m
  ordered-append p (x ∷ xs) ys h k l m = (h.0, head_joined p x xs ys k.0 h.1 l, ordered-append p xs ys h.2 k.1 l m)

  abbrev ClearOfHead : SpanOf → List P → Type 0
  ClearOfHead q [] = Unit {0}
  ClearOfHead q (p ∷ parts) = is_clear q (span p) ≡ true

  clear_of_next : (q : SpanOf) (p : P) (parts : List P) → is_clear q (span p) ≡ true → PiecesAreClear span (p ∷ parts) → ClearOfHead q parts
  clear_of_next q p [] h k = tt
  clear_of_next q p (r ∷ parts) h k = clear_trans q (span p) (span r) k.0 h k.1

  of_head : (p : P) (parts : List P) → PiecesAreClear span (p ∷ parts) → ClearOfHead (span p) parts
  of_head p [] k = tt
  of_head p (r ∷ parts) k = k.1

  -- the slices of the parts after q are after q
  made_clear : (q : SpanOf) (parts : List P) (slices : List (Slice D)) → AreGivenInOrder items gives parts slices → PiecesAreClear span parts → ClearOfHead q parts → AreAllClear q slices
  made_clear q [] slices h k l = rw h tt
  made_clear q (p ∷ parts) slices h k l = rw h.4 (all_clear-append q (items h.0) h.1 (all_clear_inside q (span p) (items h.0) l (sound p h.0 k.0 h.2).1) (made_clear q parts h.1 h.3 k.2 (clear_of_next q p parts l k)))

  made_ordered : (parts : List P) (slices : List (Slice D)) → AreGivenInOrder items gives parts slices → PiecesAreClear span parts → IsRisingInTime start end slices
  made_ordered [] slices h k = rw h tt
  made_ordered (p ∷ parts) slices h k = let f = sound p h.0 k.0 h.2 in rw h.4 (ordered-append (span p) (items h.0) h.1 f.0 f.1 (made_clear (span p) parts h.1 h.3 k.2 (of_head p parts k)) (made_ordered parts h.1 h.3 k.2))

  abbrev AtEach : List P → List (Slice D) → Ratio → Type 0
  AtEach parts slices t = MatchOption (piece_at span parts t) (value_at value slices t ≡ None) (λ p. (v : V) × gives p v × (value_at value slices t ≡ value_at value (items v) t))

  at_by : (p : P) (parts : List P) (slices : List (Slice D)) (v : V) (rest : List (Slice D)) → has_instant (span p) ≡ true → gives p v → AreAllClear (span p) rest → slices ≡ items v ++ rest → (t : Ratio) → AtEach parts rest t → (b : Bool) → has (span p) t ≡ b → MatchOption (cond b (Some p) (piece_at span parts t)) (value_at value slices t ≡ None) (λ q. (w : V) × gives q w × (value_at value slices t ≡ value_at value (items w) t))
  at_by p parts slices v rest some gave after e t ih true h =
      (v, gave, rw e (value_at-append value (items v) rest t ∙ ap (or_else (value_at value (items v) t)) (none_after value (span p) rest t after h) ∙ or_else-none _))
  at_by p parts slices v rest some gave after e t ih false h =
      let none : value_at value (items v) t ≡ None = none_inside value (span p) (items v) t (sound p v some gave).1 h in
      let same : value_at value slices t ≡ value_at value rest t = rw e (value_at-append value (items v) rest t ∙ ap (λ o. or_else o (value_at value rest t)) none) in
      subst (λ o. MatchOption (piece_at span parts t) (o ≡ None) (λ q. (w : V) × gives q w × (o ≡ value_at value (items w) t))) (sym same) ih

  made_at : (parts : List P) (slices : List (Slice D)) → AreGivenInOrder items gives parts slices → PiecesAreClear span parts → (t : Ratio) → AtEach parts slices t
  made_at [] slices h k t = rw h refl
  made_at (p ∷ parts) slices h k t = at_by p parts slices h.0 h.1 k.0 h.2 (made_clear (span p) parts h.1 h.3 k.2 (of_head p parts k)) h.4 t (made_at parts h.1 h.3 k.2 t) (has (span p) t) refl

  pub is_lifted : (parts : List P) (slices : List (Slice D)) → AreGivenInOrder items gives parts slices → PiecesAreClear span parts → IsPiecewise value start end span items gives parts slices
  is_lifted parts slices h k = record { made = h; ordered = made_ordered parts slices h k; at_each = made_at parts slices h k }

-- one more part at the end
pub lifts_more : {P D V : Type 0} (items : V → List (Slice D)) (gives : P → V → Type 0) (parts : List P) (slices slices' : List (Slice D)) (p : P) (v : V) → AreGivenInOrder items gives parts slices → gives p v → slices' ≡ slices ++ items v → AreGivenInOrder items gives (parts ++ p ∷ []) slices'
lifts_more items gives [] slices slices' p v h g e = rw (e, h) (v, [], g, refl, sym (append-nil (items v)))
lifts_more items gives (q ∷ parts) slices slices' p v h g e = (h.0, h.1 ++ items v, h.2, lifts_more items gives parts h.1 (h.1 ++ items v) p v h.3 g refl, rw (e, h.4, append_assoc) refl)

-- the closure failed on the next part, and succeeded on all before it
pub fault_next : {P D V : Type 0} (items : V → List (Slice D)) (gives : P → V → Type 0) (fails : P → Type 0) (parts : List P) (slices : List (Slice D)) (p : P) → AreGivenInOrder items gives parts slices → fails p → IsFirstFailure gives fails (parts ++ p ∷ [])
fault_next items gives fails [] slices p h k = inl k
fault_next items gives fails (q ∷ parts) slices p h k = inr (h.0, h.2, fault_next items gives fails parts h.1 p h.3 k)

pub last_of_each : {A : Type 0} (P : A → Type 0) (xs : List A) (x : A) → AllByRecursion P (xs ++ x ∷ []) → P x
last_of_each P [] x h = h.0
last_of_each P (y ∷ xs) x h = last_of_each P xs x h.1
