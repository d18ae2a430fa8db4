-- The shared pieces of two lists in order, from the front.
use Rattle.std.{specs.Prelude.{◌≡◌, Bool, true, false, cond, ◌&&◌, List, [], ◌∷◌, ◌++◌, map, refl}, specs.List.{filter}, specs.Iterator.{MakesProgress, item_count}}
use Rattle.std.proofs.Common.{ap, sym, ◌∙◌, subst, length, arith, Some}
use Rattle.mob_list.proofs.Tests.{neither_true}
use Rattle.mob_span.{specs.Span.{SpanOf, has, has_instant}, specs.Neighbours.{is_clear}, specs.Meet.{ends_before, meet_of}, specs.Meets.{PieceOf, shared_pieces}, specs.Pieces.{PiecesAreClear}}
use Rattle.mob_span.{proofs.SpanLemmas.{meet_none}, proofs.Insides.{clear_trans, clear_has, ends_no_later, ends_sooner}}

-- every entry of a list is after the span
abbrev pub AreAllClear : {X : Type 0} → (X → SpanOf) → SpanOf → List X → Type 0
AreAllClear span q [] = Unit {0}
AreAllClear span q (x ∷ xs) = (is_clear q (span x) ≡ true) × AreAllClear span q xs

module _ {X : Type 0} (span : X → SpanOf) where
  after_from : (q : SpanOf) (x : X) (xs : List X) → is_clear q (span x) ≡ true → PiecesAreClear span (x ∷ xs) → AreAllClear span q xs
  after_from q x [] h k = tt
  after_from q x (y ∷ xs) h k = let l = clear_trans q (span x) (span y) k.0 h k.1 in (l, after_from q y xs l k.2)

  -- the later entries of an ordered list are after its first
  pub all_after : (x : X) (xs : List X) → PiecesAreClear span (x ∷ xs) → AreAllClear span (span x) xs
  all_after x [] k = tt
  all_after x (y ∷ xs) k = (k.1, after_from (span x) y xs k.1 k.2)

  pub later : (q r : SpanOf) (xs : List X) → ((s : SpanOf) → is_clear q s ≡ true → is_clear r s ≡ true) → AreAllClear span q xs → AreAllClear span r xs
  later q r [] f h = tt
  later q r (x ∷ xs) f h = (f (span x) h.0, later q r xs f h.1)

neither' : (a b : Bool) → (b ≡ true → a ≡ false) → (a && b) ≡ false
neither' true true h = h refl
neither' true false h = refl
neither' false b h = refl

-- if one span is clear of another, they share no instant
pub none_shared : (a b : SpanOf) → is_clear a b ≡ true → has_instant (meet_of a b) ≡ false
none_shared a b h = (meet_none a b).1 (λ t. neither_true (has a t) (has b t) (λ k. clear_has a b t h k))

pub none_shared' : (a b : SpanOf) → is_clear b a ≡ true → has_instant (meet_of a b) ≡ false
none_shared' a b h = (meet_none a b).1 (λ t. neither' (has a t) (has b t) (λ k. clear_has b a t h k))

module _ {X Y : Type 0} (span : X → SpanOf) (span' : Y → SpanOf) where
  -- the piece of two entries
  abbrev pub piece : X → Y → PieceOf X Y
  piece x y = record { span = meet_of (span x) (span' y); left = x; right = y }

  -- the pieces of one entry
  abbrev pub row : X → List Y → List (PieceOf X Y)
  row x w = map (λ y. piece x y) (filter (λ y. has_instant (meet_of (span x) (span' y))) w)

  row_none : (x : X) (w : List Y) → AreAllClear span' (span x) w → row x w ≡ []
  row_none x [] h = refl
  row_none x (y ∷ w) h = rw (none_shared (span x) (span' y) h.0) (row_none x w h.1)

  pub none_left : (v : List X) → shared_pieces span span' v [] ≡ []
  none_left [] = refl
  none_left (x ∷ v) = none_left v

  skip_right : (v : List X) (y : Y) (w : List Y) → AreAllClear span (span' y) v → shared_pieces span span' v (y ∷ w) ≡ shared_pieces span span' v w
  skip_right [] y w h = refl
  skip_right (x ∷ v) y w h = rw (none_shared' (span x) (span' y) h.0, skip_right v y w h.1) refl

  front : (x : X) (y : Y) (ys : List (PieceOf X Y)) (rest : List (PieceOf X Y)) → ys ≡ [] → cond (has_instant (meet_of (span x) (span' y))) (piece x y ∷ ys) ys ++ rest ≡ cond (has_instant (meet_of (span x) (span' y))) (piece x y ∷ rest) rest
  front x y ys rest e = rw e (by (has_instant (meet_of (span x) (span' y))))
    where
      by : (b : Bool) → cond b (piece x y ∷ []) [] ++ rest ≡ cond b (piece x y ∷ rest) rest
      by true = refl
      by false = refl

  map_cond : (x : X) (y : Y) (w : List Y) (b : Bool) → map (λ z. piece x z) (cond b (y ∷ w) w) ≡ cond b (piece x y ∷ map (λ z. piece x z) w) (map (λ z. piece x z) w)
  map_cond x y w true = refl
  map_cond x y w false = refl

  -- the first entry of the first list ends no later: nothing else shares an instant with it
  pub step_left : (x : X) (v : List X) (y : Y) (w : List Y) → ends_before (span' y) (span x) ≡ false → PiecesAreClear span' (y ∷ w)
      → shared_pieces span span' (x ∷ v) (y ∷ w) ≡ cond (has_instant (meet_of (span x) (span' y))) (piece x y ∷ shared_pieces span span' v (y ∷ w)) (shared_pieces span span' v (y ∷ w))
  step_left x v y w e o =
      let none : row x w ≡ [] = row_none x w (later span' (span' y) (span x) w (λ s k. ends_no_later (span x) (span' y) s e k) (all_after span' y w o)) in
      ap (λ z. z ++ shared_pieces span span' v (y ∷ w)) (map_cond x y (filter (λ z. has_instant (meet_of (span x) (span' z))) w) (has_instant (meet_of (span x) (span' y)))) ∙ front x y (row x w) (shared_pieces span span' v (y ∷ w)) none

  put_cond : (p : PieceOf X Y) (xs ys : List (PieceOf X Y)) (b : Bool) → cond b (p ∷ xs) xs ++ ys ≡ cond b (p ∷ xs ++ ys) (xs ++ ys)
  put_cond p xs ys true = refl
  put_cond p xs ys false = refl

  -- the first entry of the second list ends sooner: nothing else shares an instant with it
  pub step_right : (x : X) (v : List X) (y : Y) (w : List Y) → ends_before (span' y) (span x) ≡ true → PiecesAreClear span (x ∷ v)
      → shared_pieces span span' (x ∷ v) (y ∷ w) ≡ cond (has_instant (meet_of (span x) (span' y))) (piece x y ∷ shared_pieces span span' (x ∷ v) w) (shared_pieces span span' (x ∷ v) w)
  step_right x v y w e o =
      let skip : shared_pieces span span' v (y ∷ w) ≡ shared_pieces span span' v w = skip_right v y w (later span (span x) (span' y) v (λ s k. ends_sooner (span x) (span' y) s e k) (all_after span x v o)) in
      ap (λ z. z ++ shared_pieces span span' v (y ∷ w)) (map_cond x y (filter (λ z. has_instant (meet_of (span x) (span' z))) w) (has_instant (meet_of (span x) (span' y)))) ∙ ap (λ z. cond (has_instant (meet_of (span x) (span' y))) (piece x y ∷ row x w) (row x w) ++ z) skip ∙ put_cond (piece x y) (row x w) (shared_pieces span span' v w) (has_instant (meet_of (span x) (span' y)))

  -- one step of the walk, if the two entries share an instant, and if they do not
  module _ (v v' : List X) (w w' : List Y) (x : X) (y : Y) (e : v ≡ x ∷ v') (f : w ≡ y ∷ w') where
    at_heads : shared_pieces span span' v w ≡ shared_pieces span span' (x ∷ v') (y ∷ w')
    at_heads = ap (λ z. shared_pieces span span' z w) e ∙ ap (λ z. shared_pieces span span' (x ∷ v') z) f

    left_step : ends_before (span' y) (span x) ≡ false → PiecesAreClear span' w → (b : Bool) → has_instant (meet_of (span x) (span' y)) ≡ b → shared_pieces span span' v w ≡ cond b (piece x y ∷ shared_pieces span span' v' w) (shared_pieces span span' v' w)
    left_step k o b h =
        let l = shared_pieces span span' v' (y ∷ w') in
        at_heads ∙ step_left x v' y w' k (subst (PiecesAreClear span') f o) ∙ ap (λ z. cond z (piece x y ∷ l) l) h ∙ ap (λ z. cond b (piece x y ∷ shared_pieces span span' v' z) (shared_pieces span span' v' z)) (sym f)

    right_step : ends_before (span' y) (span x) ≡ true → PiecesAreClear span v → (b : Bool) → has_instant (meet_of (span x) (span' y)) ≡ b → shared_pieces span span' v w ≡ cond b (piece x y ∷ shared_pieces span span' v w') (shared_pieces span span' v w')
    right_step k o b h =
        let l = shared_pieces span span' (x ∷ v') w' in
        at_heads ∙ step_right x v' y w' k (subst (PiecesAreClear span) e o) ∙ ap (λ z. cond z (piece x y ∷ l) l) h ∙ ap (λ z. cond b (piece x y ∷ shared_pieces span span' z w') (shared_pieces span span' z w')) (sym e)

    pub given_left : ends_before (span' y) (span x) ≡ false → PiecesAreClear span' w → has_instant (meet_of (span x) (span' y)) ≡ true → (s : SpanOf) → s ≡ meet_of (span x) (span' y) → shared_pieces span span' v w ≡ record { span = s; left = x; right = y } ∷ shared_pieces span span' v' w
    given_left k o h s i = left_step k o true h ∙ ap (λ r. record { span = r; left = x; right = y } ∷ shared_pieces span span' v' w) (sym i)

    pub given_right : ends_before (span' y) (span x) ≡ true → PiecesAreClear span v → has_instant (meet_of (span x) (span' y)) ≡ true → (s : SpanOf) → s ≡ meet_of (span x) (span' y) → shared_pieces span span' v w ≡ record { span = s; left = x; right = y } ∷ shared_pieces span span' v w'
    given_right k o h s i = right_step k o true h ∙ ap (λ r. record { span = r; left = x; right = y } ∷ shared_pieces span span' v w') (sym i)

    pub passed_left : ends_before (span' y) (span x) ≡ false → PiecesAreClear span' w → has_instant (meet_of (span x) (span' y)) ≡ false → shared_pieces span span' v w ≡ shared_pieces span span' v' w
    passed_left k o h = left_step k o false h

    pub passed_right : ends_before (span' y) (span x) ≡ true → PiecesAreClear span v → has_instant (meet_of (span x) (span' y)) ≡ false → shared_pieces span span' v w ≡ shared_pieces span span' v w'
    passed_right k o h = right_step k o false h

-- a step that returned the first piece of the rest
pub progress : {S A B : Type 0} (can : S → Type 0) (rest : S → List B) (s t : S) (x : A) (b : B) → can t → rest s ≡ b ∷ rest t → MakesProgress can (item_count rest) s (Some x) t
progress can rest s t x b c e = record { on = λ h. (c, tt, omega (arith, ap length e)); keeps = c; rests = λ h. tt }
