-- Laws of the pieces that two lists share.
use Rattle.std.{specs.Prelude.{◌≡◌, Bool, true, false, cond, ◌&&◌, Option, Some, None, option_map, List, [], ◌∷◌, ◌++◌, map, refl}, specs.List.{filter, AllByRecursion}, specs.Option.{option_zip}}
use Rattle.std.proofs.Common.{ap, sym, ◌∙◌}
use Rattle.mob_list.proofs.Each.{each_both}
use Rattle.mob_span.{specs.Span.{SpanOf, has, has_instant}, specs.Neighbours.{is_clear, is_inside}, specs.Meet.{meet_of}, specs.Meets.{PieceOf, shared_pieces, SharedAreCommon}, specs.Chained.{OfHead}}
use Rattle.mob_span.{specs.Pieces.{piece_at, PiecesAreClear}, proofs.FirstOf.{or_else}, proofs.SpanLemmas.{meet_has, no_instant}}
use Rattle.mob_span.{proofs.Insides.{clear_meet, clear_meet', meet_clear, meet_clear', meet_left, meet_right}, proofs.Shared.{AreAllClear, all_after, later, piece, row}}
use Rattle.mob_ratio.specs.Ratio.{Ratio}

zip-none : {A B : Type 0} (x : Option A) → option_zip {U = B} x None ≡ None
zip-none None = refl
zip-none (Some x) = refl

head_all : {P : Type 0} (span : P → SpanOf) (p : P) (xs : List P) → AreAllClear span (span p) xs → OfHead (λ q r. is_clear (span q) (span r) ≡ true) p xs
head_all span p [] h = tt
head_all span p (x ∷ xs) h = h.0

all_joined : {P : Type 0} (span : P → SpanOf) (q : SpanOf) (xs ys : List P) → AreAllClear span q xs → AreAllClear span q ys → AreAllClear span q (xs ++ ys)
all_joined span q [] ys h k = k
all_joined span q (x ∷ xs) ys h k = (h.0, all_joined span q xs ys h.1 k)

module _ {X Y : Type 0} (span : X → SpanOf) (span' : Y → SpanOf) where
  row_clear : (q : SpanOf) (x : X) (w : List Y) → AreAllClear span' q w → AreAllClear (λ p. p.span) q (row span span' x w)
  row_clear q x [] h = tt
  row_clear q x (y ∷ w) h = by (row_clear q x w h.1) (has_instant (meet_of (span x) (span' y)))
    where
      by : AreAllClear (λ p. p.span) q (row span span' x w) → (b : Bool) → AreAllClear (λ p. p.span) q (map (λ z. piece span span' x z) (cond b (y ∷ filter (λ z. has_instant (meet_of (span x) (span' z))) w) (filter (λ z. has_instant (meet_of (span x) (span' z))) w)))
      by ih true = (clear_meet' q (span x) (span' y) h.0, ih)
      by ih false = ih

  row_after : (q : SpanOf) (x : X) (w : List Y) → is_clear q (span x) ≡ true → AreAllClear (λ p. p.span) q (row span span' x w)
  row_after q x [] h = tt
  row_after q x (y ∷ w) h = by (row_after q x w h) (has_instant (meet_of (span x) (span' y)))
    where
      by : AreAllClear (λ p. p.span) q (row span span' x w) → (b : Bool) → AreAllClear (λ p. p.span) q (map (λ z. piece span span' x z) (cond b (y ∷ filter (λ z. has_instant (meet_of (span x) (span' z))) w) (filter (λ z. has_instant (meet_of (span x) (span' z))) w)))
      by ih true = (clear_meet q (span x) (span' y) h, ih)
      by ih false = ih

  -- a span clear of all of the first list is clear of all pieces
  meets_after : (q : SpanOf) (v : List X) (w : List Y) → AreAllClear span q v → AreAllClear (λ p. p.span) q (shared_pieces span span' v w)
  meets_after q [] w h = tt
  meets_after q (x ∷ v) w h = all_joined (λ p. p.span) q (row span span' x w) (shared_pieces span span' v w) (row_after q x w h.0) (meets_after q v w h.1)

  row_joined : (x : X) (w : List Y) (ps : List (PieceOf X Y)) → PiecesAreClear span' w → PiecesAreClear (λ p. p.span) ps → AreAllClear (λ p. p.span) (span x) ps → PiecesAreClear (λ p. p.span) (row span span' x w ++ ps)
  row_joined x [] ps h k l = k
  row_joined x (y ∷ w) ps h k l = by (row_joined x w ps h.2 k l) (has_instant (meet_of (span x) (span' y))) refl
    where
      m : SpanOf
      m = meet_of (span x) (span' y)

      by : PiecesAreClear (λ p. p.span) (row span span' x w ++ ps) → (b : Bool) → has_instant m ≡ b → PiecesAreClear (λ p. p.span) (map (λ z. piece span span' x z) (cond b (y ∷ filter (λ z. has_instant (meet_of (span x) (span' z))) w) (filter (λ z. has_instant (meet_of (span x) (span' z))) w)) ++ ps)
      by ih true e =
          let first = row_clear m x w (later span' (span' y) m w (λ s i. meet_clear' (span x) (span' y) s i) (all_after span' y w h)) in
          let rest = later (λ p. p.span) (span x) m ps (λ s i. meet_clear (span x) (span' y) s i) l in
          (e, head_all (λ p. p.span) (piece span span' x y) (row span span' x w ++ ps) (all_joined (λ p. p.span) m (row span span' x w) ps first rest), ih)
      by ih false e = ih

  -- The pieces are ordered and disjoint, and each has an instant.
  pub meets_clear : (v : List X) (w : List Y) → PiecesAreClear span v → PiecesAreClear span' w → PiecesAreClear (λ p. p.span) (shared_pieces span span' v w)
  meets_clear [] w h k = tt
  meets_clear (x ∷ v) w h k = row_joined x w (shared_pieces span span' v w) k (meets_clear v w h.2 k) (meets_after (span x) v w (all_after span x v h))

  -- the two entries of a piece
  abbrev pub sides : PieceOf X Y → X × Y
  sides p = (p.left, p.right)

  part_joined : (ps qs : List (PieceOf X Y)) (t : Ratio) → piece_at (λ p. p.span) (ps ++ qs) t ≡ or_else (piece_at (λ p. p.span) ps t) (piece_at (λ p. p.span) qs t)
  part_joined [] qs t = refl
  part_joined (p ∷ ps) qs t = ap (λ o. cond (has p.span t) (Some p) o) (part_joined ps qs t) ∙ by (has p.span t)
    where
      by : (b : Bool) → cond b (Some p) (or_else (piece_at (λ p. p.span) ps t) (piece_at (λ p. p.span) qs t)) ≡ or_else (cond b (Some p) (piece_at (λ p. p.span) ps t)) (piece_at (λ p. p.span) qs t)
      by true = refl
      by false = refl

  row_at : (x : X) (w : List Y) (t : Ratio) → (b : Bool) → has (span x) t ≡ b → piece_at (λ p. p.span) (row span span' x w) t ≡ cond b (option_map (λ y. piece span span' x y) (piece_at span' w t)) None
  row_at x [] t true i = refl
  row_at x [] t false i = refl
  row_at x (y ∷ w) t b i = by (row_at x w t b i) (has_instant (meet_of (span x) (span' y))) (has (span' y) t) refl refl
    where
      m : SpanOf
      m = meet_of (span x) (span' y)

      here : (k : Bool) → has (span' y) t ≡ k → has m t ≡ (b && k)
      here k j = meet_has (span x) (span' y) t ∙ (rw (i, j) refl)

      pick : (b k : Bool) (o : Option (PieceOf X Y)) → o ≡ cond b (option_map (λ y. piece span span' x y) (piece_at span' w t)) None → cond (b && k) (Some (piece span span' x y)) o ≡ cond b (option_map (λ y. piece span span' x y) (cond k (Some y) (piece_at span' w t))) None
      pick true true o e = refl
      pick true false o e = e
      pick false k o e = e

      by : piece_at (λ p. p.span) (row span span' x w) t ≡ cond b (option_map (λ y. piece span span' x y) (piece_at span' w t)) None → (s k : Bool) → has_instant m ≡ s → has (span' y) t ≡ k → piece_at (λ p. p.span) (map (λ z. piece span span' x z) (cond s (y ∷ filter (λ z. has_instant (meet_of (span x) (span' z))) w) (filter (λ z. has_instant (meet_of (span x) (span' z))) w))) t ≡ cond b (option_map (λ y. piece span span' x y) (cond k (Some y) (piece_at span' w t))) None
      by ih true k e j = rw (here k j) (pick b k (piece_at (λ p. p.span) (row span span' x w) t) ih)
      by ih false k e j =
          let no : (b && k) ≡ false = sym (here k j) ∙ no_instant m t e in
          let q : cond (b && k) (Some (piece span span' x y)) (piece_at (λ p. p.span) (row span span' x w) t) ≡ piece_at (λ p. p.span) (row span span' x w) t = rw no refl in
          sym q ∙ pick b k (piece_at (λ p. p.span) (row span span' x w) t) ih

  -- At each instant, the piece there has the entries that the lists have there. If one of them has
  -- none, there is no piece.
  pub meets_at : (v : List X) (w : List Y) (t : Ratio) → option_map sides (piece_at (λ p. p.span) (shared_pieces span span' v w) t) ≡ option_zip (piece_at span v t) (piece_at span' w t)
  meets_at [] w t = refl
  meets_at (x ∷ v) w t = ap (option_map sides) (part_joined (row span span' x w) (shared_pieces span span' v w) t ∙ ap (λ o. or_else o (piece_at (λ p. p.span) (shared_pieces span span' v w) t)) (row_at x w t (has (span x) t) refl)) ∙ by (has (span x) t) (piece_at span' w t) (meets_at v w t)
    where
      rest : Option (PieceOf X Y)
      rest = piece_at (λ p. p.span) (shared_pieces span span' v w) t

      by : (b : Bool) (o : Option Y) → option_map sides rest ≡ option_zip (piece_at span v t) o → option_map sides (or_else (cond b (option_map (λ y. piece span span' x y) o) None) rest) ≡ option_zip (cond b (Some x) (piece_at span v t)) o
      by true None h = h ∙ zip-none (piece_at span v t)
      by true (Some y) h = refl
      by false o h = h

  -- so the pieces of two ordered lists are the common ones
  pub shared_common : SharedAreCommon span span'
  shared_common v w h k = record { clear = meets_clear v w h k; at_each = λ t. meets_at v w t }

  module _ (P : X → Type 0) (Q : Y → Type 0) where
    -- a property of each entry holds for the two of each piece, whose spans contain the piece
    abbrev pub HoldsBoth : PieceOf X Y → Type 0
    HoldsBoth p = (P p.left × (is_inside (span p.left) p.span ≡ true)) × (Q p.right × (is_inside (span' p.right) p.span ≡ true))

    row_hold : (x : X) (w : List Y) → P x → AllByRecursion Q w → AllByRecursion HoldsBoth (row span span' x w)
    row_hold x [] h k = tt
    row_hold x (y ∷ w) h k = by (row_hold x w h k.1) (has_instant (meet_of (span x) (span' y)))
      where
        by : AllByRecursion HoldsBoth (row span span' x w) → (b : Bool) → AllByRecursion HoldsBoth (map (λ z. piece span span' x z) (cond b (y ∷ filter (λ z. has_instant (meet_of (span x) (span' z))) w) (filter (λ z. has_instant (meet_of (span x) (span' z))) w)))
        by ih true = (((h, meet_left (span x) (span' y)), (k.0, meet_right (span x) (span' y))), ih)
        by ih false = ih

    pub meets_hold : (v : List X) (w : List Y) → AllByRecursion P v → AllByRecursion Q w → AllByRecursion HoldsBoth (shared_pieces span span' v w)
    meets_hold [] w h k = tt
    meets_hold (x ∷ v) w h k = each_both HoldsBoth (row span span' x w) (shared_pieces span span' v w) (row_hold x w h.0 k) (meets_hold v w h.1 k)
