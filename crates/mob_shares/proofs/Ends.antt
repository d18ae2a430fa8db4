-- The ends of the pieces of the walk: each is an end of an item, or the start of the next shared
-- piece.
use Rattle.std.{specs.Prelude.{◌≡◌, ◌⊎◌, Bool, true, false, cond, refl, ◌||◌, ◌&&◌, not, List, [], ◌∷◌, ◌++◌, Option, Some, None}, specs.List.{AllByRecursion}}
use Rattle.std.{proofs.Common.{ap, sym, ◌∙◌, subst, arith, true≢false, inl, inr}, proofs.lemmas.Bool.{and_right}, proofs.lemmas.Option.{same_Some}}
use Rattle.mob_ratio.{specs.Ratio.{Ratio}, specs.Order.{before, up_to}}
use Rattle.mob_span.{specs.Span.{SpanOf, has, has_instant}, specs.Meet.{meet_of, starts_before, ends_before}, specs.Meets.{PieceOf}, specs.Neighbours.{is_clear}}
use Rattle.mob_span.{specs.Pieces.{PiecesAreClear, piece_at}, specs.Remainders.{front_of}, proofs.SpanLemmas.{meet_has}, proofs.Sets.{starts_one_way}}
use Rattle.mob_shares.{specs.Cuts.{CutOf, entry_at, row_pieces, shared_cuts}, specs.Sharing.{ShareOf, next_share}, proofs.Spans.{front_whole}}

-- s starts before r but is not all before it: they share an instant, the first one at the start of
-- r
starts_front : (s r : SpanOf) → is_clear s r ≡ false → has_instant (front_of s r) ≡ true → starts_before s r ≡ true
starts_front s r n h = by (is_clear s r) n h
  where
    by : (b : Bool) → b ≡ false → (before s.lower (cond b s.upper r.lower) || (s.lower_inc && cond b s.upper_inc (not r.lower_inc) && up_to s.lower (cond b s.upper r.lower))) ≡ true → starts_before s r ≡ true
    by true e k = absurd (true≢false e)
    by false e k = grind (arith, k)

overlap : (s r : SpanOf) → is_clear s r ≡ false → has_instant r ≡ true → starts_before s r ≡ true → has_instant (meet_of s r) ≡ true
overlap s r n k h = by (starts_before s r) (ends_before s r) h
  where
    by : (a b : Bool) → a ≡ true → (before (cond a r.lower s.lower) (cond b s.upper r.upper) || (cond a r.lower_inc s.lower_inc && cond b s.upper_inc r.upper_inc && up_to (cond a r.lower s.lower) (cond b s.upper r.upper))) ≡ true
    by true true e = grind (arith, n)
    by true false e = k
    by false b e = absurd (true≢false (sym e))

overlap' : (s r : SpanOf) → is_clear r s ≡ false → has_instant s ≡ true → starts_before r s ≡ true → starts_before s r ≡ false → has_instant (meet_of s r) ≡ true
overlap' s r n k h i = by (starts_before s r) (ends_before s r) i
  where
    by : (a b : Bool) → a ≡ false → (before (cond a r.lower s.lower) (cond b s.upper r.upper) || (cond a r.lower_inc s.lower_inc && cond b s.upper_inc r.upper_inc && up_to (cond a r.lower s.lower) (cond b s.upper r.upper))) ≡ true
    by true b e = absurd (true≢false e)
    by false true e = k
    by false false e = grind (arith, n)

some_none : {A R : Type 0} (x : A) → Some x ≡ None → R
some_none x e = cc

all_none : {X : Type 0} (v : List (CutOf X)) (t : Ratio) → entry_at v t ≡ None → AllByRecursion (λ c. has c.span t ≡ false) v
all_none [] t e = tt
all_none (c ∷ cs) t e = by (has c.span t) refl e (λ h. all_none cs t h)
  where
    by : (b : Bool) → has c.span t ≡ b → cond b (Some c.of) (entry_at cs t) ≡ None → (entry_at cs t ≡ None → AllByRecursion (λ c. has c.span t ≡ false) cs) → AllByRecursion (λ c. has c.span t ≡ false) (c ∷ cs)
    by true h z f = some_none c.of z
    by false h z f = (h, f z)

module _ {X Y : Type 0} where
  abbrev the_left : SpanOf → X → Option (ShareOf X Y)
  the_left s x = Some (record { span = s; left = Some x; right = None })

  abbrev the_right : SpanOf → Y → Option (ShareOf X Y)
  the_right s y = Some (record { span = s; left = None; right = Some y })

  abbrev the_both : SpanOf → X → Y → Option (ShareOf X Y)
  the_both s x y = Some (record { span = s; left = Some x; right = Some y })

  one_share : (p q : ShareOf X Y) → Some p ≡ Some q → p ≡ q
  one_share p q e = cc

  no_left : {R : Type 0} (s : SpanOf) (x : X) → None ≡ the_left s x → R
  no_left s x e = cc

  no_right : {R : Type 0} (s : SpanOf) (y : Y) → None ≡ the_right s y → R
  no_right s y e = cc

  not_left : {R : Type 0} (r s : SpanOf) (y : Y) (x : X) → the_right r y ≡ the_left s x → R
  not_left r s y x e = some_none x (sym (ap (λ z. z.left) (one_share _ _ e)))

  not_right : {R : Type 0} (r s : SpanOf) (x : X) (y : Y) → the_left r x ≡ the_right s y → R
  not_right r s x y e = some_none y (sym (ap (λ z. z.right) (one_share _ _ e)))

  both_left : {R : Type 0} (r s : SpanOf) (x : X) (y : Y) (z : X) → the_both r x y ≡ the_left s z → R
  both_left r s x y z e = some_none y (ap (λ q. q.right) (one_share _ _ e))

  both_right : {R : Type 0} (r s : SpanOf) (x : X) (y z : Y) → the_both r x y ≡ the_right s z → R
  both_right r s x y z e = some_none x (ap (λ q. q.left) (one_share _ _ e))

  -- the pieces that two lists share begin at the instant u, with x, or with y
  abbrev pub BeginsLeft : X → Ratio → List (PieceOf X Y) → Type 0
  BeginsLeft x u ps = (m : SpanOf) × (y : Y) × (rest : List (PieceOf X Y)) × (ps ≡ record { span = m; left = x; right = y } ∷ rest) × (m.lower ≡ u)

  abbrev pub BeginsRight : Y → Ratio → List (PieceOf X Y) → Type 0
  BeginsRight y u ps = (m : SpanOf) × (x : X) × (rest : List (PieceOf X Y)) × (ps ≡ record { span = m; left = x; right = y } ∷ rest) × (m.lower ≡ u)

  begins : (c : CutOf X) (cs : List (CutOf X)) (d : CutOf Y) (ds : List (CutOf Y)) → has_instant (meet_of c.span d.span) ≡ true → shared_cuts (c ∷ cs) (d ∷ ds) ≡ record { span = meet_of c.span d.span; left = c.of; right = d.of } ∷ (row_pieces c ds ++ shared_cuts cs (d ∷ ds))
  begins c cs d ds h = ap (λ b. cond b (record { span = meet_of c.span d.span; left = c.of; right = d.of } ∷ row_pieces c ds) (row_pieces c ds) ++ shared_cuts cs (d ∷ ds)) h

  module _ (P : X → Ratio → Type 0) where
    abbrev LeftEnds : SpanOf → X → List (PieceOf X Y) → Type 0
    LeftEnds s x ps = P x s.lower × (P x s.upper ⊎ BeginsLeft x s.upper ps)

    left_front_ends : (c : CutOf X) (cs : List (CutOf X)) (d : CutOf Y) (ds : List (CutOf Y)) → has_instant d.span ≡ true → has_instant (front_of c.span d.span) ≡ true → P c.of c.span.lower × P c.of c.span.upper → LeftEnds (front_of c.span d.span) c.of (shared_cuts (c ∷ cs) (d ∷ ds))
    left_front_ends c cs d ds k i h = by (is_clear c.span d.span) refl
      where
        by : (b : Bool) → is_clear c.span d.span ≡ b → LeftEnds (front_of c.span d.span) c.of (shared_cuts (c ∷ cs) (d ∷ ds))
        by true e = (h.0, inl (subst (λ z. P c.of z.upper) (sym (front_whole c.span d.span e)) h.1))
        by false e =
            let j = starts_front c.span d.span e i in
            (h.0, inr (meet_of c.span d.span, d.of, row_pieces c ds ++ shared_cuts cs (d ∷ ds), begins c cs d ds (overlap c.span d.span e k j), ap (λ b. cond b d.span.lower c.span.lower) j ∙ sym (ap (λ b. cond b c.span.upper d.span.lower) e)))

    of_left : (r s : SpanOf) (z x : X) (ps : List (PieceOf X Y)) → the_left r z ≡ the_left s x → LeftEnds r z ps → LeftEnds s x ps
    of_left r s z x ps e h = subst (λ y. LeftEnds s y ps) (same_x e) (subst (λ y. LeftEnds y z ps) (same_s e) h)
      where
        same_s : the_left r z ≡ the_left s x → r ≡ s
        same_s e = ap (λ q. q.span) (one_share _ _ e)

        same_x : the_left r z ≡ the_left s x → z ≡ x
        same_x e = same_Some z x (ap (λ q. q.left) (one_share _ _ e))

  -- a piece of the first list alone begins at the start of an item of it, and ends at the end of
  -- the item or at the start of the next shared piece
  pub left_ends : (P : X → Ratio → Type 0) (v : List (CutOf X)) (w : List (CutOf Y)) → PiecesAreClear (λ d. d.span) w → AllByRecursion (λ c. P c.of c.span.lower × P c.of c.span.upper) v → (s : SpanOf) (x : X) → next_share v w ≡ Some (record { span = s; left = Some x; right = None }) → P x s.lower × (P x s.upper ⊎ BeginsLeft x s.upper (shared_cuts v w))
  left_ends P [] [] k h s x e = no_left s x e
  left_ends P (c ∷ cs) [] k h s x e = of_left P c.span s c.of x (shared_cuts {Y = Y} (c ∷ cs) []) e (h.0.0, inl h.0.1)
  left_ends P [] (d ∷ ds) k h s x e = not_left d.span s d.of x e
  left_ends P (c ∷ cs) (d ∷ ds) k h s x e = by (has_instant (front_of c.span d.span)) (has_instant (front_of d.span c.span)) refl refl e
    where
      by : (a b : Bool) → has_instant (front_of c.span d.span) ≡ a → has_instant (front_of d.span c.span) ≡ b
          → cond {A = Option (ShareOf X Y)} a (the_left (front_of c.span d.span) c.of) (cond {A = Option (ShareOf X Y)} b (the_right (front_of d.span c.span) d.of) (the_both (meet_of c.span d.span) c.of d.of)) ≡ the_left s x
          → P x s.lower × (P x s.upper ⊎ BeginsLeft x s.upper (shared_cuts (c ∷ cs) (d ∷ ds)))
      by true b i j z = of_left P (front_of c.span d.span) s c.of x (shared_cuts (c ∷ cs) (d ∷ ds)) z (left_front_ends P c cs d ds k.0 i h.0)
      by false true i j z = not_left (front_of d.span c.span) s d.of x z
      by false false i j z = both_left (meet_of c.span d.span) s c.of d.of x z

  module _ (P : Y → Ratio → Type 0) where
    abbrev RightEnds : SpanOf → Y → List (PieceOf X Y) → Type 0
    RightEnds s y ps = P y s.lower × (P y s.upper ⊎ BeginsRight y s.upper ps)

    right_front_ends : (c : CutOf X) (cs : List (CutOf X)) (d : CutOf Y) (ds : List (CutOf Y)) → has_instant c.span ≡ true → has_instant (front_of c.span d.span) ≡ false → has_instant (front_of d.span c.span) ≡ true → P d.of d.span.lower × P d.of d.span.upper → RightEnds (front_of d.span c.span) d.of (shared_cuts (c ∷ cs) (d ∷ ds))
    right_front_ends c cs d ds k n i h = by (is_clear d.span c.span) refl
      where
        by : (b : Bool) → is_clear d.span c.span ≡ b → RightEnds (front_of d.span c.span) d.of (shared_cuts (c ∷ cs) (d ∷ ds))
        by true e = (h.0, inl (subst (λ z. P d.of z.upper) (sym (front_whole d.span c.span e)) h.1))
        by false e =
            let j = starts_front d.span c.span e i in
            let l = starts_one_way d.span c.span j in
            (h.0, inr (meet_of c.span d.span, c.of, row_pieces c ds ++ shared_cuts cs (d ∷ ds), begins c cs d ds (overlap' c.span d.span e k j l), ap (λ b. cond b d.span.lower c.span.lower) l ∙ sym (ap (λ b. cond b d.span.upper c.span.lower) e)))

    of_right : (r s : SpanOf) (z y : Y) (ps : List (PieceOf X Y)) → the_right r z ≡ the_right s y → RightEnds r z ps → RightEnds s y ps
    of_right r s z y ps e h = subst (λ q. RightEnds s q ps) (same_y e) (subst (λ q. RightEnds q z ps) (same_s e) h)
      where
        same_s : the_right r z ≡ the_right s y → r ≡ s
        same_s e = ap (λ q. q.span) (one_share _ _ e)

        same_y : the_right r z ≡ the_right s y → z ≡ y
        same_y e = same_Some z y (ap (λ q. q.right) (one_share _ _ e))

  pub right_ends : (P : Y → Ratio → Type 0) (v : List (CutOf X)) (w : List (CutOf Y)) → PiecesAreClear (λ c. c.span) v → AllByRecursion (λ d. P d.of d.span.lower × P d.of d.span.upper) w → (s : SpanOf) (y : Y) → next_share v w ≡ Some (record { span = s; left = None; right = Some y }) → P y s.lower × (P y s.upper ⊎ BeginsRight y s.upper (shared_cuts v w))
  right_ends P [] [] k h s y e = no_right s y e
  right_ends P (c ∷ cs) [] k h s y e = not_right c.span s c.of y e
  right_ends P [] (d ∷ ds) k h s y e = of_right P d.span s d.of y (shared_cuts {X = X} [] (d ∷ ds)) e (h.0.0, inl h.0.1)
  right_ends P (c ∷ cs) (d ∷ ds) k h s y e = by (has_instant (front_of c.span d.span)) (has_instant (front_of d.span c.span)) refl refl e
    where
      by : (a b : Bool) → has_instant (front_of c.span d.span) ≡ a → has_instant (front_of d.span c.span) ≡ b
          → cond {A = Option (ShareOf X Y)} a (the_left (front_of c.span d.span) c.of) (cond {A = Option (ShareOf X Y)} b (the_right (front_of d.span c.span) d.of) (the_both (meet_of c.span d.span) c.of d.of)) ≡ the_right s y
          → P y s.lower × (P y s.upper ⊎ BeginsRight y s.upper (shared_cuts (c ∷ cs) (d ∷ ds)))
      by true b i j z = not_right (front_of c.span d.span) s c.of y z
      by false true i j z = of_right P (front_of d.span c.span) s d.of y (shared_cuts (c ∷ cs) (d ∷ ds)) z (right_front_ends P c cs d ds k.0 i j h.0)
      by false false i j z = both_right (meet_of c.span d.span) s c.of d.of y z

  part_put : (m : SpanOf) (x : X) (y : Y) (ps : List (PieceOf X Y)) (t : Ratio) → has m t ≡ false → piece_at (λ q. q.span) ps t ≡ None → piece_at (λ q. q.span) (cond (has_instant m) (record { span = m; left = x; right = y } ∷ ps) ps) t ≡ None
  part_put m x y ps t h k = by (has_instant m)
    where
      by : (b : Bool) → piece_at (λ q. q.span) (cond b (record { span = m; left = x; right = y } ∷ ps) ps) t ≡ None
      by true = ap (λ b. cond b (Some (record { span = m; left = x; right = y })) (piece_at (λ q. q.span) ps t)) h ∙ k
      by false = k

  part_both : (ps qs : List (PieceOf X Y)) (t : Ratio) → piece_at (λ q. q.span) ps t ≡ None → piece_at (λ q. q.span) qs t ≡ None → piece_at (λ q. q.span) (ps ++ qs) t ≡ None
  part_both [] qs t h k = k
  part_both (p ∷ ps) qs t h k = by (has p.span t) refl h (λ z. part_both ps qs t z k)
    where
      by : (b : Bool) → has p.span t ≡ b → cond b (Some p) (piece_at (λ q. q.span) ps t) ≡ None → (piece_at (λ q. q.span) ps t ≡ None → piece_at (λ q. q.span) (ps ++ qs) t ≡ None) → cond b (Some p) (piece_at (λ q. q.span) (ps ++ qs) t) ≡ None
      by true i z f = some_none p z
      by false i z f = f z

  none_row : (c : CutOf X) (ds : List (CutOf Y)) (t : Ratio) → has c.span t ≡ false → piece_at (λ q. q.span) (row_pieces c ds) t ≡ None
  none_row c [] t h = refl
  none_row c (d ∷ ds) t h = part_put (meet_of c.span d.span) c.of d.of (row_pieces c ds) t (meet_has c.span d.span t ∙ ap (λ b. b && has d.span t) h) (none_row c ds t h)

  none_row' : (c : CutOf X) (ds : List (CutOf Y)) (t : Ratio) → AllByRecursion (λ d. has d.span t ≡ false) ds → piece_at (λ q. q.span) (row_pieces c ds) t ≡ None
  none_row' c [] t h = refl
  none_row' c (d ∷ ds) t h = part_put (meet_of c.span d.span) c.of d.of (row_pieces c ds) t (meet_has c.span d.span t ∙ ap (λ b. has c.span t && b) h.0 ∙ and_right (has c.span t) false refl) (none_row' c ds t h.1)

  none_left_by : (v : List (CutOf X)) (w : List (CutOf Y)) (t : Ratio) → AllByRecursion (λ c. has c.span t ≡ false) v → piece_at (λ q. q.span) (shared_cuts v w) t ≡ None
  none_left_by [] w t h = refl
  none_left_by (c ∷ cs) w t h = part_both (row_pieces c w) (shared_cuts cs w) t (none_row c w t h.0) (none_left_by cs w t h.1)

  none_right_by : (v : List (CutOf X)) (w : List (CutOf Y)) (t : Ratio) → AllByRecursion (λ d. has d.span t ≡ false) w → piece_at (λ q. q.span) (shared_cuts v w) t ≡ None
  none_right_by [] w t h = refl
  none_right_by (c ∷ cs) w t h = part_both (row_pieces c w) (shared_cuts cs w) t (none_row' c w t h) (none_right_by cs w t h)

  -- at an instant at which one of two lists has no item, no shared piece exists
  pub none_left : (v : List (CutOf X)) (w : List (CutOf Y)) (t : Ratio) → entry_at v t ≡ None → piece_at (λ q. q.span) (shared_cuts v w) t ≡ None
  none_left v w t e = none_left_by v w t (all_none v t e)

module _ {X Y : Type 0} where
  pub none_right : (v : List (CutOf X)) (w : List (CutOf Y)) (t : Ratio) → entry_at w t ≡ None → piece_at (λ q. q.span) (shared_cuts v w) t ≡ None
  none_right v w t e = none_right_by v w t (all_none w t e)
