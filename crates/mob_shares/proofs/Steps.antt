-- One step of the walk over all instants of two lists.
use Rattle.std.specs.Prelude.{◌≡◌, ◌⊎◌, Bool, true, false, cond, refl, ◌||◌, ◌&&◌, not, List, [], ◌∷◌, ◌++◌, Option, Some, None, ◌+◌, ◌<◌, ◌≤◌, length}
use Rattle.std.{proofs.Common.{ap, sym, ◌∙◌, subst, arith, true≢false, inl, inr}, proofs.lemmas.Bool.{and_parts}}
use Rattle.mob_ratio.{specs.Ratio.{Ratio}, specs.Order.{before, up_to}}
use Rattle.mob_span.{specs.Span.{SpanOf, has, has_instant}, specs.Meet.{meet_of, ends_before}, specs.Neighbours.{is_clear}, specs.Pieces.{PiecesAreClear}}
use Rattle.mob_span.{specs.Remainders.{precedes, follows, front_of, back_of}, proofs.SpanLemmas.{none_has, meet_has}, proofs.Insides.{clear_trans, clear_inside, inside_clear, meet_left, meet_right}}
use Rattle.mob_span.{proofs.Shared.{AreAllClear, all_after, later}, proofs.Leaving.{front_has, back_has}}
use Rattle.mob_shares.{specs.Cuts.{CutOf, left_after, entry_at, shared_cuts}, specs.Sharing.{ShareOf, next_share, behind_piece, both_of, fronts, most_shares}}
use Rattle.mob_shares.proofs.Spans.{not_precedes, not_follows, front_clear, begins_left, begins_right, share_some, back_start, none_self, none_clear, inside_by}
use Rattle.mob_shares.{proofs.Rows.{shared_left, shared_right, shared_both}, proofs.Sides.{cut_span, side_gone, side_here, none_here, side_clear, side_behind, side_after, side_length}}

-- the part of the first before the other list's first is before all of the other list
front_all : (s : SpanOf) {Z : Type 0} (d : CutOf Z) (ds : List (CutOf Z)) → PiecesAreClear cut_span (d ∷ ds) → AreAllClear cut_span (front_of s d.span) (d ∷ ds)
front_all s d ds k = (front_clear s d.span, later cut_span d.span (front_of s d.span) ds (λ q l. clear_trans (front_of s d.span) d.span q k.0 (front_clear s d.span) l) (all_after cut_span d ds k))

-- One step removes a piece from the front of two lists.
pub record IsStep {X Y : Type 0} (v : List (CutOf X)) (w : List (CutOf Y)) (p : ShareOf X Y) (v' : List (CutOf X)) (w' : List (CutOf Y)) : Type 0 where
  pub some : has_instant p.span ≡ true
  -- at its instants it has the items of the lists, and at all others they keep theirs
  pub here : (t : Ratio) → has p.span t ≡ true → (entry_at v t ≡ p.left) × (entry_at w t ≡ p.right)
  pub gone : (t : Ratio) → has p.span t ≡ false → (entry_at v' t ≡ entry_at v t) × (entry_at w' t ≡ entry_at w t)
  -- the shared pieces are this one, if both have an item in it, and then those of the rests
  pub shared : shared_cuts v w ≡ both_of p ++ shared_cuts v' w'
  -- the rests are in order and come after it
  pub clear : PiecesAreClear cut_span v' × PiecesAreClear cut_span w'
  pub next : AreAllClear cut_span p.span v' × AreAllClear cut_span p.span w'
  pub after : (q : SpanOf) → AreAllClear cut_span q v → AreAllClear cut_span q w → (is_clear q p.span ≡ true) × AreAllClear cut_span q v' × AreAllClear cut_span q w'

module _ {X Y : Type 0} where
  left_step : (c : CutOf X) (cs : List (CutOf X)) (w : List (CutOf Y)) (p : SpanOf) → PiecesAreClear cut_span (c ∷ cs) → PiecesAreClear cut_span w → has_instant p ≡ true → ((t : Ratio) → has p t ≡ true → has c.span t ≡ true) → AreAllClear cut_span p w → ((t : Ratio) → has c.span t ≡ true → precedes t p ≡ false)
      → IsStep (c ∷ cs) w (record { span = p; left = Some c.of; right = None }) (left_after p (c ∷ cs)) w
  left_step c cs w p h k i f l b =
      let j = inside_by c.span p i f in
      record {
        some = i;
        here = λ t m. (side_here c cs t (f t m), none_here p w t l m);
        gone = λ t m. (side_gone c cs p t (b t) m, refl);
        shared = shared_left c cs w p l;
        clear = (side_clear c cs p h, k);
        next = (side_behind c cs p h j, l);
        after = λ q m n. (clear_inside q c.span p m.0 j, side_after q c cs p m, n);
      }

  right_step : (v : List (CutOf X)) (d : CutOf Y) (ds : List (CutOf Y)) (p : SpanOf) → PiecesAreClear cut_span v → PiecesAreClear cut_span (d ∷ ds) → has_instant p ≡ true → ((t : Ratio) → has p t ≡ true → has d.span t ≡ true) → AreAllClear cut_span p v → ((t : Ratio) → has d.span t ≡ true → precedes t p ≡ false)
      → IsStep v (d ∷ ds) (record { span = p; left = None; right = Some d.of }) v (left_after p (d ∷ ds))
  right_step v d ds p h k i f l b =
      let j = inside_by d.span p i f in
      record {
        some = i;
        here = λ t m. (none_here p v t l m, side_here d ds t (f t m));
        gone = λ t m. (refl, side_gone d ds p t (b t) m);
        shared = shared_right v d ds p l;
        clear = (h, side_clear d ds p k);
        next = (l, side_behind d ds p k j);
        after = λ q m n. (clear_inside q d.span p n.0 j, m, side_after q d ds p n);
      }

  both_step : (c : CutOf X) (cs : List (CutOf X)) (d : CutOf Y) (ds : List (CutOf Y)) → PiecesAreClear cut_span (c ∷ cs) → PiecesAreClear cut_span (d ∷ ds) → has_instant (front_of c.span d.span) ≡ false → has_instant (front_of d.span c.span) ≡ false
      → IsStep (c ∷ cs) (d ∷ ds) (record { span = meet_of c.span d.span; left = Some c.of; right = Some d.of }) (left_after (meet_of c.span d.span) (c ∷ cs)) (left_after (meet_of c.span d.span) (d ∷ ds))
  both_step c cs d ds h k m n =
      let p = meet_of c.span d.span in
      let i = share_some c.span d.span h.0 k.0 m n in
      let f : (t : Ratio) → has p t ≡ true → (has c.span t ≡ true) × (has d.span t ≡ true) = λ t z. and_parts (has c.span t) (has d.span t) (sym (meet_has c.span d.span t) ∙ z) in
      record {
        some = i;
        here = λ t z. (side_here c cs t (f t z).0, side_here d ds t (f t z).1);
        gone = λ t z. (side_gone c cs p t (begins_left c.span d.span m t) z, side_gone d ds p t (begins_right c.span d.span n t) z);
        shared = shared_both c cs d ds i (later cut_span c.span p cs (λ s l. inside_clear c.span s p (meet_left c.span d.span) l) (all_after cut_span c cs h)) (later cut_span d.span p ds (λ s l. inside_clear d.span s p (meet_right c.span d.span) l) (all_after cut_span d ds k));
        clear = (side_clear c cs p h, side_clear d ds p k);
        next = (side_behind c cs p h (meet_left c.span d.span), side_behind d ds p k (meet_right c.span d.span));
        after = λ q y z. (clear_inside q c.span p y.0 (meet_left c.span d.span), side_after q c cs p y, side_after q d ds p z);
      }

  same_step : (v : List (CutOf X)) (w : List (CutOf Y)) (p q : ShareOf X Y) → Some q ≡ Some p → IsStep v w q (behind_piece q.span q.left v) (behind_piece q.span q.right w) → IsStep v w p (behind_piece p.span p.left v) (behind_piece p.span p.right w)
  same_step v w p q e h = subst (λ z. IsStep v w z (behind_piece z.span z.left v) (behind_piece z.span z.right w)) (some_one q p e) h
    where
      some_one : (x y : ShareOf X Y) → Some x ≡ Some y → x ≡ y
      some_one x y e = cc

  no_share : {R : Type 0} (p : ShareOf X Y) → None ≡ Some p → R
  no_share p e = cc

  -- The next piece is removed from the front.
  pub next_step : (v : List (CutOf X)) (w : List (CutOf Y)) → PiecesAreClear cut_span v → PiecesAreClear cut_span w → (p : ShareOf X Y) → next_share v w ≡ Some p → IsStep v w p (behind_piece p.span p.left v) (behind_piece p.span p.right w)
  next_step [] [] h k p e = no_share p e
  next_step (c ∷ cs) [] h k p e = same_step (c ∷ cs) [] p (record { span = c.span; left = Some c.of; right = None }) e (left_step c cs [] c.span h k h.0 (λ t z. z) tt (not_precedes c.span))
  next_step [] (d ∷ ds) h k p e = same_step [] (d ∷ ds) p (record { span = d.span; left = None; right = Some d.of }) e (right_step [] d ds d.span h k k.0 (λ t z. z) tt (not_precedes d.span))
  next_step (c ∷ cs) (d ∷ ds) h k p e = by (has_instant (front_of c.span d.span)) (has_instant (front_of d.span c.span)) refl refl e
    where
      left : SpanOf
      left = front_of c.span d.span

      right : SpanOf
      right = front_of d.span c.span

      by : (a b : Bool) → has_instant (front_of c.span d.span) ≡ a → has_instant (front_of d.span c.span) ≡ b
          → cond a (Some (record { span = front_of c.span d.span; left = Some c.of; right = None })) (cond b (Some (record { span = front_of d.span c.span; left = None; right = Some d.of })) (Some (record { span = meet_of c.span d.span; left = Some c.of; right = Some d.of }))) ≡ Some p
          → IsStep (c ∷ cs) (d ∷ ds) p (behind_piece p.span p.left (c ∷ cs)) (behind_piece p.span p.right (d ∷ ds))
      by true b i j z = same_step (c ∷ cs) (d ∷ ds) p (record { span = left; left = Some c.of; right = None }) z (left_step c cs (d ∷ ds) left h k i (λ t y. (and_parts (has c.span t) (precedes t d.span) (sym (front_has c.span d.span t) ∙ y)).0) (front_all c.span d ds k) (λ t y. not_precedes c.span t y))
      by false true i j z = same_step (c ∷ cs) (d ∷ ds) p (record { span = right; left = None; right = Some d.of }) z (right_step (c ∷ cs) d ds right h k j (λ t y. (and_parts (has d.span t) (precedes t c.span) (sym (front_has d.span c.span t) ∙ y)).0) (front_all d.span c cs h) (λ t y. not_precedes d.span t y))
      by false false i j z = same_step (c ∷ cs) (d ∷ ds) p (record { span = meet_of c.span d.span; left = Some c.of; right = Some d.of }) z (both_step c cs d ds h k i j)

  -- if no piece comes next, nothing is left
  pub none_next : (v : List (CutOf X)) (w : List (CutOf Y)) → next_share v w ≡ None → (v ≡ []) × (w ≡ [])
  none_next [] [] e = (refl, refl)
  none_next (c ∷ cs) [] e = no_share (record { span = c.span; left = Some c.of; right = None }) (sym e)
  none_next [] (d ∷ ds) e = no_share (record { span = d.span; left = None; right = Some d.of }) (sym e)
  none_next (c ∷ cs) (d ∷ ds) e = by (has_instant (front_of c.span d.span)) (has_instant (front_of d.span c.span)) e
    where
      by : (a b : Bool) → cond {A = Option (ShareOf X Y)} a (Some (record { span = front_of c.span d.span; left = Some c.of; right = None })) (cond {A = Option (ShareOf X Y)} b (Some (record { span = front_of d.span c.span; left = None; right = Some d.of })) (Some (record { span = meet_of c.span d.span; left = Some c.of; right = Some d.of }))) ≡ None → ((c ∷ cs) ≡ []) × ((d ∷ ds) ≡ [])
      by true b z = no_share (record { span = front_of c.span d.span; left = Some c.of; right = None }) (sym z)
      by false true z = no_share (record { span = front_of d.span c.span; left = None; right = Some d.of }) (sym z)
      by false false z = no_share (record { span = meet_of c.span d.span; left = Some c.of; right = Some d.of }) (sym z)

-- the number of pieces that may still come
half_front : (s r : SpanOf) → has_instant (front_of s r) ≡ true → has_instant (back_of s (front_of s r)) ≡ true → (has_instant (front_of (back_of s (front_of s r)) r) ≡ false) × (has_instant (front_of r (back_of s (front_of s r))) ≡ false)
half_front s r i j = (none_has (front_of (back_of s (front_of s r)) r) first, none_has (front_of r (back_of s (front_of s r))) second)
  where
    not_whole : is_clear s r ≡ false
    not_whole = by (is_clear s r) refl
      where
        by : (b : Bool) → is_clear s r ≡ b → is_clear s r ≡ false
        by true e = absurd (true≢false (sym j ∙ none_clear s r e))
        by false e = e

    first : (t : Ratio) → has (front_of (back_of s (front_of s r)) r) t ≡ false
    first t = front_has (back_of s (front_of s r)) r t ∙ ap (λ b. b && precedes t r) (back_has s (front_of s r) t) ∙ by (has s t) (follows t (front_of s r)) (precedes t r) (λ e. not_follows (front_of s r) t (front_has s r t ∙ e))
      where
        by : (a f p : Bool) → ((a && p) ≡ true → f ≡ false) → ((a && f) && p) ≡ false
        by true f true h = ap (λ b. b && true) (h refl)
        by true true false h = refl
        by true false false h = refl
        by false f p h = refl

    second : (t : Ratio) → has (front_of r (back_of s (front_of s r))) t ≡ false
    second t =
        let e = back_start s r not_whole i in
        front_has r (back_of s (front_of s r)) t
        ∙ ap (λ z. has r t && (before t z || (not (back_of s (front_of s r)).lower_inc && up_to t z))) e.0
        ∙ ap (λ b. has r t && (before t r.lower || (not b && up_to t r.lower))) e.1
        ∙ by (has r t) (before t r.lower) (up_to t r.lower) r.lower_inc (not_precedes r t)
      where
        by : (a x y i : Bool) → (a ≡ true → (x || (not i && y)) ≡ false) → (a && (x || (not (not (not i)) && y))) ≡ false
        by true x y true h = h refl
        by true x y false h = h refl
        by false x y i h = refl

-- after their intersection, one of the two has nothing left
one_ends : (s r : SpanOf) → (has_instant (back_of s (meet_of s r)) ≡ false) ⊎ (has_instant (back_of r (meet_of s r)) ≡ false)
one_ends s r = by (ends_before s r) refl
  where
    none : (a f : Bool) → (a ≡ true → f ≡ false) → (a && f) ≡ false
    none true f h = h refl
    none false f h = refl

    by : (b : Bool) → ends_before s r ≡ b → (has_instant (back_of s (meet_of s r)) ≡ false) ⊎ (has_instant (back_of r (meet_of s r)) ≡ false)
    by true e = inl (none_has (back_of s (meet_of s r)) (λ t. back_has s (meet_of s r) t ∙ none (has s t) (follows t (meet_of s r)) (λ h. ap (λ b. before (cond b s.upper r.upper) t || (not (cond b s.upper_inc r.upper_inc) && up_to (cond b s.upper r.upper) t)) e ∙ not_follows s t h)))
    by false e = inr (none_has (back_of r (meet_of s r)) (λ t. back_has r (meet_of s r) t ∙ none (has r t) (follows t (meet_of s r)) (λ h. ap (λ b. before (cond b s.upper r.upper) t || (not (cond b s.upper_inc r.upper_inc) && up_to (cond b s.upper r.upper) t)) e ∙ not_follows r t h)))

cond_most : (b : Bool) → cond b 1 0 ≤ 1
cond_most true = omega arith
cond_most false = omega arith

fronts_most : {X Y : Type 0} (v : List (CutOf X)) (w : List (CutOf Y)) → fronts v w ≤ 2
fronts_most [] w = omega arith
fronts_most (c ∷ cs) [] = omega arith
fronts_most (c ∷ cs) (d ∷ ds) = let a = cond_most (has_instant (front_of c.span d.span)) in let b = cond_most (has_instant (front_of d.span c.span)) in omega (arith, a, b)

most_length : {X : Type 0} (c : CutOf X) (cs : List (CutOf X)) (p : SpanOf) → length (left_after p (c ∷ cs)) ≤ length (c ∷ cs)
most_length c cs p = by (has_instant (back_of c.span p))
  where
    by : (b : Bool) → length (cond b (record { span = back_of c.span p; of = c.of } ∷ cs) cs) ≤ length (c ∷ cs)
    by true = omega arith
    by false = omega arith

module _ {X Y : Type 0} where
  fewer_by : (v v' : List (CutOf X)) (w w' : List (CutOf Y)) → (length v' + length w') + 1 ≤ length v + length w → most_shares v' w' < most_shares v w
  fewer_by v v' w w' h = let a = fronts_most v' w' in omega (arith, a, h)

  left_fewer : (c : CutOf X) (cs : List (CutOf X)) (w : List (CutOf Y)) (p : SpanOf) → has_instant (back_of c.span p) ≡ false → most_shares (left_after p (c ∷ cs)) w < most_shares (c ∷ cs) w
  left_fewer c cs w p h = subst (λ z. most_shares z w < most_shares (c ∷ cs) w) (sym (side_length c cs p h)) (fewer_by (c ∷ cs) cs w w (omega arith))

  right_fewer : (v : List (CutOf X)) (d : CutOf Y) (ds : List (CutOf Y)) (p : SpanOf) → has_instant (back_of d.span p) ≡ false → most_shares v (left_after p (d ∷ ds)) < most_shares v (d ∷ ds)
  right_fewer v d ds p h = subst (λ z. most_shares v z < most_shares v (d ∷ ds)) (sym (side_length d ds p h)) (fewer_by v v (d ∷ ds) ds (omega arith))

  left_front : (c : CutOf X) (cs : List (CutOf X)) (d : CutOf Y) (ds : List (CutOf Y)) → has_instant (front_of c.span d.span) ≡ true → most_shares (left_after (front_of c.span d.span) (c ∷ cs)) (d ∷ ds) < most_shares (c ∷ cs) (d ∷ ds)
  left_front c cs d ds i = by (has_instant (back_of c.span (front_of c.span d.span))) refl
    where
      by : (b : Bool) → has_instant (back_of c.span (front_of c.span d.span)) ≡ b → most_shares (left_after (front_of c.span d.span) (c ∷ cs)) (d ∷ ds) < most_shares (c ∷ cs) (d ∷ ds)
      by false j = left_fewer c cs (d ∷ ds) (front_of c.span d.span) j
      by true j =
          let n = half_front c.span d.span i j in
          let c' : CutOf X = record { span = back_of c.span (front_of c.span d.span); of = c.of } in
          let none : fronts (c' ∷ cs) (d ∷ ds) ≡ 0 = ap (λ b. cond b 1 0 + cond (has_instant (front_of d.span c'.span)) 1 0) n.0 ∙ ap (λ b. 0 + cond b 1 0) n.1 in
          let one : fronts (c ∷ cs) (d ∷ ds) ≡ 1 + cond (has_instant (front_of d.span c.span)) 1 0 = ap (λ b. cond b 1 0 + cond (has_instant (front_of d.span c.span)) 1 0) i in
          subst (λ z. most_shares z (d ∷ ds) < most_shares (c ∷ cs) (d ∷ ds)) (sym (ap (λ b. cond b (c' ∷ cs) cs) j)) (omega (arith, none, one))

  right_front : (c : CutOf X) (cs : List (CutOf X)) (d : CutOf Y) (ds : List (CutOf Y)) → has_instant (front_of d.span c.span) ≡ true → most_shares (c ∷ cs) (left_after (front_of d.span c.span) (d ∷ ds)) < most_shares (c ∷ cs) (d ∷ ds)
  right_front c cs d ds i = by (has_instant (back_of d.span (front_of d.span c.span))) refl
    where
      by : (b : Bool) → has_instant (back_of d.span (front_of d.span c.span)) ≡ b → most_shares (c ∷ cs) (left_after (front_of d.span c.span) (d ∷ ds)) < most_shares (c ∷ cs) (d ∷ ds)
      by false j = right_fewer (c ∷ cs) d ds (front_of d.span c.span) j
      by true j =
          let n = half_front d.span c.span i j in
          let d' : CutOf Y = record { span = back_of d.span (front_of d.span c.span); of = d.of } in
          let none : fronts (c ∷ cs) (d' ∷ ds) ≡ 0 = ap (λ b. cond (has_instant (front_of c.span d'.span)) 1 0 + cond b 1 0) n.0 ∙ ap (λ b. cond b 1 0 + 0) n.1 in
          let one : fronts (c ∷ cs) (d ∷ ds) ≡ cond (has_instant (front_of c.span d.span)) 1 0 + 1 = ap (λ b. cond (has_instant (front_of c.span d.span)) 1 0 + cond b 1 0) i in
          subst (λ z. most_shares (c ∷ cs) z < most_shares (c ∷ cs) (d ∷ ds)) (sym (ap (λ b. cond b (d' ∷ ds) ds) j)) (omega (arith, none, one))

  both_fewer : (c : CutOf X) (cs : List (CutOf X)) (d : CutOf Y) (ds : List (CutOf Y)) → most_shares (left_after (meet_of c.span d.span) (c ∷ cs)) (left_after (meet_of c.span d.span) (d ∷ ds)) < most_shares (c ∷ cs) (d ∷ ds)
  both_fewer c cs d ds = by (one_ends c.span d.span)
    where
      by : (has_instant (back_of c.span (meet_of c.span d.span)) ≡ false) ⊎ (has_instant (back_of d.span (meet_of c.span d.span)) ≡ false) → most_shares (left_after (meet_of c.span d.span) (c ∷ cs)) (left_after (meet_of c.span d.span) (d ∷ ds)) < most_shares (c ∷ cs) (d ∷ ds)
      by (inl e) = subst (λ z. most_shares z (left_after (meet_of c.span d.span) (d ∷ ds)) < most_shares (c ∷ cs) (d ∷ ds)) (sym (side_length c cs (meet_of c.span d.span) e)) (fewer_by (c ∷ cs) cs (d ∷ ds) (left_after (meet_of c.span d.span) (d ∷ ds)) (let m = most_length d ds (meet_of c.span d.span) in omega (arith, m)))
      by (inr e) = subst (λ z. most_shares (left_after (meet_of c.span d.span) (c ∷ cs)) z < most_shares (c ∷ cs) (d ∷ ds)) (sym (side_length d ds (meet_of c.span d.span) e)) (fewer_by (c ∷ cs) (left_after (meet_of c.span d.span) (c ∷ cs)) (d ∷ ds) ds (let m = most_length c cs (meet_of c.span d.span) in omega (arith, m)))

  same_fewer : (v : List (CutOf X)) (w : List (CutOf Y)) (p q : ShareOf X Y) → Some q ≡ Some p → most_shares (behind_piece q.span q.left v) (behind_piece q.span q.right w) < most_shares v w → most_shares (behind_piece p.span p.left v) (behind_piece p.span p.right w) < most_shares v w
  same_fewer v w p q e h = subst (λ z. most_shares (behind_piece z.span z.left v) (behind_piece z.span z.right w) < most_shares v w) (some_one q p e) h
    where
      some_one : (x y : ShareOf X Y) → Some x ≡ Some y → x ≡ y
      some_one x y e = cc

  -- Fewer pieces are left.
  pub next_fewer : (v : List (CutOf X)) (w : List (CutOf Y)) (p : ShareOf X Y) → next_share v w ≡ Some p → most_shares (behind_piece p.span p.left v) (behind_piece p.span p.right w) < most_shares v w
  next_fewer [] [] p e = no_share p e
  next_fewer (c ∷ cs) [] p e = same_fewer (c ∷ cs) [] p (record { span = c.span; left = Some c.of; right = None }) e (left_fewer c cs [] c.span (none_self c.span))
  next_fewer [] (d ∷ ds) p e = same_fewer [] (d ∷ ds) p (record { span = d.span; left = None; right = Some d.of }) e (right_fewer [] d ds d.span (none_self d.span))
  next_fewer (c ∷ cs) (d ∷ ds) p e = by (has_instant (front_of c.span d.span)) (has_instant (front_of d.span c.span)) refl refl e
    where
      by : (a b : Bool) → has_instant (front_of c.span d.span) ≡ a → has_instant (front_of d.span c.span) ≡ b
          → cond {A = Option (ShareOf X Y)} a (Some (record { span = front_of c.span d.span; left = Some c.of; right = None })) (cond {A = Option (ShareOf X Y)} b (Some (record { span = front_of d.span c.span; left = None; right = Some d.of })) (Some (record { span = meet_of c.span d.span; left = Some c.of; right = Some d.of }))) ≡ Some p
          → most_shares (behind_piece p.span p.left (c ∷ cs)) (behind_piece p.span p.right (d ∷ ds)) < most_shares (c ∷ cs) (d ∷ ds)
      by true b i j z = same_fewer (c ∷ cs) (d ∷ ds) p (record { span = front_of c.span d.span; left = Some c.of; right = None }) z (left_front c cs d ds i)
      by false true i j z = same_fewer (c ∷ cs) (d ∷ ds) p (record { span = front_of d.span c.span; left = None; right = Some d.of }) z (right_front c cs d ds j)
      by false false i j z = same_fewer (c ∷ cs) (d ∷ ds) p (record { span = meet_of c.span d.span; left = Some c.of; right = Some d.of }) z (both_fewer c cs d ds)
