-- One of two lists of cuts, after a piece.
use Rattle.std.{specs.Prelude.{◌≡◌, Bool, true, false, cond, refl, ◌&&◌, not, List, [], ◌∷◌, Some, None}, specs.List.{AllByRecursion}, proofs.Common.{ap, sym, ◌∙◌, true≢false}}
use Rattle.mob_ratio.specs.Ratio.{Ratio}
use Rattle.mob_span.{specs.Span.{SpanOf, has, has_instant}, specs.Chained.{OfHead}, specs.Neighbours.{is_clear, is_inside}, specs.Pieces.{PiecesAreClear, piece_at}}
use Rattle.mob_span.{specs.Remainders.{precedes, follows, back_of}, proofs.SpanLemmas.{no_instant}, proofs.Insides.{clear_has, inside_clear}, proofs.Shared.{AreAllClear, all_after, later}}
use Rattle.mob_span.proofs.Leaving.{back_has, neither_has, clear_back}
use Rattle.mob_shares.{specs.Cuts.{CutOf, wholes, kept, left_after, entry_at}, proofs.Spans.{clear_behind, inside_by, inside_of}}

module _ {X : Type 0} where
  abbrev pub cut_span : CutOf X → SpanOf
  cut_span c = c.span

  entry_kept : (c : CutOf X) (cs : List (CutOf X)) (t : Ratio) → entry_at (kept c cs) t ≡ entry_at (c ∷ cs) t
  entry_kept c cs t = by (has_instant c.span) refl
    where
      by : (b : Bool) → has_instant c.span ≡ b → entry_at (cond b (c ∷ cs) cs) t ≡ entry_at (c ∷ cs) t
      by true h = refl
      by false h = sym (ap (λ b. cond b (Some c.of) (entry_at cs t)) (no_instant c.span t h))

  -- at an instant outside the piece, the item is unchanged
  pub side_gone : (c : CutOf X) (cs : List (CutOf X)) (p : SpanOf) (t : Ratio) → (has c.span t ≡ true → precedes t p ≡ false) → has p t ≡ false → entry_at (left_after p (c ∷ cs)) t ≡ entry_at (c ∷ cs) t
  side_gone c cs p t begins h =
      entry_kept (record { span = back_of c.span p; of = c.of }) cs t
      ∙ ap (λ b. cond b (Some c.of) (entry_at cs t)) (back_has c.span p t ∙ by (has c.span t) (follows t p) (precedes t p) begins (sym (neither_has p t) ∙ h))
    where
      by : (a f p : Bool) → (a ≡ true → p ≡ false) → (not p && not f) ≡ false → (a && f) ≡ a
      by true true p k e = refl
      by true false true k e = absurd (true≢false (k refl))
      by true false false k e = absurd (true≢false e)
      by false f p k e = refl

  -- at an instant of the piece, it is the first item, or none if all items come after
  pub side_here : (c : CutOf X) (cs : List (CutOf X)) (t : Ratio) → has c.span t ≡ true → entry_at (c ∷ cs) t ≡ Some c.of
  side_here c cs t h = ap (λ b. cond b (Some c.of) (entry_at cs t)) h

  pub none_here : (p : SpanOf) (w : List (CutOf X)) (t : Ratio) → AreAllClear cut_span p w → has p t ≡ true → entry_at w t ≡ None
  none_here p [] t h k = refl
  none_here p (d ∷ w) t h k = ap (λ b. cond b (Some d.of) (entry_at w t)) (clear_has p d.span t h.0 k) ∙ none_here p w t h.1 k

  head_left : (c : CutOf X) (cs : List (CutOf X)) (p : SpanOf) → OfHead (λ c d. is_clear c.span d.span ≡ true) c cs → OfHead (λ c d. is_clear c.span d.span ≡ true) (record { span = back_of c.span p; of = c.of }) cs
  head_left c [] p h = tt
  head_left c (d ∷ cs) p h = h

  -- the rest is in order
  pub side_clear : (c : CutOf X) (cs : List (CutOf X)) (p : SpanOf) → PiecesAreClear cut_span (c ∷ cs) → PiecesAreClear cut_span (left_after p (c ∷ cs))
  side_clear c cs p h = by (has_instant (back_of c.span p)) refl
    where
      by : (b : Bool) → has_instant (back_of c.span p) ≡ b → PiecesAreClear cut_span (cond b (record { span = back_of c.span p; of = c.of } ∷ cs) cs)
      by true e = (e, head_left c cs p h.1, h.2)
      by false e = h.2

  -- and comes after the piece
  pub side_behind : (c : CutOf X) (cs : List (CutOf X)) (p : SpanOf) → PiecesAreClear cut_span (c ∷ cs) → is_inside c.span p ≡ true → AreAllClear cut_span p (left_after p (c ∷ cs))
  side_behind c cs p h k = by (has_instant (back_of c.span p)) (later cut_span c.span p cs (λ s l. inside_clear c.span s p k l) (all_after cut_span c cs h))
    where
      by : (b : Bool) → AreAllClear cut_span p cs → AreAllClear cut_span p (cond b (record { span = back_of c.span p; of = c.of } ∷ cs) cs)
      by true l = (clear_behind c.span p, l)
      by false l = l

  -- and after everything that the whole came after
  pub side_after : (q : SpanOf) (c : CutOf X) (cs : List (CutOf X)) (p : SpanOf) → AreAllClear cut_span q (c ∷ cs) → AreAllClear cut_span q (left_after p (c ∷ cs))
  side_after q c cs p h = by (has_instant (back_of c.span p))
    where
      by : (b : Bool) → AreAllClear cut_span q (cond b (record { span = back_of c.span p; of = c.of } ∷ cs) cs)
      by true = (clear_back q c.span p h.0, h.1)
      by false = h.1

  -- the list is no longer than before, and shorter if nothing is left of the first cut
  pub side_length : (c : CutOf X) (cs : List (CutOf X)) (p : SpanOf) → has_instant (back_of c.span p) ≡ false → left_after p (c ∷ cs) ≡ cs
  side_length c cs p h = ap (λ b. cond b (record { span = back_of c.span p; of = c.of } ∷ cs) cs) h

  -- Cuts that lie in their items: so do the rests of them.
  module _ (span : X → SpanOf) (P : X → Type 0) where
    -- a cut lies in its item and has the same end, and P holds for the item
    pub record IsOf (c : CutOf X) : Type 0 where
      pub holds : P c.of
      pub inside : is_inside (span c.of) c.span ≡ true
      pub upper : c.span.upper ≡ (span c.of).upper

    pub side_of : (c : CutOf X) (cs : List (CutOf X)) (p : SpanOf) → has_instant c.span ≡ true → AllByRecursion IsOf (c ∷ cs) → AllByRecursion IsOf (left_after p (c ∷ cs))
    side_of c cs p i h = by (has_instant (back_of c.span p)) refl
      where
        inner : (a f : Bool) → (a && f) ≡ true → a ≡ true
        inner true f e = refl
        inner false f e = e

        by : (b : Bool) → has_instant (back_of c.span p) ≡ b → AllByRecursion IsOf (cond b (record { span = back_of c.span p; of = c.of } ∷ cs) cs)
        by true e = (
          record {
            holds = h.0.holds;
            inside = inside_by (span c.of) (back_of c.span p) e (λ t k. inside_of (span c.of) c.span i h.0.inside t (inner (has c.span t) (follows t p) (sym (back_has c.span p t) ∙ k)));
            upper = h.0.upper;
          },
          h.1,
        )
        by false e = h.1

    pub wholes_of : (v : List X) → AllByRecursion (λ x. P x × (is_inside (span x) (span x) ≡ true)) v → AllByRecursion IsOf (wholes span v)
    wholes_of [] h = tt
    wholes_of (x ∷ v) h = (record { holds = h.0.0; inside = h.0.1; upper = refl }, wholes_of v h.1)

  module _ (span : X → SpanOf) where
    pub entry_whole : (v : List X) (t : Ratio) → entry_at (wholes span v) t ≡ piece_at span v t
    entry_whole [] t = refl
    entry_whole (x ∷ v) t = ap (λ o. cond (has (span x) t) (Some x) o) (entry_whole v t)

    whole_head : (x : X) (v : List X) → OfHead (λ p q. is_clear (span p) (span q) ≡ true) x v → OfHead (λ c d. is_clear c.span d.span ≡ true) (record { span = span x; of = x }) (wholes span v)
    whole_head x [] h = tt
    whole_head x (y ∷ v) h = h

    pub whole_clear : (v : List X) → PiecesAreClear span v → PiecesAreClear cut_span (wholes span v)
    whole_clear [] h = tt
    whole_clear (x ∷ v) h = (h.0, whole_head x v h.1, whole_clear v h.2)
