-- The pieces that two lists of cuts share, and those left when the first cut of one is shortened.
use Rattle.std.{specs.Prelude.{◌≡◌, Bool, true, false, cond, refl, ◌&&◌, List, [], ◌∷◌, ◌++◌, map}, specs.List.{filter}, proofs.Common.{ap, sym, ◌∙◌}}
use Rattle.mob_ratio.specs.Ratio.{Ratio}
use Rattle.mob_span.{specs.Span.{SpanOf, has, has_instant}, specs.Meet.{meet_of}, specs.Meets.{PieceOf, shared_pieces}, specs.Remainders.{back_of}, proofs.SpanLemmas.{no_instant, meet_none}}
use Rattle.mob_span.proofs.Shared.{AreAllClear, row}
use Rattle.mob_shares.{specs.Cuts.{CutOf, wholes, kept, left_after, row_pieces, shared_cuts}, proofs.Spans.{some_same, one_span, same_behind, same_behind', meets_same, meets_same', none_behind}}

no_meet : (s r : SpanOf) → has_instant s ≡ false → has_instant (meet_of s r) ≡ false
no_meet s r h = (meet_none s r).1 (λ t. ap (λ b. b && has r t) (no_instant s t h))

no_meet' : (s r : SpanOf) → has_instant r ≡ false → has_instant (meet_of s r) ≡ false
no_meet' s r h = (meet_none s r).1 (λ t. ap (λ b. has s t && b) (no_instant r t h) ∙ by (has s t))
  where
    by : (a : Bool) → (a && false) ≡ false
    by true = refl
    by false = refl

module _ {X Y : Type 0} where
  abbrev put : SpanOf → X → Y → List (PieceOf X Y) → List (PieceOf X Y)
  put m x y r = cond (has_instant m) (record { span = m; left = x; right = y } ∷ r) r

  put_by : (m n : SpanOf) (x : X) (y : Y) (r : List (PieceOf X Y)) → ((t : Ratio) → has m t ≡ has n t) → (b : Bool) → has_instant m ≡ b → put m x y r ≡ put n x y r
  put_by m n x y r f true h = ap (λ z. put z x y r) (one_span m n h f)
  put_by m n x y r f false h = ap (λ b. cond b (record { span = m; left = x; right = y } ∷ r) r) h ∙ sym (ap (λ b. cond b (record { span = n; left = x; right = y } ∷ r) r) (sym (some_same m n f) ∙ h))

  put_same : (m n : SpanOf) (x : X) (y : Y) (r r' : List (PieceOf X Y)) → ((t : Ratio) → has m t ≡ has n t) → r ≡ r' → put m x y r ≡ put n x y r'
  put_same m n x y r r' f e = put_by m n x y r f (has_instant m) refl ∙ ap (λ l. put n x y l) e

  put_none : (m : SpanOf) (x : X) (y : Y) (r : List (PieceOf X Y)) → has_instant m ≡ false → put m x y r ≡ r
  put_none m x y r h = ap (λ b. cond b (record { span = m; left = x; right = y } ∷ r) r) h

  put_some : (m : SpanOf) (x : X) (y : Y) (r : List (PieceOf X Y)) → has_instant m ≡ true → put m x y r ≡ record { span = m; left = x; right = y } ∷ r
  put_some m x y r h = ap (λ b. cond b (record { span = m; left = x; right = y } ∷ r) r) h

  row_none : (c : CutOf X) (ds : List (CutOf Y)) → has_instant c.span ≡ false → row_pieces c ds ≡ []
  row_none c [] h = refl
  row_none c (d ∷ ds) h = put_none (meet_of c.span d.span) c.of d.of (row_pieces c ds) (no_meet c.span d.span h) ∙ row_none c ds h

  -- a cut without an instant shares nothing
  kept_row : (c : CutOf X) (cs : List (CutOf X)) (ds : List (CutOf Y)) → shared_cuts (kept c cs) ds ≡ shared_cuts (c ∷ cs) ds
  kept_row c cs ds = by (has_instant c.span) refl
    where
      by : (b : Bool) → has_instant c.span ≡ b → shared_cuts (cond b (c ∷ cs) cs) ds ≡ shared_cuts (c ∷ cs) ds
      by true h = refl
      by false h = ap (λ l. l ++ shared_cuts cs ds) (sym (row_none c ds h))

  col_none : (cs : List (CutOf X)) (d : CutOf Y) (ds : List (CutOf Y)) → has_instant d.span ≡ false → shared_cuts cs ds ≡ shared_cuts cs (d ∷ ds)
  col_none [] d ds h = refl
  col_none (c ∷ cs) d ds h = ap (λ l. l ++ shared_cuts cs ds) (sym (put_none (meet_of c.span d.span) c.of d.of (row_pieces c ds) (no_meet' c.span d.span h))) ∙ ap (λ l. row_pieces c (d ∷ ds) ++ l) (col_none cs d ds h)

  kept_col : (cs : List (CutOf X)) (d : CutOf Y) (ds : List (CutOf Y)) → shared_cuts cs (kept d ds) ≡ shared_cuts cs (d ∷ ds)
  kept_col cs d ds = by (has_instant d.span) refl
    where
      by : (b : Bool) → has_instant d.span ≡ b → shared_cuts cs (cond b (d ∷ ds) ds) ≡ shared_cuts cs (d ∷ ds)
      by true h = refl
      by false h = col_none cs d ds h

  row_behind : (x : X) (s p : SpanOf) (ds : List (CutOf Y)) → AreAllClear (λ d. d.span) p ds → row_pieces (record { span = s; of = x }) ds ≡ row_pieces (record { span = back_of s p; of = x }) ds
  row_behind x s p [] h = refl
  row_behind x s p (d ∷ ds) h = put_same (meet_of s d.span) (meet_of (back_of s p) d.span) x d.of (row_pieces (record { span = s; of = x }) ds) (row_pieces (record { span = back_of s p; of = x }) ds) (meets_same s (back_of s p) d.span (same_behind s p d.span h.0)) (row_behind x s p ds h.1)

  col_behind : (y : Y) (s p : SpanOf) (cs : List (CutOf X)) (ds : List (CutOf Y)) → AreAllClear (λ c. c.span) p cs → shared_cuts cs (record { span = s; of = y } ∷ ds) ≡ shared_cuts cs (record { span = back_of s p; of = y } ∷ ds)
  col_behind y s p [] ds h = refl
  col_behind y s p (c ∷ cs) ds h =
      ap (λ l. l ++ shared_cuts cs (record { span = s; of = y } ∷ ds)) (put_same (meet_of c.span s) (meet_of c.span (back_of s p)) c.of y (row_pieces c ds) (row_pieces c ds) (meets_same' s (back_of s p) c.span (same_behind' s p c.span h.0)) refl)
      ∙ ap (λ l. row_pieces c (record { span = back_of s p; of = y } ∷ ds) ++ l) (col_behind y s p cs ds h.1)

  -- If the first cut of one list loses the part before all of the other list, the shared pieces do
  -- not change.
  pub shared_left : (c : CutOf X) (cs : List (CutOf X)) (w : List (CutOf Y)) (p : SpanOf) → AreAllClear (λ d. d.span) p w → shared_cuts (c ∷ cs) w ≡ shared_cuts (left_after p (c ∷ cs)) w
  shared_left c cs w p h = ap (λ l. l ++ shared_cuts cs w) (row_behind c.of c.span p w h) ∙ sym (kept_row (record { span = back_of c.span p; of = c.of }) cs w)

  pub shared_right : (v : List (CutOf X)) (d : CutOf Y) (ds : List (CutOf Y)) (p : SpanOf) → AreAllClear (λ c. c.span) p v → shared_cuts v (d ∷ ds) ≡ shared_cuts v (left_after p (d ∷ ds))
  shared_right v d ds p h = col_behind d.of d.span p v ds h ∙ sym (kept_col v (record { span = back_of d.span p; of = d.of }) ds)

  -- If both first cuts lose the part that they share, it is the first shared piece.
  pub shared_both : (c : CutOf X) (cs : List (CutOf X)) (d : CutOf Y) (ds : List (CutOf Y)) → has_instant (meet_of c.span d.span) ≡ true → AreAllClear (λ c. c.span) (meet_of c.span d.span) cs → AreAllClear (λ d. d.span) (meet_of c.span d.span) ds
      → shared_cuts (c ∷ cs) (d ∷ ds) ≡ record { span = meet_of c.span d.span; left = c.of; right = d.of } ∷ shared_cuts (left_after (meet_of c.span d.span) (c ∷ cs)) (left_after (meet_of c.span d.span) (d ∷ ds))
  shared_both c cs d ds h k l =
      let p = meet_of c.span d.span in
      let c' : CutOf X = record { span = back_of c.span p; of = c.of } in
      let d' : CutOf Y = record { span = back_of d.span p; of = d.of } in
      let first : shared_cuts (c ∷ cs) (d ∷ ds) ≡ record { span = p; left = c.of; right = d.of } ∷ (row_pieces c ds ++ shared_cuts cs (d ∷ ds)) = ap (λ r. r ++ shared_cuts cs (d ∷ ds)) (put_some p c.of d.of (row_pieces c ds) h) in
      let rest : shared_cuts (left_after p (c ∷ cs)) (left_after p (d ∷ ds)) ≡ row_pieces c ds ++ shared_cuts cs (d ∷ ds) =
      kept_row c' cs (kept d' ds)
      ∙ kept_col (c' ∷ cs) d' ds
      ∙ ap (λ r. r ++ shared_cuts cs (d' ∷ ds)) (put_none (meet_of c'.span d'.span) c.of d.of (row_pieces c' ds) (none_behind c.span d.span))
      ∙ ap (λ r. r ++ shared_cuts cs (d' ∷ ds)) (sym (row_behind c.of c.span p ds l))
      ∙ ap (λ r. row_pieces c ds ++ r) (sym (col_behind d.of d.span p cs ds k)) in
      first ∙ ap (λ r. record { span = p; left = c.of; right = d.of } ∷ r) (sym rest)

module _ {X Y : Type 0} (span : X → SpanOf) (span' : Y → SpanOf) where
  row_whole : (x : X) (w : List Y) → row_pieces (record { span = span x; of = x }) (wholes span' w) ≡ row span span' x w
  row_whole x [] = refl
  row_whole x (y ∷ w) = by (has_instant (meet_of (span x) (span' y))) (row_whole x w)
    where
      by : (b : Bool) → row_pieces (record { span = span x; of = x }) (wholes span' w) ≡ row span span' x w → cond b (record { span = meet_of (span x) (span' y); left = x; right = y } ∷ row_pieces (record { span = span x; of = x }) (wholes span' w)) (row_pieces (record { span = span x; of = x }) (wholes span' w)) ≡ map (λ z. record { span = meet_of (span x) (span' z); left = x; right = z }) (cond b (y ∷ filter (λ z. has_instant (meet_of (span x) (span' z))) w) (filter (λ z. has_instant (meet_of (span x) (span' z))) w))
      by true e = ap (λ l. record { span = meet_of (span x) (span' y); left = x; right = y } ∷ l) e
      by false e = e

  -- whole items share the pieces that the lists share
  pub shared_whole : (v : List X) (w : List Y) → shared_cuts (wholes span v) (wholes span' w) ≡ shared_pieces span span' v w
  shared_whole [] w = refl
  shared_whole (x ∷ v) w = ap (λ l. l ++ shared_cuts (wholes span v) (wholes span' w)) (row_whole x w) ∙ ap (λ l. row span span' x w ++ l) (shared_whole v w)
