-- Lemmas on the pieces of a walk next to a base value.
use Rattle.std.{specs.Prelude.{◌≡◌, true, List, [], ◌∷◌, map}, specs.List.{AllByRecursion}}
use Rattle.mob_list.proofs.Each.{each_map}
use Rattle.mob_span.{specs.Chained.{OfHead}, specs.Meets.{PieceOf}, specs.Neighbours.{is_clear}, specs.Pieces.{PiecesAreClear}, specs.Span.{SpanOf}}
use Rattle.mob_slice.{specs.Sides.{HoldsPiece}, specs.declared.slice.Slice.{Slice}}
use Rattle.mob_lift.{specs.Common.{HoldsPair}, specs.Ones.{HoldsOne}, specs.Pieces.{both_move, left_moves, right_moves}}

-- pieces made from others on the same spans are in order of time if those are
module _ {P Q : Type 0} (span : P → SpanOf) (span' : Q → SpanOf) (f : P → Q) (same : (p : P) → span' (f p) ≡ span p) where
  map_head : (p : P) (ps : List P) → OfHead (λ q r. is_clear (span q) (span r) ≡ true) p ps → OfHead (λ q r. is_clear (span' q) (span' r) ≡ true) (f p) (map f ps)
  map_head p [] h = tt
  map_head p (q ∷ ps) h = rw (same p, same q) h

  pub map_clear : (ps : List P) → PiecesAreClear span ps → PiecesAreClear span' (map f ps)
  map_clear [] h = tt
  map_clear (p ∷ ps) h = (rw (same p) h.0, map_head p ps h.1, map_clear ps h.2)

-- the slices of each contain its span
module _ {A X B Y : Type 0} (start end : A → X) (start' end' : B → Y) where
  pub both_hold : (ps : List (PieceOf (Slice A) (Slice B))) → AllByRecursion (HoldsPair start end start' end') ps → AllByRecursion (HoldsPiece start end start' end') (map both_move ps)
  both_hold ps h = each_map (HoldsPair start end start' end') (HoldsPiece start end start' end') both_move (λ p k. k) ps h

  pub left_holds : (base : Y) (ps : List (SpanOf × Slice A)) → AllByRecursion (HoldsOne start end) ps → AllByRecursion (HoldsPiece start end start' end') (map (left_moves base) ps)
  left_holds base ps h = each_map (HoldsOne start end) (HoldsPiece start end start' end') (left_moves base) (λ p k. (k, tt)) ps h

  pub right_holds : (base : X) (ps : List (SpanOf × Slice B)) → AllByRecursion (HoldsOne start' end') ps → AllByRecursion (HoldsPiece start end start' end') (map (right_moves base) ps)
  right_holds base ps h = each_map (HoldsOne start' end') (HoldsPiece start end start' end') (right_moves base) (λ p k. (tt, k)) ps h
