-- The rectangles of two runs: their pieces are no nearer.
use Rattle.std.{specs.Prelude.{◌≡◌, true, false, List, [], ◌∷◌}, specs.List.{AllByRecursion}}
use Rattle.mob_list.proofs.Each.{each_map}
use Rattle.mob_ratio.{specs.Ratio.{Ratio, ◌*ℚ◌}, specs.Order.{up_to}, specs.Sign.{nil}}
use Rattle.mob_span.{specs.Neighbours.{is_inside}, specs.Span.{SpanOf, has_instant}, specs.Meets.{PieceOf, shared_pieces}, specs.Pieces.{PiecesAreClear}, proofs.MeetLaws.{meets_clear, meets_hold}}
use Rattle.mob_slice.{specs.Sides.{Slices, pieces}, specs.Slices.{IsSound, IsRisingInTime}, specs.declared.line.PlaneLine.{PlaneLine}, specs.declared.slice.Slice.{Slice}}
use Rattle.mob_slice.proofs.Orders.{all_sound, ordered-clear}
use Rattle.mob_lift.specs.Pieces.{both_move}
use Rattle.mob_legs.{specs.Covers.{CoversSlice, CoversRun, is_beyond, cover_gap, BeyondNeverReaches, GapsBoundApproaches}, specs.Legs.{piece_reaches, piece_approach}}
use Rattle.mob_legs.specs.declared.covers.Cover.{Cover}
use Rattle.mob_near.proofs.Far.{far_never, gap_bounds}

pub each_two : {A : Type 0} (P Q : A → Type 0) (xs : List A) → AllByRecursion P xs → AllByRecursion Q xs → AllByRecursion (λ x. P x × Q x) xs
each_two P Q [] h k = tt
each_two P Q (x ∷ xs) h k = ((h.0, k.0), each_two P Q xs h.1 k.1)

pub some_each : {P : Type 0} (span : P → SpanOf) (ps : List P) → PiecesAreClear span ps → AllByRecursion (λ p. has_instant (span p) ≡ true) ps
some_each span [] h = tt
some_each span (p ∷ ps) h = (h.0, some_each span ps h.2)

abbrev pub IsSoundLine : Slice PlaneLine → Type 0
IsSoundLine s = IsSound (λ c. c.from) (λ c. c.to) s

module _ (c e : Cover) (v w : List (Slice PlaneLine)) (v_order : IsRisingInTime (λ c. c.from) (λ c. c.to) v) (w_order : IsRisingInTime (λ c. c.from) (λ c. c.to) w) (left : CoversRun c v) (right : CoversRun e w) where
  abbrev IsInRuns : PieceOf (Slice PlaneLine) (Slice PlaneLine) → Type 0
  IsInRuns p = (((IsSoundLine p.left × CoversSlice c p.left) × (is_inside p.left.span p.span ≡ true)) × ((IsSoundLine p.right × CoversSlice e p.right) × (is_inside p.right.span p.span ≡ true))) × (has_instant p.span ≡ true)

  in_runs : AllByRecursion IsInRuns (shared_pieces (λ s. s.span) (λ s. s.span) v w)
  in_runs = each_two _ _ (shared_pieces (λ s. s.span) (λ s. s.span) v w)
      (meets_hold (λ s. s.span) (λ s. s.span) (λ s. IsSoundLine s × CoversSlice c s) (λ s. IsSoundLine s × CoversSlice e s) v w
      (each_two _ _ v (all_sound (λ c. c.from) (λ c. c.to) v v_order) left.each)
      (each_two _ _ w (all_sound (λ c. c.from) (λ c. c.to) w w_order) right.each))
      (some_each (λ p. p.span) _ (meets_clear (λ s. s.span) (λ s. s.span) v w (ordered-clear (λ c. c.from) (λ c. c.to) v v_order) (ordered-clear (λ c. c.from) (λ c. c.to) w w_order)))

  pub beyond_runs : (d : Ratio) → up_to nil d ≡ true → is_beyond d c e ≡ true → AllByRecursion (λ p. piece_reaches (d *ℚ d) p ≡ false) (pieces (Slices v) (Slices w))
  beyond_runs d hd h = each_map IsInRuns (λ p. piece_reaches (d *ℚ d) p ≡ false) both_move
      (λ p k. far_never (both_move p) ((k.0.0.0.0, k.0.0.1), (k.0.1.0.0, k.0.1.1)) k.1 c e (k.0.0.0.1.start, k.0.0.0.1.end) (k.0.1.0.1.start, k.0.1.0.1.end) d hd h)
      (shared_pieces (λ s. s.span) (λ s. s.span) v w) in_runs

  pub gap_runs : AllByRecursion (λ p. up_to (cover_gap c e) (piece_approach p) ≡ true) (pieces (Slices v) (Slices w))
  gap_runs = each_map IsInRuns (λ p. up_to (cover_gap c e) (piece_approach p) ≡ true) both_move
      (λ p k. gap_bounds (both_move p) ((k.0.0.0.0, k.0.0.1), (k.0.1.0.0, k.0.1.1)) k.1 c e (k.0.0.0.1.start, k.0.0.0.1.end) (k.0.1.0.1.start, k.0.1.0.1.end))
      (shared_pieces (λ s. s.span) (λ s. s.span) v w) in_runs

pub beyond_never_reaches : BeyondNeverReaches
beyond_never_reaches d c e v w hd hv hw left right h = beyond_runs c e v w hv hw left right d hd h

pub gaps_bound_approaches : GapsBoundApproaches
gaps_bound_approaches c e v w hv hw left right = gap_runs c e v w hv hw left right
