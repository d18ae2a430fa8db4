-- Two moving points by the runs of their covers.
use Rattle.std.{specs.Prelude.{◌≡◌, ◌||◌, ◌+◌, ◌-◌, ℕ, zero, suc, Bool, true, false, cond, List, [], ◌∷◌, ◌++◌, map, length, take, drop, slice_range, Option, Some, None, Result, Ok, Err, IfOk, IsTrue, ◌↔◌, MatchOption, refl}, specs.List.{AllByRecursion}, specs.Option.{is_some}}
use Rattle.std.proofs.Common.{arith, ap, sym, ◌∙◌, subst, true≢false, length-drop, take-append-drop, drop-drop}
use Rattle.mob_list.proofs.Each.{each_on, each_map}
use Rattle.mob_ratio.{specs.Ratio.{Ratio, ◌+ℚ◌, ◌*ℚ◌}, specs.Order.{before, up_to, smaller}, specs.Sign.{nil}, proofs.Order.{up_to-trans}}
use Rattle.mob_span.{specs.Chained.{OfHead, Chained}, specs.Neighbours.{is_inside, is_clear}, specs.Span.{has_instant}, specs.Meets.{PieceOf, shared_pieces}, specs.Pieces.{PiecesAreClear}, proofs.MeetLaws.{meets_clear, meets_hold}}
use Rattle.mob_slice.{specs.Sides.{Slices, pieces}, specs.Lines.{plane_value_of}, specs.Slices.{IsSound, IsRisingInTime, IsClearOf, value_at}, specs.declared.line.PlaneLine.{PlaneLine}, specs.declared.slice.Slice.{Slice}}
use Rattle.mob_slice.proofs.Orders.{all_sound, ordered-clear}
use Rattle.mob_lift.{specs.Pieces.{both_move}, specs.Sometime.{either, IsEver, HaveCommon}, proofs.Walking.{walked}}
use Rattle.mob_near.specs.Approaches.{IsApproach}
use Rattle.mob_legs.{specs.Covers.{CoversSlice, CoversRun, AreRunsFrom, AreCoversOf, IsRunOf, run_of, some_reach, nearer_of, is_apart_on, is_beyond, cover_gap}, specs.Legs.{PointPiece}}
use Rattle.mob_near.specs.Distances.{distance_squared}
use Rattle.mob_legs.{specs.Legs.{piece_reaches, piece_approach, nearest_of, are_some}, specs.declared.covers.Cover.{Cover}}
use Rattle.mob_near.specs.Wide.{least_approach}
use Rattle.mob_near.{proofs.OnPieces.{IsHeld}, proofs.Runs.{each_two, some_each, IsSoundLine, beyond_never_reaches, gaps_bound_approaches}, proofs.Products.{total, total_map, IsSum, AreRuns, by_runs}}
use Rattle.mob_near.proofs.Answering.{common_exact}
use Rattle.mob_near.proofs.Widely.{by_first, by_second, ever_is, nearest_is, least_all, smaller_is, smaller_swap, three}

-- ---- lists of slices
pub rising_clear : (v : List (Slice PlaneLine)) → IsRisingInTime (λ c. c.from) (λ c. c.to) v → PiecesAreClear (λ s. s.span) v
rising_clear v h = ordered-clear (λ c. c.from) (λ c. c.to) v h

module _ {A : Type 0} (P : A → Type 0) (R : A → A → Type 0) where
  chained_drop : (n : ℕ) (xs : List A) → Chained P R xs → Chained P R (drop n xs)
  chained_drop zero xs h = h
  chained_drop (suc n) [] h = tt
  chained_drop (suc n) (x ∷ xs) h = chained_drop n xs h.2

  head_take : (n : ℕ) (x : A) (xs : List A) → OfHead R x xs → OfHead R x (take n xs)
  head_take zero x xs h = tt
  head_take (suc n) x [] h = tt
  head_take (suc n) x (y ∷ xs) h = h

  chained_take : (n : ℕ) (xs : List A) → Chained P R xs → Chained P R (take n xs)
  chained_take zero xs h = tt
  chained_take (suc n) [] h = tt
  chained_take (suc n) (x ∷ xs) h = (h.0, head_take n x xs h.1, chained_take n xs h.2)

pub run_rising : (v : List (Slice PlaneLine)) (c : Cover) → IsRisingInTime (λ c. c.from) (λ c. c.to) v → IsRisingInTime (λ c. c.from) (λ c. c.to) (run_of v c)
run_rising v c h = chained_take (IsSound (λ c. c.from) (λ c. c.to)) IsClearOf c.count (drop c.start v) (chained_drop (IsSound (λ c. c.from) (λ c. c.to)) IsClearOf c.start v h)

pub run_rises : (v r : List (Slice PlaneLine)) (c : Cover) → r ≡ run_of v c → IsRisingInTime (λ c. c.from) (λ c. c.to) v → IsRisingInTime (λ c. c.from) (λ c. c.to) r
run_rises v r c e h = subst (IsRisingInTime (λ c. c.from) (λ c. c.to)) (sym e) (run_rising v c h)

-- facts and results on lists that are equal
pub covers_as : (v x : List (Slice PlaneLine)) (c y : List Cover) → x ≡ v → y ≡ c → AreCoversOf v c → AreCoversOf x y
covers_as v x c y e f h = subst (AreCoversOf x) (sym f) (subst (λ z. AreCoversOf z c) (sym e) h)

pub least_as : {E : Type 0} (v w x y : List (Slice PlaneLine)) (r : Result (Option Ratio) E) → x ≡ v → y ≡ w → IfOk r (λ o. o ≡ least_approach (pieces (Slices x) (Slices y))) → IfOk r (λ o. o ≡ least_approach (pieces (Slices v) (Slices w)))
least_as v w x y (Ok o) e f h = h ∙ ap (λ z. least_approach (pieces (Slices z) (Slices y))) e ∙ ap (λ z. least_approach (pieces (Slices v) (Slices z))) f
least_as v w x y (Err g) e f h = tt

pub reach_as : {E : Type 0} (D : Ratio) (v w x y : List (Slice PlaneLine)) (r : Result Bool E) → x ≡ v → y ≡ w → IfOk r (λ b. b ≡ some_reach D (pieces (Slices x) (Slices y))) → IfOk r (λ b. b ≡ some_reach D (pieces (Slices v) (Slices w)))
reach_as D v w x y (Ok b) e f h = h ∙ ap (λ z. some_reach D (pieces (Slices z) (Slices y))) e ∙ ap (λ z. some_reach D (pieces (Slices v) (Slices z))) f
reach_as D v w x y (Err g) e f h = tt

pub nearer_as : {E : Type 0} (v w x y : List (Slice PlaneLine)) (o : Option Ratio) (r : Result (Option Ratio) E) → x ≡ v → y ≡ w → IfOk r (λ b. b ≡ nearer_of o (least_approach (pieces (Slices x) (Slices y)))) → IfOk r (λ b. b ≡ nearer_of o (least_approach (pieces (Slices v) (Slices w))))
nearer_as v w x y o (Ok b) e f h = h ∙ ap (λ z. nearer_of o (least_approach (pieces (Slices z) (Slices y)))) e ∙ ap (λ z. nearer_of o (least_approach (pieces (Slices v) (Slices z)))) f
nearer_as v w x y o (Err g) e f h = tt

-- ---- the pieces of two lists
abbrev pub IsWalked : PieceOf (Slice PlaneLine) (Slice PlaneLine) → Type 0
IsWalked p = IsHeld (both_move p) × (has_instant p.span ≡ true)

module _ (v w : List (Slice PlaneLine)) (v_order : IsRisingInTime (λ c. c.from) (λ c. c.to) v) (w_order : IsRisingInTime (λ c. c.from) (λ c. c.to) w) where
  clear : PiecesAreClear (λ p. p.span) (shared_pieces (λ s. s.span) (λ s. s.span) v w)
  clear = meets_clear (λ s. s.span) (λ s. s.span) v w (rising_clear v v_order) (rising_clear w w_order)

  all_walked : AllByRecursion IsWalked (shared_pieces (λ s. s.span) (λ s. s.span) v w)
  all_walked = each_two (λ p. IsHeld (both_move p)) (λ p. has_instant p.span ≡ true) (shared_pieces (λ s. s.span) (λ s. s.span) v w)
      (meets_hold (λ s. s.span) (λ s. s.span) IsSoundLine IsSoundLine v w (all_sound (λ c. c.from) (λ c. c.to) v v_order) (all_sound (λ c. c.from) (λ c. c.to) w w_order))
      (some_each (λ p. p.span) (shared_pieces (λ s. s.span) (λ s. s.span) v w) clear)

-- the same pieces, each as two sides
moves_head : (p : PieceOf (Slice PlaneLine) (Slice PlaneLine)) (ps : List (PieceOf (Slice PlaneLine) (Slice PlaneLine))) → OfHead (λ (q r : PieceOf (Slice PlaneLine) (Slice PlaneLine)). is_clear q.span r.span ≡ true) p ps → OfHead (λ (q r : PointPiece). is_clear q.span r.span ≡ true) (both_move p) (map both_move ps)
moves_head p [] h = tt
moves_head p (q ∷ ps) h = h

moves_clear : (ps : List (PieceOf (Slice PlaneLine) (Slice PlaneLine))) → PiecesAreClear (λ p. p.span) ps → PiecesAreClear (λ (p : PointPiece). p.span) (map both_move ps)
moves_clear [] h = tt
moves_clear (p ∷ ps) h = (h.0, moves_head p ps h.1, moves_clear ps h.2)

-- the next piece of a walk
module _ (left rest : List (PieceOf (Slice PlaneLine) (Slice PlaneLine))) (m : PieceOf (Slice PlaneLine) (Slice PlaneLine)) (e : left ≡ m ∷ rest) (h : AllByRecursion IsWalked left) where
  next : AllByRecursion IsWalked (m ∷ rest)
  next = subst (AllByRecursion IsWalked) e h

  pub held_next : IsHeld (both_move m)
  held_next = next.0.0

  pub some_next : has_instant m.span ≡ true
  some_next = next.0.1

  pub walked_next : AllByRecursion IsWalked rest
  walked_next = next.1

-- at the start of a walk
module _ (v w x y : List (Slice PlaneLine)) (left : x ≡ v) (right : y ≡ w) where
  pub walked_start : IsRisingInTime (λ c. c.from) (λ c. c.to) v → IsRisingInTime (λ c. c.from) (λ c. c.to) w → AllByRecursion IsWalked (shared_pieces (λ s. s.span) (λ s. s.span) x y)
  walked_start hv hw = rw (left, right) (all_walked v w hv hw)

  pub reach_start : (D : Ratio) → some_reach D (map both_move (shared_pieces (λ s. s.span) (λ s. s.span) x y)) ≡ some_reach D (pieces (Slices v) (Slices w))
  reach_start D = rw (left, right) refl

  pub nearer_start : (o : Option Ratio) → nearer_of o (least_approach (map both_move (shared_pieces (λ s. s.span) (λ s. s.span) x y))) ≡ nearer_of o (least_approach (pieces (Slices v) (Slices w)))
  nearer_start o = rw (left, right) refl

-- ---- the runs of covers
pub range_run : (v : List (Slice PlaneLine)) (s n : ℕ) → slice_range v s (s + n) ≡ take n (drop s v)
range_run v s n = let e : (s + n) - s ≡ n = omega arith in ap (λ k. take k (drop s v)) e

module _ (v : List (Slice PlaneLine)) where
  same_run : (k : ℕ) (slices : List (Slice PlaneLine)) (c : Cover) → slices ≡ drop k v → c.start ≡ k → take c.count slices ≡ run_of v c
  same_run k slices c e s = ap (take c.count) (e ∙ ap (λ n. drop n v) (sym s))

  runs_from : (k : ℕ) (slices : List (Slice PlaneLine)) (covers : List Cover) → slices ≡ drop k v → AreRunsFrom k slices covers → AreRuns (λ s. s.span) (λ c. c.span) (run_of v) slices covers
  runs_from k slices [] e r = r
  runs_from k slices (c ∷ covers) e r =
      let same = same_run k slices c e r.0 in (
        drop c.count slices,
        sym (take-append-drop c.count slices) ∙ ap (λ z. z ++ drop c.count slices) same,
        subst (AllByRecursion (λ s. is_inside c.span s.span ≡ true)) same (each_on (CoversSlice c) (λ s. is_inside c.span s.span ≡ true) (λ s h. h.inside) (take c.count slices) r.2.each),
        runs_from (k + c.count) (drop c.count slices) covers (ap (drop c.count) e ∙ drop-drop c.count k v) r.3,
      )

  each_from : (k : ℕ) (slices : List (Slice PlaneLine)) (covers : List Cover) → slices ≡ drop k v → k + length slices ≡ length v → AreRunsFrom k slices covers → AllByRecursion (IsRunOf v) covers
  each_from k slices [] e n r = tt
  each_from k slices (c ∷ covers) e n r =
      let left = length-drop c.count slices in
      let at = r.0 in
      let few = r.1 in (
        record { room = omega (arith, n, at, few); covers = subst (CoversRun c) (same_run k slices c e r.0) r.2 },
        each_from (k + c.count) (drop c.count slices) covers (ap (drop c.count) e ∙ drop-drop c.count k v) (omega (arith, n, left, few)) r.3,
      )

  pub are_runs : (covers : List Cover) → AreCoversOf v covers → AreRuns (λ s. s.span) (λ c. c.span) (run_of v) v covers
  are_runs covers h = runs_from 0 v covers refl h.runs

  pub each_run : (covers : List Cover) → AreCoversOf v covers → AllByRecursion (IsRunOf v) covers
  each_run covers h = each_from 0 v covers refl (omega arith) h.runs

pub covers_order : (v : List (Slice PlaneLine)) (covers : List Cover) → AreCoversOf v covers → IsRisingInTime (λ c. c.from) (λ c. c.to) v
covers_order v covers h = h.order

pub covers_clear : (v : List (Slice PlaneLine)) (covers : List Cover) → AreCoversOf v covers → PiecesAreClear (λ c. c.span) covers
covers_clear v covers h = h.clear

-- both covers of a piece that they share have their runs
abbrev pub AreRunsOf : List (Slice PlaneLine) → List (Slice PlaneLine) → PieceOf Cover Cover → Type 0
AreRunsOf v w p = IsRunOf v p.left × IsRunOf w p.right

module _ (v w : List (Slice PlaneLine)) (left rest : List (PieceOf Cover Cover)) (m : PieceOf Cover Cover) (e : left ≡ m ∷ rest) (h : AllByRecursion (AreRunsOf v w) left) where
  next_runs : AllByRecursion (AreRunsOf v w) (m ∷ rest)
  next_runs = subst (AllByRecursion (AreRunsOf v w)) e h

  pub left_next : IsRunOf v m.left
  left_next = next_runs.0.0

  pub right_next : IsRunOf w m.right
  right_next = next_runs.0.1

  pub runs_next : AllByRecursion (AreRunsOf v w) rest
  runs_next = next_runs.1

all_runs : (v w : List (Slice PlaneLine)) (covers others : List Cover) → AreCoversOf v covers → AreCoversOf w others → AllByRecursion (AreRunsOf v w) (shared_pieces (λ c. c.span) (λ c. c.span) covers others)
all_runs v w covers others h k = each_on _ (AreRunsOf v w) (λ p q. (q.0.0, q.1.0)) (shared_pieces (λ c. c.span) (λ c. c.span) covers others)
    (meets_hold (λ c. c.span) (λ c. c.span) (IsRunOf v) (IsRunOf w) covers others (each_run v covers h) (each_run w others k))

pub runs_all : (v w : List (Slice PlaneLine)) (covers others x y : List Cover) → x ≡ covers → y ≡ others → AreCoversOf v covers → AreCoversOf w others → AllByRecursion (AreRunsOf v w) (shared_pieces (λ c. c.span) (λ c. c.span) x y)
runs_all v w covers others x y e f h k = rw (e, f) (all_runs v w covers others h k)

-- ---- within a distance
-- over the pieces of the runs of two covers
abbrev pub reach_on : Ratio → List (Slice PlaneLine) → List (Slice PlaneLine) → PieceOf Cover Cover → Bool
reach_on D v w p = some_reach D (pieces (Slices (run_of v p.left)) (Slices (run_of w p.right)))

-- over those of all of these
abbrev pub reach_all : Ratio → List (Slice PlaneLine) → List (Slice PlaneLine) → List (PieceOf Cover Cover) → Bool
reach_all D v w [] = false
reach_all D v w (p ∷ ps) = reach_on D v w p || reach_all D v w ps

or_sum : IsSum (λ a b. a || b) false
or_sum = record { assoc = or_assoc; swap = or_swap; unit = λ a. refl }
  where
    or_assoc : (a b c : Bool) → ((a || b) || c) ≡ (a || (b || c))
    or_assoc true b c = refl
    or_assoc false b c = refl

    or_swap : (a b : Bool) → (a || b) ≡ (b || a)
    or_swap true true = refl
    or_swap true false = refl
    or_swap false true = refl
    or_swap false false = refl

reach_total : (D : Ratio) (ps : List PointPiece) → some_reach D ps ≡ total (λ a b. a || b) false (piece_reaches D) ps
reach_total D [] = refl
reach_total D (p ∷ ps) = ap (λ z. piece_reaches D p || z) (reach_total D ps)

reach_moves : (D : Ratio) (v w : List (Slice PlaneLine)) → some_reach D (pieces (Slices v) (Slices w)) ≡ total (λ a b. a || b) false (λ p. piece_reaches D (both_move p)) (shared_pieces (λ s. s.span) (λ s. s.span) v w)
reach_moves D v w = reach_total D (pieces (Slices v) (Slices w)) ∙ total_map (λ a b. a || b) false (piece_reaches D) both_move (shared_pieces (λ s. s.span) (λ s. s.span) v w)

abbrev run_reach : Ratio → List (Slice PlaneLine) → List (Slice PlaneLine) → PieceOf Cover Cover → Bool
run_reach D v w p = total (λ a b. a || b) false (λ q. piece_reaches D (both_move q)) (shared_pieces (λ s. s.span) (λ s. s.span) (run_of v p.left) (run_of w p.right))

all_total : (D : Ratio) (v w : List (Slice PlaneLine)) (ps : List (PieceOf Cover Cover)) → total (λ a b. a || b) false (run_reach D v w) ps ≡ reach_all D v w ps
all_total D v w [] = refl
all_total D v w (p ∷ ps) = ap (λ z. z || total (λ a b. a || b) false (run_reach D v w) ps) (sym (reach_moves D (run_of v p.left) (run_of w p.right))) ∙ ap (λ z. reach_on D v w p || z) (all_total D v w ps)

reach_by_runs : (D : Ratio) (v w : List (Slice PlaneLine)) (covers others : List Cover) → AreCoversOf v covers → AreCoversOf w others → some_reach D (pieces (Slices v) (Slices w)) ≡ reach_all D v w (shared_pieces (λ c. c.span) (λ c. c.span) covers others)
reach_by_runs D v w covers others h k =
    reach_moves D v w
    ∙ by_runs (λ a b. a || b) false or_sum (λ s. s.span) (λ s. s.span) (λ c. c.span) (λ c. c.span) (run_of v) (run_of w) (λ p. piece_reaches D (both_move p)) v w covers others (are_runs v covers h) (are_runs w others k)
    ∙ all_total D v w (shared_pieces (λ c. c.span) (λ c. c.span) covers others)

pub runs_start : (D : Ratio) (v w : List (Slice PlaneLine)) (covers others x y : List Cover) → x ≡ covers → y ≡ others → AreCoversOf v covers → AreCoversOf w others → reach_all D v w (shared_pieces (λ c. c.span) (λ c. c.span) x y) ≡ some_reach D (pieces (Slices v) (Slices w))
runs_start D v w covers others x y e f h k = rw (e, f) (sym (reach_by_runs D v w covers others h k))

-- beyond a distance no piece comes within it
all_false : (D : Ratio) (ps : List PointPiece) → AllByRecursion (λ p. piece_reaches D p ≡ false) ps → some_reach D ps ≡ false
all_false D [] h = refl
all_false D (p ∷ ps) h = rw h.0 (all_false D ps h.1)

pub none_reach : (v w : List (Slice PlaneLine)) (c e : Cover) (d s : Ratio) → IsRisingInTime (λ z. z.from) (λ z. z.to) v → IsRisingInTime (λ z. z.from) (λ z. z.to) w → IsRunOf v c → IsRunOf w e → up_to nil d ≡ true → s ≡ d *ℚ d → is_beyond d c e ≡ true → false ≡ some_reach s (pieces (Slices (run_of v c)) (Slices (run_of w e)))
none_reach v w c e d s hv hw left right hd same h =
    sym (ap (λ z. some_reach z (pieces (Slices (run_of v c)) (Slices (run_of w e)))) same
    ∙ all_false (d *ℚ d) (pieces (Slices (run_of v c)) (Slices (run_of w e))) (beyond_never_reaches d c e (run_of v c) (run_of w e) hd (run_rising v c hv) (run_rising w e hw) left.covers right.covers h))

-- beyond to one of four sides
module _ (d : Ratio) (c e : Cover) where
  across : is_apart_on d c.xmin c.xmax e.xmin e.xmax ≡ true → is_beyond d c e ≡ true
  across h = by_first (is_apart_on d c.xmin c.xmax e.xmin e.xmax) (is_apart_on d c.ymin c.ymax e.ymin e.ymax) h

  along : is_apart_on d c.ymin c.ymax e.ymin e.ymax ≡ true → is_beyond d c e ≡ true
  along h = by_second (is_apart_on d c.xmin c.xmax e.xmin e.xmax) (is_apart_on d c.ymin c.ymax e.ymin e.ymax) h

  pub beyond_east : before (c.xmax +ℚ d) e.xmin ≡ true → is_beyond d c e ≡ true
  beyond_east h = across (by_first (before (c.xmax +ℚ d) e.xmin) (before (e.xmax +ℚ d) c.xmin) h)

  pub beyond_west : before (e.xmax +ℚ d) c.xmin ≡ true → is_beyond d c e ≡ true
  beyond_west h = across (by_second (before (c.xmax +ℚ d) e.xmin) (before (e.xmax +ℚ d) c.xmin) h)

  pub beyond_north : before (c.ymax +ℚ d) e.ymin ≡ true → is_beyond d c e ≡ true
  beyond_north h = along (by_first (before (c.ymax +ℚ d) e.ymin) (before (e.ymax +ℚ d) c.ymin) h)

  pub beyond_south : before (e.ymax +ℚ d) c.ymin ≡ true → is_beyond d c e ≡ true
  beyond_south h = along (by_second (before (c.ymax +ℚ d) e.ymin) (before (e.ymax +ℚ d) c.ymin) h)

-- a walk that has found nothing so far
miss : (a b c : Bool) → (a || b) ≡ c → a ≡ false → b ≡ c
miss true b c e h = absurd (cc h)
miss false b c e h = e

hit : (a b c : Bool) → (a || b) ≡ c → a ≡ true → true ≡ c
hit true b c e h = e
hit false b c e h = absurd (cc h)

module _ (D : Ratio) (left rest : List (PieceOf (Slice PlaneLine) (Slice PlaneLine))) (m : PieceOf (Slice PlaneLine) (Slice PlaneLine)) (all : Bool) where
  pub piece_missed : left ≡ m ∷ rest → some_reach D (map both_move left) ≡ all → piece_reaches D (both_move m) ≡ false → some_reach D (map both_move rest) ≡ all
  piece_missed e h n = miss (piece_reaches D (both_move m)) (some_reach D (map both_move rest)) all (ap (λ l. some_reach D (map both_move l)) (sym e) ∙ h) n

  pub piece_hit : left ≡ m ∷ rest → some_reach D (map both_move left) ≡ all → piece_reaches D (both_move m) ≡ true → true ≡ all
  piece_hit e h n = hit (piece_reaches D (both_move m)) (some_reach D (map both_move rest)) all (ap (λ l. some_reach D (map both_move l)) (sym e) ∙ h) n

pub pieces_missed : (D : Ratio) (left : List (PieceOf (Slice PlaneLine) (Slice PlaneLine))) (all : Bool) → left ≡ [] → some_reach D (map both_move left) ≡ all → false ≡ all
pieces_missed D left all e h = ap (λ l. some_reach D (map both_move l)) (sym e) ∙ h

module _ (D : Ratio) (v w : List (Slice PlaneLine)) (left rest : List (PieceOf Cover Cover)) (m : PieceOf Cover Cover) (all : Bool) where
  pub runs_missed : left ≡ m ∷ rest → reach_all D v w left ≡ all → reach_on D v w m ≡ false → reach_all D v w rest ≡ all
  runs_missed e h n = miss (reach_on D v w m) (reach_all D v w rest) all (ap (reach_all D v w) (sym e) ∙ h) n

  pub runs_hit : left ≡ m ∷ rest → reach_all D v w left ≡ all → reach_on D v w m ≡ true → true ≡ all
  runs_hit e h n = hit (reach_on D v w m) (reach_all D v w rest) all (ap (reach_all D v w) (sym e) ∙ h) n

pub all_missed : (D : Ratio) (v w : List (Slice PlaneLine)) (left : List (PieceOf Cover Cover)) (all : Bool) → left ≡ [] → reach_all D v w left ≡ all → false ≡ all
all_missed D v w left all e h = ap (reach_all D v w) (sym e) ∙ h

-- ---- the answer over all pieces
walked_true : (D : Ratio) (b : Bool) (ps : List PointPiece) → walked either (piece_reaches D) (Some b) ps ≡ Some (b || some_reach D ps)
walked_true D true [] = refl
walked_true D false [] = refl
walked_true D true (p ∷ ps) = walked_true D true ps
walked_true D false (p ∷ ps) = walked_true D (piece_reaches D p) ps

walked_reach : (D : Ratio) (ps : List PointPiece) → walked either (piece_reaches D) None ps ≡ cond (are_some ps) (Some (some_reach D ps)) None
walked_reach D [] = refl
walked_reach D (p ∷ ps) = walked_true D (piece_reaches D p) ps

some_if : (D : Ratio) (ps : List PointPiece) → true ≡ some_reach D ps → Some true ≡ walked either (piece_reaches D) None ps
some_if D [] e = absurd (cc e)
some_if D (p ∷ ps) e = ap Some e ∙ sym (walked_true D (piece_reaches D p) ps)

none_if : (D : Ratio) (ps : List PointPiece) (shared : Bool) (o : Option Bool) → false ≡ some_reach D ps → shared ≡ are_some ps → o ≡ cond shared (Some false) None → o ≡ walked either (piece_reaches D) None ps
none_if D ps shared o e s h = h ∙ ap (λ z. cond z (Some false) None) s ∙ ap (λ z. cond (are_some ps) (Some z) None) e ∙ sym (walked_reach D ps)

module _ (v w : List (Slice PlaneLine)) (hv : IsRisingInTime (λ c. c.from) (λ c. c.to) v) (hw : IsRisingInTime (λ c. c.from) (λ c. c.to) w) where
  pieces_clear : PiecesAreClear (λ (p : PointPiece). p.span) (pieces (Slices v) (Slices w))
  pieces_clear = moves_clear (shared_pieces (λ s. s.span) (λ s. s.span) v w) (clear v w hv hw)

  pieces_hold : AllByRecursion IsHeld (pieces (Slices v) (Slices w))
  pieces_hold = each_map IsWalked IsHeld both_move (λ p h. h.0) (shared_pieces (λ s. s.span) (λ s. s.span) v w) (all_walked v w hv hw)

  pub common_is : (r : Bool) → r ≡ are_some (pieces (Slices v) (Slices w)) → IsTrue r ↔ HaveCommon (value_at plane_value_of v) (value_at plane_value_of w)
  common_is r e = common_exact (Slices v) (Slices w) refl r e pieces_clear

  pub hit_ever : (D d : Ratio) → D ≡ d *ℚ d → true ≡ some_reach D (pieces (Slices v) (Slices w)) → IsEver (λ x y. up_to (distance_squared x y) D) (value_at plane_value_of v) (value_at plane_value_of w) (Some true)
  hit_ever D d e h = ever_is (Slices v) (Slices w) refl pieces_clear pieces_hold D d (Some true) e (some_if D (pieces (Slices v) (Slices w)) h)

  pub none_ever : (D d : Ratio) (shared : Bool) (o : Option Bool) → D ≡ d *ℚ d → false ≡ some_reach D (pieces (Slices v) (Slices w)) → shared ≡ are_some (pieces (Slices v) (Slices w)) → o ≡ cond shared (Some false) None → IsEver (λ x y. up_to (distance_squared x y) D) (value_at plane_value_of v) (value_at plane_value_of w) o
  none_ever D d shared o e h s k = ever_is (Slices v) (Slices w) refl pieces_clear pieces_hold D d o e (none_if D (pieces (Slices v) (Slices w)) shared o h s k)

  pub least_is : {E : Type 0} (r : Result (Option Ratio) E) → IfOk r (λ o. o ≡ least_approach (pieces (Slices v) (Slices w))) → IfOk r (IsApproach (value_at plane_value_of v) (value_at plane_value_of w))
  least_is (Ok o) h = nearest_is (Slices v) (Slices w) refl pieces_clear pieces_hold o (h ∙ sym (least_all (pieces (Slices v) (Slices w))))
  least_is (Err g) h = tt

-- covers that never meet are of points with no common instant
some_total : (ps : List PointPiece) → are_some ps ≡ total (λ a b. a || b) false (λ p. true) ps
some_total [] = refl
some_total (p ∷ ps) = refl

abbrev run_some : List (Slice PlaneLine) → List (Slice PlaneLine) → PieceOf Cover Cover → Bool
run_some v w p = total (λ a b. a || b) false (λ q. true) (shared_pieces (λ s. s.span) (λ s. s.span) (run_of v p.left) (run_of w p.right))

pub none_met : (v w : List (Slice PlaneLine)) (covers others x y : List Cover) → x ≡ covers → y ≡ others → AreCoversOf v covers → AreCoversOf w others → shared_pieces (λ c. c.span) (λ c. c.span) x y ≡ [] → false ≡ are_some (pieces (Slices v) (Slices w))
none_met v w covers others x y f g h k e =
    let met : shared_pieces (λ c. c.span) (λ c. c.span) covers others ≡ [] = rw (sym f, sym g) e in
    sym (some_total (pieces (Slices v) (Slices w))
    ∙ total_map (λ a b. a || b) false (λ p. true) both_move (shared_pieces (λ s. s.span) (λ s. s.span) v w)
    ∙ by_runs (λ a b. a || b) false or_sum (λ s. s.span) (λ s. s.span) (λ c. c.span) (λ c. c.span) (run_of v) (run_of w) (λ p. true) v w covers others (are_runs v covers h) (are_runs w others k)
    ∙ ap (total (λ a b. a || b) false (run_some v w)) met)

-- the first step of a walk that gives nothing
pub next_none : {A P : Type 0} (view : A → P) (r : Option A) (all rest : List P) → MatchOption r ((all ≡ []) × (rest ≡ [])) (λ x. all ≡ view x ∷ rest) → is_some r ≡ false → all ≡ []
next_none view None all rest h e = h.0
next_none view (Some x) all rest h e = absurd (true≢false e)

pub met_none : (covers others x y : List Cover) → x ≡ covers → y ≡ others → shared_pieces (λ c. c.span) (λ c. c.span) x y ≡ [] → shared_pieces (λ c. c.span) (λ c. c.span) covers others ≡ []
met_none covers others x y f g h = rw (sym f, sym g) h

pub covers_clear_as : (v : List (Slice PlaneLine)) (covers x : List Cover) → x ≡ covers → AreCoversOf v covers → PiecesAreClear (λ c. c.span) x
covers_clear_as v covers x e h = subst (PiecesAreClear (λ c. c.span)) (sym e) h.clear

-- ---- the least approach
smaller_assoc : (a b c : Ratio) → smaller (smaller a b) c ≡ smaller a (smaller b c)
smaller_assoc a b c = ap (λ z. smaller z c) (smaller_swap a b) ∙ sym (three b c a)

nearer_sum : IsSum nearer_of None
nearer_sum = record { assoc = assoc; swap = swap; unit = λ a. refl }
  where
    assoc : (a b c : Option Ratio) → nearer_of (nearer_of a b) c ≡ nearer_of a (nearer_of b c)
    assoc None b c = refl
    assoc (Some a) None c = refl
    assoc (Some a) (Some b) None = refl
    assoc (Some a) (Some b) (Some c) = ap Some (smaller_assoc a b c)

    swap : (a b : Option Ratio) → nearer_of a b ≡ nearer_of b a
    swap None None = refl
    swap None (Some b) = refl
    swap (Some a) None = refl
    swap (Some a) (Some b) = ap Some (smaller_swap a b)

first_nearer : (m : Ratio) (o : Option Ratio) → Some (nearest_of o m) ≡ nearer_of (Some m) o
first_nearer m None = refl
first_nearer m (Some b) = refl

least_total : (ps : List PointPiece) → least_approach ps ≡ total nearer_of None (λ p. Some (piece_approach p)) ps
least_total [] = refl
least_total (p ∷ ps) = first_nearer (piece_approach p) (least_approach ps) ∙ ap (nearer_of (Some (piece_approach p))) (least_total ps)

least_moves : (v w : List (Slice PlaneLine)) → least_approach (pieces (Slices v) (Slices w)) ≡ total nearer_of None (λ p. Some (piece_approach (both_move p))) (shared_pieces (λ s. s.span) (λ s. s.span) v w)
least_moves v w = least_total (pieces (Slices v) (Slices w)) ∙ total_map nearer_of None (λ p. Some (piece_approach p)) both_move (shared_pieces (λ s. s.span) (λ s. s.span) v w)

abbrev pub least_on : List (Slice PlaneLine) → List (Slice PlaneLine) → PieceOf Cover Cover → Option Ratio
least_on v w p = least_approach (pieces (Slices (run_of v p.left)) (Slices (run_of w p.right)))

abbrev pub least_in : List (Slice PlaneLine) → List (Slice PlaneLine) → List (PieceOf Cover Cover) → Option Ratio
least_in v w [] = None
least_in v w (p ∷ ps) = nearer_of (least_on v w p) (least_in v w ps)

abbrev run_least : List (Slice PlaneLine) → List (Slice PlaneLine) → PieceOf Cover Cover → Option Ratio
run_least v w p = total nearer_of None (λ q. Some (piece_approach (both_move q))) (shared_pieces (λ s. s.span) (λ s. s.span) (run_of v p.left) (run_of w p.right))

in_total : (v w : List (Slice PlaneLine)) (ps : List (PieceOf Cover Cover)) → total nearer_of None (run_least v w) ps ≡ least_in v w ps
in_total v w [] = refl
in_total v w (p ∷ ps) = ap (λ z. nearer_of z (total nearer_of None (run_least v w) ps)) (sym (least_moves (run_of v p.left) (run_of w p.right))) ∙ ap (nearer_of (least_on v w p)) (in_total v w ps)

least_by_runs : (v w : List (Slice PlaneLine)) (covers others : List Cover) → AreCoversOf v covers → AreCoversOf w others → least_approach (pieces (Slices v) (Slices w)) ≡ least_in v w (shared_pieces (λ c. c.span) (λ c. c.span) covers others)
least_by_runs v w covers others h k =
    least_moves v w
    ∙ by_runs nearer_of None nearer_sum (λ s. s.span) (λ s. s.span) (λ c. c.span) (λ c. c.span) (run_of v) (run_of w) (λ p. Some (piece_approach (both_move p))) v w covers others (are_runs v covers h) (are_runs w others k)
    ∙ in_total v w (shared_pieces (λ c. c.span) (λ c. c.span) covers others)

pub least_start : (v w : List (Slice PlaneLine)) (covers others x y : List Cover) → x ≡ covers → y ≡ others → AreCoversOf v covers → AreCoversOf w others → nearer_of None (least_in v w (shared_pieces (λ c. c.span) (λ c. c.span) x y)) ≡ least_approach (pieces (Slices v) (Slices w))
least_start v w covers others x y e f h k = rw (e, f) (sym (least_by_runs v w covers others h k))

-- no piece is nearer than what was found
no_nearer : (f g : Ratio) (ps : List PointPiece) → up_to f g ≡ true → AllByRecursion (λ p. up_to g (piece_approach p) ≡ true) ps → Some f ≡ nearer_of (Some f) (least_approach ps)
no_nearer f g [] h k = refl
no_nearer f g (p ∷ ps) h k = by (least_approach ps) (no_nearer f g ps h k.1)
  where
    here : smaller f (piece_approach p) ≡ f
    here = smaller_swap f (piece_approach p) ∙ sym (smaller_is (piece_approach p) f (up_to-trans f g (piece_approach p) h k.0))

    by : (o : Option Ratio) → Some f ≡ nearer_of (Some f) o → Some f ≡ nearer_of (Some f) (Some (nearest_of o (piece_approach p)))
    by None e = ap Some (sym here)
    by (Some b) e = e ∙ ap Some (ap (λ z. smaller z b) (sym here) ∙ smaller_assoc f (piece_approach p) b)

pub none_nearer : (v w : List (Slice PlaneLine)) (c e : Cover) (f : Ratio) → IsRisingInTime (λ z. z.from) (λ z. z.to) v → IsRisingInTime (λ z. z.from) (λ z. z.to) w → IsRunOf v c → IsRunOf w e → up_to f (cover_gap c e) ≡ true → Some f ≡ nearer_of (Some f) (least_approach (pieces (Slices (run_of v c)) (Slices (run_of w e))))
none_nearer v w c e f hv hw left right h = no_nearer f (cover_gap c e) (pieces (Slices (run_of v c)) (Slices (run_of w e))) h (gaps_bound_approaches c e (run_of v c) (run_of w e) (run_rising v c hv) (run_rising w e hw) left.covers right.covers)

-- one more piece, and one more result
piece_nearer : (o l all : Option Ratio) (m : Ratio) → nearer_of o (Some (nearest_of l m)) ≡ all → nearer_of (Some (nearest_of o m)) l ≡ all
piece_nearer None l all m e = sym (first_nearer m l) ∙ e
piece_nearer (Some a) None all m e = ap Some (smaller_swap m a) ∙ e
piece_nearer (Some a) (Some b) all m e = ap Some (ap (λ z. smaller z b) (smaller_swap m a) ∙ smaller_assoc a m b) ∙ e

or_none : (o : Option Ratio) → o ≡ nearer_of o None
or_none None = refl
or_none (Some a) = refl

module _ (left rest : List (PieceOf (Slice PlaneLine) (Slice PlaneLine))) (m : PieceOf (Slice PlaneLine) (Slice PlaneLine)) (o n all : Option Ratio) where
  pub piece_counted : left ≡ m ∷ rest → nearer_of o (least_approach (map both_move left)) ≡ all → n ≡ Some (nearest_of o (piece_approach (both_move m))) → nearer_of n (least_approach (map both_move rest)) ≡ all
  piece_counted e h k = ap (λ z. nearer_of z (least_approach (map both_move rest))) k ∙ piece_nearer o (least_approach (map both_move rest)) all (piece_approach (both_move m)) (ap (λ l. nearer_of o (least_approach (map both_move l))) (sym e) ∙ h)

pub pieces_counted : (left : List (PieceOf (Slice PlaneLine) (Slice PlaneLine))) (o all : Option Ratio) → left ≡ [] → nearer_of o (least_approach (map both_move left)) ≡ all → o ≡ all
pieces_counted left o all e h = or_none o ∙ ap (λ l. nearer_of o (least_approach (map both_move l))) (sym e) ∙ h

module _ (v w : List (Slice PlaneLine)) (left rest : List (PieceOf Cover Cover)) (m : PieceOf Cover Cover) (o r all : Option Ratio) where
  pub runs_counted : left ≡ m ∷ rest → nearer_of o (least_in v w left) ≡ all → r ≡ nearer_of o (least_on v w m) → nearer_of r (least_in v w rest) ≡ all
  runs_counted e h k = ap (λ z. nearer_of z (least_in v w rest)) k ∙ nearer_sum.assoc o (least_on v w m) (least_in v w rest) ∙ ap (λ l. nearer_of o (least_in v w l)) (sym e) ∙ h

pub all_counted : (v w : List (Slice PlaneLine)) (left : List (PieceOf Cover Cover)) (o all : Option Ratio) → left ≡ [] → nearer_of o (least_in v w left) ≡ all → o ≡ all
all_counted v w left o all e h = or_none o ∙ ap (λ l. nearer_of o (least_in v w l)) (sym e) ∙ h
