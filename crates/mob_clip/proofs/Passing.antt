-- The kept parts of a slice, from its start to the position of a walk.
use Rattle.std.specs.Prelude.{◌≡◌, Bool, true, false, cond, not, ◌&&◌, ◌||◌, List, [], ◌∷◌, ◌++◌, Option, Some, None, IfSome, MatchOption, Result, Ok, Err, MatchResult, refl}
use Rattle.std.{specs.List.{AllByRecursion}, proofs.lemmas.Bool.{and_parts}, proofs.Common.{arith, ap, sym, ◌∙◌, subst, true≢false, append-nil}}
use Rattle.mob_ratio.{specs.Ratio.{Ratio}, specs.Order.{before, up_to}, proofs.Order.{before-self, before-back, before-trans, before-neither}}
use Rattle.mob_frac.specs.Formula.{AllFit}
use Rattle.mob_span.{specs.Span.{SpanOf, has, has_instant}, specs.Neighbours.{is_clear, is_inside}, specs.Flags.{same_bool}, proofs.SpanLemmas.{no_instant}}
use Rattle.mob_span.proofs.Insides.{clear_inside, inside_clear, clear_has, inside_has, inside_self, inside-trans}
use Rattle.mob_plane.{specs.declared.point.Point.{Point}, specs.declared.edges.Tally.{Tally}}
use Rattle.mob_slice.{specs.Slices.{value_at, IsRisingInTime, IsSound, IsClearOf, OfHead}, specs.Pieces.{AreInside}, specs.Sides.{at_ends}, specs.Cut.{slice_value, slice_parts}}
use Rattle.mob_slice.{specs.Lines.{plane_value_of, plane_parts_of}, specs.declared.slice.Slice.{Slice}, specs.declared.line.PlaneLine.{PlaneLine}, specs.OnPiece.{AreKeptOn}}
use Rattle.mob_slice.{specs.declared.formula.Formula.{Formula}, proofs.Cuts.{all_both, all_first, all_second}, proofs.OnOnePiece.{kept_same}}
use Rattle.mob_list.{specs.declared.fault.Fault.{Fault}, specs.declared.fault.Fault.TheVariants.{NoMemory}}
use Rattle.mob_cells.specs.Restricted.{kept_value}
use Rattle.mob_clip.{specs.declared.timeline.Change.{Change}, specs.declared.timeline.Timeline.{Timeline}, specs.Timelines.{step_at, timeline_at, ChangesFit}}
use Rattle.mob_clip.specs.Pieces.{is_known_in, some_span, left_span, right_span, left_piece, right_piece, IsOnSlice, AreAllOrNothing}

-- ---- a span before and after an instant
-- t is before r, or is r if it is included
abbrev is_left : Ratio → Bool → Ratio → Bool
is_left r included t = before t r || (included && up_to t r)

left_has_by : (c : SpanOf) (r : Ratio) (i : Bool) (t : Ratio) (b : Bool) → before c.upper r ≡ b → has (cond b c (record { lower = c.lower; upper = r; lower_inc = c.lower_inc; upper_inc = i && (before r c.upper || c.upper_inc) })) t ≡ (has c t && is_left r i t)
left_has_by c r i t true e = grind (arith, e, before-trans t c.upper r, before-neither t c.upper, before-back t c.upper)
left_has_by c r i t false e = grind (arith, e, before-trans t r c.upper, before-neither r c.upper, before-neither t r, before-back t r, before-back r c.upper, before-trans c.upper t r)

left_has : (c : SpanOf) (r : Ratio) (i : Bool) (t : Ratio) → has (left_span c r i) t ≡ (has c t && is_left r i t)
left_has c r i t = left_has_by c r i t (before c.upper r) refl

right_has_by : (c : SpanOf) (r : Ratio) (i : Bool) (t : Ratio) (b : Bool) → before r c.lower ≡ b → has (cond b c (record { lower = r; upper = c.upper; lower_inc = not i && (before c.lower r || c.lower_inc); upper_inc = c.upper_inc })) t ≡ (has c t && not (is_left r i t))
right_has_by c r i t true e = grind (arith, e, before-trans r c.lower t, before-neither c.lower t, before-back c.lower t, before-back r t)
right_has_by c r i t false e = grind (arith, e, before-trans c.lower r t, before-neither r c.lower, before-neither r t, before-neither t r, before-back t r, before-back r t, before-back c.lower r, before-trans r t c.lower)

right_has : (c : SpanOf) (r : Ratio) (i : Bool) (t : Ratio) → has (right_span c r i) t ≡ (has c t && not (is_left r i t))
right_has c r i t = right_has_by c r i t (before r c.lower) refl

left_inside : (c : SpanOf) (r : Ratio) (i : Bool) → is_inside c (left_span c r i) ≡ true
left_inside c r i = by (before c.upper r) refl
  where
    by : (b : Bool) → before c.upper r ≡ b → is_inside c (cond b c (record { lower = c.lower; upper = r; lower_inc = c.lower_inc; upper_inc = i && (before r c.upper || c.upper_inc) })) ≡ true
    by true e = inside_self c
    by false e = grind (arith, e, before-self c.lower)

right_inside : (c : SpanOf) (r : Ratio) (i : Bool) → is_inside c (right_span c r i) ≡ true
right_inside c r i = by (before r c.lower) refl
  where
    by : (b : Bool) → before r c.lower ≡ b → is_inside c (cond b c (record { lower = r; upper = c.upper; lower_inc = not i && (before c.lower r || c.lower_inc); upper_inc = c.upper_inc })) ≡ true
    by true e = inside_self c
    by false e = grind (arith, e, before-self c.upper)

sides_clear : (c : SpanOf) (r : Ratio) (i : Bool) → has_instant c ≡ true → is_clear (left_span c r i) (right_span c r i) ≡ true
sides_clear c r i h = by (before c.upper r) refl (before r c.lower) refl
  where
    by : (a : Bool) → before c.upper r ≡ a → (b : Bool) → before r c.lower ≡ b → is_clear (cond a c (record { lower = c.lower; upper = r; lower_inc = c.lower_inc; upper_inc = i && (before r c.upper || c.upper_inc) })) (cond b c (record { lower = r; upper = c.upper; lower_inc = not i && (before c.lower r || c.lower_inc); upper_inc = c.upper_inc })) ≡ true
    by true e true k = absurd (true≢false (grind (arith, h, e, k, before-trans c.upper r c.lower, before-back c.lower c.upper, before-neither c.lower c.upper, before-self c.lower)))
    by true e false k = grind (arith, e)
    by false e true k = grind (arith, k)
    by false e false k = grind (arith, before-self r)

-- ---- lists of slices
abbrev pub AllBefore : SpanOf → List (Slice PlaneLine) → Type 0
AllBefore c out = AllByRecursion (λ x. is_clear x.span c ≡ true) out

order_joined : (c : SpanOf) (out v : List (Slice PlaneLine)) → IsRisingInTime (λ k. k.from) (λ k. k.to) out → AllBefore c out → AreInside c v → IsRisingInTime (λ k. k.from) (λ k. k.to) v → IsRisingInTime (λ k. k.from) (λ k. k.to) (out ++ v)
order_joined c [] v h a i k = k
order_joined c (x ∷ out) v h a i k = (h.0, head out h.1, order_joined c out v h.2 a.1 i k)
  where
    first : (v : List (Slice PlaneLine)) → AreInside c v → OfHead IsClearOf x v
    first [] i = tt
    first (y ∷ v) i = clear_inside x.span c y.span a.0 i.0

    head : (out : List (Slice PlaneLine)) → OfHead IsClearOf x out → OfHead IsClearOf x (out ++ v)
    head [] q = first v i
    head (y ∷ out) q = q

inside_joined : (s c : SpanOf) (out v : List (Slice PlaneLine)) → AreInside s out → is_inside s c ≡ true → AreInside c v → AreInside s (out ++ v)
inside_joined s c [] v h i k = all v k
  where
    all : (v : List (Slice PlaneLine)) → AreInside c v → AreInside s v
    all [] k = tt
    all (y ∷ v) k = (inside-trans s c y.span i k.0, all v k.1)
inside_joined s c (x ∷ out) v h i k = (h.0, inside_joined s c out v h.1 i k)

before_joined : (c d : SpanOf) (out v : List (Slice PlaneLine)) → AllBefore d out → is_clear c d ≡ true → AreInside c v → AllBefore d (out ++ v)
before_joined c d [] v h i k = all v k
  where
    all : (v : List (Slice PlaneLine)) → AreInside c v → AllBefore d v
    all [] k = tt
    all (y ∷ v) k = (inside_clear c d y.span k.0 i, all v k.1)
before_joined c d (x ∷ out) v h i k = (h.0, before_joined c d out v h.1 i k)

before_part : (c d : SpanOf) (out : List (Slice PlaneLine)) → is_inside c d ≡ true → AllBefore c out → AllBefore d out
before_part c d [] i h = tt
before_part c d (x ∷ out) i h = (clear_inside x.span c d h.0 i, before_part c d out i h.1)

not_yet : (c : SpanOf) (x : SpanOf) (t : Ratio) → is_clear x c ≡ true → has c t ≡ true → (b : Bool) → has x t ≡ b → b ≡ false
not_yet c x t h k true e = absurd (true≢false (sym k ∙ clear_has x c t h e))
not_yet c x t h k false e = refl

-- at an instant after the first slices, the value is that of the others
value_behind : (c : SpanOf) (out v : List (Slice PlaneLine)) (t : Ratio) → AllBefore c out → has c t ≡ true → value_at plane_value_of (out ++ v) t ≡ value_at plane_value_of v t
value_behind c [] v t h k = refl
value_behind c (x ∷ out) v t h k = rw (not_yet c x.span t h.0 k (has x.span t) refl) (value_behind c out v t h.1 k)

no_value : (c : SpanOf) (v : List (Slice PlaneLine)) (t : Ratio) → AreInside c v → has c t ≡ false → value_at plane_value_of v t ≡ None
no_value c [] t h k = refl
no_value c (x ∷ v) t h k = rw (inside_has c x.span t h.0 k) (no_value c v t h.1 k)

value_front : (out v : List (Slice PlaneLine)) (t : Ratio) → value_at plane_value_of v t ≡ None → value_at plane_value_of (out ++ v) t ≡ value_at plane_value_of out t
value_front [] v t h = h
value_front (x ∷ out) v t h = ap (λ o. cond (has x.span t) (Some (plane_value_of x.course x.span.lower x.span.upper t)) o) (value_front out v t h)

-- ---- a piece
abbrev pub has_piece : Option SpanOf → Ratio → Bool
has_piece None t = false
has_piece (Some c) t = has c t

some_has : (c : SpanOf) (t : Ratio) → has_piece (some_span c) t ≡ has c t
some_has c t = by (has_instant c) refl
  where
    by : (b : Bool) → has_instant c ≡ b → has_piece (cond b (Some c) None) t ≡ has c t
    by true e = refl
    by false e = sym (no_instant c t e)

-- the span that the code makes from m, if m has an instant
pub some_made : (m r : SpanOf) (o : Option SpanOf) → m ≡ r → IfSome o (λ p. p ≡ m) → MatchOption o (has_instant m ≡ false) (λ p. has_instant p ≡ true) → o ≡ some_span r
some_made m r None e i h = let k : has_instant r ≡ false = subst (λ z. has_instant z ≡ false) e h in rw k refl
some_made m r (Some p) e i h = let k : has_instant r ≡ true = subst (λ z. has_instant z ≡ true) (i ∙ e) h in rw k (ap Some (i ∙ e))

module _ (s : Slice PlaneLine) where
  abbrev parts : Ratio → List Ratio
  parts t = slice_parts plane_parts_of s t

  left_fits : (c : SpanOf) (r : Ratio) (i : Bool) → AllFit (at_ends parts c) → AllFit (parts r) → AllFit (at_ends parts (left_span c r i))
  left_fits c r i h k = by (before c.upper r)
    where
      by : (b : Bool) → AllFit (at_ends parts (cond b c (record { lower = c.lower; upper = r; lower_inc = c.lower_inc; upper_inc = i && (before r c.upper || c.upper_inc) })))
      by true = h
      by false = all_both (parts c.lower) (parts r) (all_first (parts c.lower) (parts c.upper) h) k

  right_fits : (c : SpanOf) (r : Ratio) (i : Bool) → AllFit (at_ends parts c) → AllFit (parts r) → AllFit (at_ends parts (right_span c r i))
  right_fits c r i h k = by (before r c.lower)
    where
      by : (b : Bool) → AllFit (at_ends parts (cond b c (record { lower = r; upper = c.upper; lower_inc = not i && (before c.lower r || c.lower_inc); upper_inc = c.upper_inc })))
      by true = h
      by false = all_both (parts r) (parts c.upper) k (all_second (parts c.lower) (parts c.upper) h)

  some_holds : (c : SpanOf) → is_inside s.span c ≡ true → AllFit (at_ends parts c) → IsOnSlice s (some_span c)
  some_holds c h k = by (has_instant c)
    where
      by : (b : Bool) → IsOnSlice s (cond b (Some c) None)
      by true = (h, k)
      by false = tt

  pub left_holds : (c : SpanOf) (r : Ratio) (i : Bool) → IsOnSlice s (Some c) → AllFit (parts r) → IsOnSlice s (some_span (left_span c r i))
  left_holds c r i h k = some_holds (left_span c r i) (inside-trans s.span c (left_span c r i) h.0 (left_inside c r i)) (left_fits c r i h.1 k)

  pub right_holds : (c : SpanOf) (r : Ratio) (i : Bool) → IsOnSlice s (Some c) → AllFit (parts r) → IsOnSlice s (some_span (right_span c r i))
  right_holds c r i h k = some_holds (right_span c r i) (inside-trans s.span c (right_span c r i) h.0 (right_inside c r i)) (right_fits c r i h.1 k)

  pub rest_holds : (rest : Option SpanOf) (r : Ratio) (i : Bool) → IsOnSlice s rest → AllFit (parts r) → IsOnSlice s (right_piece rest r i)
  rest_holds None r i h k = tt
  rest_holds (Some c) r i h k = right_holds c r i h k

  -- the slices have the values f at each instant of s that is not in the piece, and come before the
  -- piece
  pub record IsLeft (f : Ratio → Option Point) (rest : Option SpanOf) (out : List (Slice PlaneLine)) : Type 0 where
    pub ordered : IsRisingInTime (λ k. k.from) (λ k. k.to) out
    pub inside : AreInside s.span out
    pub ahead : MatchOption rest (Unit {0}) (λ c. (has_instant c ≡ true) × AllBefore c out)
    pub holds : IsOnSlice s rest
    pub values : (t : Ratio) → has s.span t ≡ true → has_piece rest t ≡ false → value_at plane_value_of out t ≡ f t

  module _ (f : Ratio → Option Point) where
    pub left_start : IsSound (λ k. k.from) (λ k. k.to) s → AllFit (at_ends parts s.span) → IsLeft f (Some s.span) []
    left_start h k = record { ordered = tt; inside = tt; ahead = (h.some, tt); holds = (inside_self s.span, k); values = λ t i n. absurd (true≢false (sym i ∙ n)) }

    -- all of a piece, or nothing, has the values f there
    some_kept : (keeps : Bool) (c : SpanOf) (v : List (Slice PlaneLine)) → AreAllOrNothing s keeps (some_span c) v → ((t : Ratio) → has_piece (some_span c) t ≡ true → cond keeps (Some (slice_value plane_value_of s t)) None ≡ f t) → AreKeptOn plane_value_of (λ k. k.from) (λ k. k.to) f c v
    some_kept keeps c v h k = by (has_instant c) refl h k
      where
        by : (b : Bool) → has_instant c ≡ b → AreAllOrNothing s keeps (cond b (Some c) None) v → ((t : Ratio) → has_piece (cond b (Some c) None) t ≡ true → cond keeps (Some (slice_value plane_value_of s t)) None ≡ f t) → AreKeptOn plane_value_of (λ k. k.from) (λ k. k.to) f c v
        by true e h k = kept_same plane_value_of (λ k. k.from) (λ k. k.to) (λ t. cond keeps (Some (slice_value plane_value_of s t)) None) f c v k h
        by false e h k = rw h (record { ordered = tt; inside = tt; values = λ t i. absurd (true≢false (sym i ∙ no_instant c t e)) })

    in_left : (a b : Bool) → (a && not b) ≡ false → a ≡ true → (a && b) ≡ true
    in_left true true h k = refl
    in_left true false h k = absurd (true≢false h)
    in_left false b h k = absurd (true≢false (sym k))

    not_left : (a b : Bool) → a ≡ false → (a && b) ≡ false
    not_left true b h = absurd (true≢false h)
    not_left false b h = refl

    passed_some : (c : SpanOf) (r : Ratio) (i : Bool) (out v : List (Slice PlaneLine)) → AllFit (parts r) → AreKeptOn plane_value_of (λ k. k.from) (λ k. k.to) f (left_span c r i) v → IsLeft f (Some c) out → IsLeft f (some_span (right_span c r i)) (out ++ v)
    passed_some c r i out v k w m = record {
      ordered = order_joined (left_span c r i) out v m.ordered (before_part c (left_span c r i) out (left_inside c r i) m.ahead.1) w.inside w.ordered;
      inside = inside_joined s.span (left_span c r i) out v m.inside (inside-trans s.span c (left_span c r i) m.holds.0 (left_inside c r i)) w.inside;
      ahead = ahead (has_instant (right_span c r i)) refl;
      holds = right_holds c r i m.holds k;
      values = λ t h n. at t h (sym (some_has (right_span c r i) t) ∙ n) (has c t) refl;
    }
      where
        ahead : (b : Bool) → has_instant (right_span c r i) ≡ b → MatchOption (cond b (Some (right_span c r i)) None) (Unit {0}) (λ d. (has_instant d ≡ true) × AllBefore d (out ++ v))
        ahead true e = (e, before_joined (left_span c r i) (right_span c r i) out v (before_part c (right_span c r i) out (right_inside c r i) m.ahead.1) (sides_clear c r i m.ahead.0) w.inside)
        ahead false e = tt

        at : (t : Ratio) → has s.span t ≡ true → has (right_span c r i) t ≡ false → (b : Bool) → has c t ≡ b → value_at plane_value_of (out ++ v) t ≡ f t
        at t h n true e = value_behind c out v t m.ahead.1 e ∙ w.values t (left_has c r i t ∙ in_left (has c t) (is_left r i t) (sym (right_has c r i t) ∙ n) e)
        at t h n false e = value_front out v t (no_value (left_span c r i) v t w.inside (left_has c r i t ∙ not_left (has c t) (is_left r i t) e)) ∙ m.values t h e

    pub passed : (rest rest' : Option SpanOf) (r : Ratio) (i keeps : Bool) (out out' v : List (Slice PlaneLine)) → AllFit (parts r) → rest' ≡ right_piece rest r i → out' ≡ out ++ v → AreAllOrNothing s keeps (left_piece rest r i) v → ((t : Ratio) → has_piece (left_piece rest r i) t ≡ true → cond keeps (Some (slice_value plane_value_of s t)) None ≡ f t) → IsLeft f rest out → IsLeft f rest' out'
    passed None rest' r i keeps out out' v k e n h g m = rw (e, n, h, append-nil out) m
    passed (Some c) rest' r i keeps out out' v k e n h g m = rw (e, n) (passed_some c r i out v k (some_kept keeps (left_span c r i) v h g) m)

    pub finished : (rest : Option SpanOf) (keeps : Bool) (out all v : List (Slice PlaneLine)) → all ≡ out ++ v → AreAllOrNothing s keeps rest v → ((t : Ratio) → has_piece rest t ≡ true → cond keeps (Some (slice_value plane_value_of s t)) None ≡ f t) → IsLeft f rest out → AreKeptOn plane_value_of (λ k. k.from) (λ k. k.to) f s.span all
    finished None keeps out all v n h g m = rw (n, h, append-nil out) (record { ordered = m.ordered; inside = m.inside; values = λ t i. m.values t i refl })
    finished (Some c) keeps out all v n h g m = rw n (record {
      ordered = order_joined c out v m.ordered m.ahead.1 h.inside h.ordered;
      inside = inside_joined s.span c out v m.inside m.holds.0 h.inside;
      values = λ t i. at t i (has c t) refl;
    })
      where
        at : (t : Ratio) → has s.span t ≡ true → (b : Bool) → has c t ≡ b → value_at plane_value_of (out ++ v) t ≡ f t
        at t i true e = value_behind c out v t m.ahead.1 e ∙ h.values t e ∙ g t e
        at t i false e = value_front out v t (no_value c v t h.inside e) ∙ m.values t i e

-- ---- along a walk
module _ (s : Slice PlaneLine) (want : Bool) (steps : Timeline Tally) where
  abbrev pub wanted : Ratio → Option Point
  wanted t = kept_value want (is_known_in (timeline_at steps t)) (slice_value plane_value_of s t)

  -- the parts kept so far, and the tally on the rest
  pub record IsPassing (rest : Option SpanOf) (now : Tally) (later : List (Change Tally)) (out : List (Slice PlaneLine)) : Type 0 where
    pub left : IsLeft s wanted rest out
    pub same : (t : Ratio) → has_piece rest t ≡ true → timeline_at steps t ≡ step_at now later t
    pub fits : ChangesFit (slice_parts plane_parts_of s) later

  pub passing_start : IsSound (λ k. k.from) (λ k. k.to) s → AllFit (at_ends (slice_parts plane_parts_of s) s.span) → ChangesFit (slice_parts plane_parts_of s) steps.changes.items → IsPassing (Some s.span) steps.first steps.changes.items []
  passing_start h k l = record { left = left_start s wanted h k; same = λ t i. refl; fits = l }

  keeps_is : (keeps : Bool) (tally : Tally) (t : Ratio) → keeps ≡ same_bool want (is_known_in tally) → timeline_at steps t ≡ tally → cond keeps (Some (slice_value plane_value_of s t)) None ≡ wanted t
  keeps_is keeps tally t e h = ap (λ b. cond b (Some (slice_value plane_value_of s t)) None) (e ∙ ap (λ z. same_bool want (is_known_in z)) (sym h))

  left_of : (rest : Option SpanOf) (r : Ratio) (i : Bool) (t : Ratio) → has_piece (left_piece rest r i) t ≡ true → (has_piece rest t ≡ true) × (is_left r i t ≡ true)
  left_of None r i t h = absurd (true≢false (sym h))
  left_of (Some c) r i t h = and_parts (has c t) (is_left r i t) (sym (left_has c r i t) ∙ sym (some_has (left_span c r i) t) ∙ h)

  right_of : (rest : Option SpanOf) (r : Ratio) (i : Bool) (t : Ratio) → has_piece (right_piece rest r i) t ≡ true → (has_piece rest t ≡ true) × (not (is_left r i t) ≡ true)
  right_of None r i t h = absurd (true≢false (sym h))
  right_of (Some c) r i t h = and_parts (has c t) (not (is_left r i t)) (sym (right_has c r i t) ∙ sym (some_has (right_span c r i) t) ∙ h)

  is_front : (r t : Ratio) → is_left r false t ≡ true → before t r ≡ true
  is_front r t h = grind (arith, h)

  is_there : (r t : Ratio) → not (is_left r false t) ≡ true → is_left r true t ≡ true → (before t r ≡ false) × (before r t ≡ false)
  is_there r t h k = (grind (arith, h), grind (arith, h, k))

  is_behind : (r t : Ratio) → not (is_left r true t) ≡ true → (before t r ≡ false) × (before r t ≡ true)
  is_behind r t h = (grind (arith, h), grind (arith, h))

  -- past a change: the part before it, its instant, and the part after it
  pub passing_step : (rest rest' rest'' : Option SpanOf) (now : Tally) (later later' : List (Change Tally)) (c : Change Tally) (front there : Bool) (out out' out'' v w : List (Slice PlaneLine)) → later ≡ c ∷ later'
      → front ≡ same_bool want (is_known_in now) → rest' ≡ right_piece rest c.at false → out' ≡ out ++ v → AreAllOrNothing s front (left_piece rest c.at false) v
      → there ≡ same_bool want (is_known_in c.there) → rest'' ≡ right_piece rest' c.at true → out'' ≡ out' ++ w → AreAllOrNothing s there (left_piece rest' c.at true) w
      → IsPassing rest now later out → IsPassing rest'' c.after later' out''
  passing_step rest rest' rest'' now later later' c front there out out' out'' v w e kf rf nf hf kt rt nt ht m =
      let fits = subst (ChangesFit (slice_parts plane_parts_of s)) e m.fits in
      let same : (t : Ratio) → has_piece rest t ≡ true → timeline_at steps t ≡ step_at now (c ∷ later') t = λ t i. m.same t i ∙ ap (λ z. step_at now z t) e in
      let in_rest : (t : Ratio) → has_piece rest' t ≡ true → (has_piece rest t ≡ true) × (not (is_left c.at false t) ≡ true) = λ t i. right_of rest c.at false t (sym (ap (λ z. has_piece z t) rf) ∙ i) in
      let first = passed s wanted rest rest' c.at false front out out' v fits.0 rf nf hf (λ t i. let q = left_of rest c.at false t i in keeps_is front now t kf (same t q.0 ∙ rw (is_front c.at t q.1) refl)) m.left in
      record {
        left = passed s wanted rest' rest'' c.at true there out' out'' w fits.0 rt nt ht (λ t i. let q = left_of rest' c.at true t i in let p = in_rest t q.0 in keeps_is there c.there t kt (same t p.0 ∙ (let b = is_there c.at t p.1 q.1 in rw (b.0, b.1) refl))) first;
        same = λ t i. let q = right_of rest' c.at true t (sym (ap (λ z. has_piece z t) rt) ∙ i) in let p = in_rest t q.0 in same t p.0 ∙ (let b = is_behind c.at t q.1 in rw (b.0, b.1) refl);
        fits = fits.1;
      }

  pub passing_end : (rest : Option SpanOf) (now : Tally) (later : List (Change Tally)) (keeps : Bool) (out all v : List (Slice PlaneLine)) → later ≡ [] → keeps ≡ same_bool want (is_known_in now) → all ≡ out ++ v → AreAllOrNothing s keeps rest v → IsPassing rest now later out → AreKeptOn plane_value_of (λ k. k.from) (λ k. k.to) wanted s.span all
  passing_end rest now later keeps out all v e k n h m = finished s wanted rest keeps out all v n h (λ t i. keeps_is keeps now t k (m.same t i ∙ ap (λ z. step_at now z t) e)) m.left

  pub passing_ends : {V : Type 0} (items : V → List (Slice PlaneLine)) (result : Result V (Fault Formula)) (rest : Option SpanOf) (now : Tally) (later : List (Change Tally)) (keeps : Bool) (out : List (Slice PlaneLine)) → later ≡ [] → keeps ≡ same_bool want (is_known_in now) → IsPassing rest now later out
      → MatchResult result (λ all. (v : List (Slice PlaneLine)) × (items all ≡ out ++ v) × AreAllOrNothing s keeps rest v) (λ e. e ≡ NoMemory) → MatchResult result (λ all. AreKeptOn plane_value_of (λ k. k.from) (λ k. k.to) wanted s.span (items all)) (λ e. e ≡ NoMemory)
  passing_ends items (Ok all) rest now later keeps out e k m h = passing_end rest now later keeps out (items all) h.0 e k h.1 h.2 m
  passing_ends items (Err f) rest now later keeps out e k m h = h
