-- Binary search for the slice at an instant: the slices that end before it come first, and none
-- after the next one has it.
use Rattle.std.{specs.Prelude.{◌≡◌, Bool, true, false, cond, List, [], ◌∷◌, Some, None, ℕ, zero, suc, ◌<◌, length, slice_index_or, refl}, specs.List.{AllWithin}}
use Rattle.std.{specs.List.Sorted.{IsPartitionedBy, IsPartitionPoint}, proofs.Common.{arith, ap, sym, ◌∙◌, subst, true≢false}}
use Rattle.mob_ratio.{specs.Ratio.{Ratio}, proofs.Order.{before-self, before-back, before-trans, before-neither}}
use Rattle.mob_span.{specs.Span.{SpanOf, has, has_instant}, specs.Neighbours.{is_clear}, specs.Remainders.{follows}, proofs.Shared.{AreAllClear, all_after}}
use Rattle.mob_slice.{specs.Instants.{slice_at}, specs.Slices.{IsRisingInTime}, specs.declared.slice.Slice.{Slice}, proofs.Orders.{ordered-clear}}

-- a span that ends before t does not include it
past_has : (s : SpanOf) (t : Ratio) → follows t s ≡ true → has s t ≡ false
past_has s t h = grind (arith, h, before-back s.upper t)

-- a span that is clear of one that has t ends before t
pub clear_past : (s r : SpanOf) (t : Ratio) → is_clear s r ≡ true → has r t ≡ true → follows t s ≡ true
clear_past s r t h k = grind (arith, h, k, before-trans s.upper r.lower t, before-neither s.upper r.lower, before-neither r.lower t, before-self t, before-self s.upper, before-back r.lower t, before-back s.upper r.lower)

-- and so does a span that is clear of one that ends before t
past_past : (s r : SpanOf) (t : Ratio) → is_clear s r ≡ true → has_instant r ≡ true → follows t r ≡ true → follows t s ≡ true
past_past s r t h i k = grind (arith, h, i, k, before-trans s.upper r.lower r.upper, before-trans s.upper r.upper t, before-trans s.upper r.lower t, before-trans r.lower r.upper t, before-neither s.upper r.lower, before-neither r.lower r.upper, before-neither r.upper t, before-back s.upper r.lower, before-back r.upper t)

module _ {C B : Type 0} (start end : C → B) (t : Ratio) where
  none_by : (q : SpanOf) (r : Slice C) (v : List (Slice C)) (b : Bool) → is_clear q r.span ≡ true → follows t q ≡ false → has r.span t ≡ b → slice_at v t ≡ None → cond b (Some r) (slice_at v t) ≡ None
  none_by q r v true a h k n = absurd (true≢false (sym (clear_past q r.span t a k) ∙ h))
  none_by q r v false a h k n = n

  -- after a slice that does not end before t, no slice has t
  none_behind : (q : SpanOf) (v : List (Slice C)) → AreAllClear (λ (z : Slice C). z.span) q v → follows t q ≡ false → slice_at v t ≡ None
  none_behind q [] a h = refl
  none_behind q (r ∷ v) a h = none_by q r v (has r.span t) a.0 h refl (none_behind q v a.1 h)

  -- the first slice that does not end before t is the one at t, if any is
  pub at_point : (v : List (Slice C)) (k : ℕ) (d : Slice C) → IsRisingInTime start end v → AllWithin (λ (s : Slice C). follows t s.span ≡ true) v 0 k → follows t (slice_index_or v k d).span ≡ false → k < length v → slice_at v t ≡ cond (has (slice_index_or v k d).span t) (Some (slice_index_or v k d)) None
  at_point [] k d o h n l = absurd (omega arith)
  at_point (s ∷ v) zero d o h n l = ap (λ z. cond (has s.span t) (Some s) z) (none_behind s.span v (all_after (λ (z : Slice C). z.span) s v (ordered-clear start end (s ∷ v) o)) n)
  at_point (s ∷ v) (suc k) d o h n l = rw (past_has s.span t (h 0 d (omega arith) (omega arith))) (at_point v k d o.2 (λ i e a b. h (suc i) e (omega arith) (omega arith)) n (omega arith))

  -- if all slices end before t, none has it
  pub all_past : (v : List (Slice C)) → AllWithin (λ (s : Slice C). follows t s.span ≡ true) v 0 (length v) → slice_at v t ≡ None
  all_past [] h = refl
  all_past (s ∷ v) h = rw (past_has s.span t (h 0 s (omega arith) (omega arith))) (all_past v (λ i e a b. h (suc i) e (omega arith) (omega arith)))

  past_first : (q : SpanOf) (v : List (Slice C)) → AreAllClear (λ (z : Slice C). z.span) q v → IsRisingInTime start end v → (j : ℕ) (d : Slice C) → j < length v → follows t (slice_index_or v j d).span ≡ true → follows t q ≡ true
  past_first q [] a o j d l p = absurd (omega arith)
  past_first q (r ∷ v) a o zero d l p = past_past q r.span t a.0 o.0.some p
  past_first q (r ∷ v) a o (suc j) d l p = past_first q v a.1 o.2 j d (omega arith) p

  -- the slices that end before t come first
  pub parted : (v : List (Slice C)) → IsRisingInTime start end v → IsPartitionedBy (λ (s : Slice C). follows t s.span) v
  parted [] o i j d a b p = absurd (omega arith)
  parted (s ∷ v) o zero zero d a b p = p
  parted (s ∷ v) o zero (suc j) d a b p = past_first s.span v (all_after (λ (z : Slice C). z.span) s v (ordered-clear start end (s ∷ v) o)) o.2 j d (omega arith) p
  parted (s ∷ v) o (suc i) zero d a b p = absurd (omega arith)
  parted (s ∷ v) o (suc i) (suc j) d a b p = parted v o.2 i j d (omega arith) (omega arith) p

  -- the result after the slices that end before t: none at the end of the list, or else the next
  -- slice if it has t
  pub at_end : (v w : List (Slice C)) (k : ℕ) → w ≡ v → k ≡ length w → IsPartitionPoint (λ (s : Slice C). follows t s.span ≡ true) (λ (s : Slice C). follows t s.span ≡ false) w k → slice_at v t ≡ None
  at_end v w k e f h = ap (λ z. slice_at z t) (sym e) ∙ all_past w (subst (λ n. AllWithin (λ (s : Slice C). follows t s.span ≡ true) w 0 n) f h.0)

  pub at_next : (v w : List (Slice C)) (k : ℕ) (s : Slice C) (b : Bool) → w ≡ v → IsRisingInTime start end w → k < length w → IsPartitionPoint (λ (s : Slice C). follows t s.span ≡ true) (λ (s : Slice C). follows t s.span ≡ false) w k → slice_index_or w k s ≡ s → has s.span t ≡ b → slice_at v t ≡ cond b (Some s) None
  at_next v w k s b e o l h i f =
      ap (λ z. slice_at z t) (sym e)
      ∙ at_point w k s o h.0 (h.1 k s (omega arith) l) l
      ∙ ap (λ (z : Slice C). cond (has z.span t) (Some z) None) i
      ∙ ap (λ (c : Bool). cond c (Some s) None) f
