-- The spans of the slices that are true.
use Rattle.std.{specs.Prelude.{◌≡◌, Bool, true, false, cond, None, Some, List, [], ◌∷◌, ◌++◌, refl, ℕ, ◌≤◌, length}, proofs.Common.{ap, sym, ◌∙◌, append-nil, drop, true≢false}}
use Rattle.std.proofs.lemmas.List.{drop_all}
use Rattle.mob_ratio.specs.Ratio.{Ratio}
use Rattle.mob_span.{specs.Span.{SpanOf, has}, specs.Sets.{in_some}, proofs.SpanLemmas.{some_instant}, proofs.Insides.{clear_has}, proofs.Shared.{AreAllClear, all_after}}
use Rattle.mob_slice.{specs.Slices.{value_at, IsRisingInTime}, specs.Operands.{steady_value, steady_limit}, specs.declared.slice.Slice.{Slice}, specs.declared.steady.Steady.{Steady}}
use Rattle.mob_slice.proofs.Orders.{ordered-clear}
use Rattle.mob_compare.specs.Times.{is_true}

-- the spans of the slices whose value is true, in order
abbrev pub true_spans : List (Slice (Steady Bool)) → List SpanOf
true_spans [] = []
true_spans (s ∷ v) = cond s.course.value (s.span ∷ true_spans v) (true_spans v)

none_past : (q : SpanOf) (v : List (Slice (Steady Bool))) (t : Ratio) → AreAllClear (λ s. s.span) q v → has q t ≡ true → value_at steady_value v t ≡ None
none_past q [] t h k = refl
none_past q (s ∷ v) t h k = rw (clear_has q s.span t h.0 k) (none_past q v t h.1 k)

true_by : (s : SpanOf) (v : List (Slice (Steady Bool))) (t : Ratio) (b k : Bool) → has s t ≡ b → AreAllClear (λ r. r.span) s v → in_some (true_spans v) t ≡ is_true (value_at steady_value v t) → in_some (cond k (s ∷ true_spans v) (true_spans v)) t ≡ is_true (cond b (Some k) (value_at steady_value v t))
true_by s v t true true e h same = rw e refl
true_by s v t true false e h same = same ∙ ap is_true (none_past s v t h e)
true_by s v t false true e h same = rw e same
true_by s v t false false e h same = same

-- they have exactly the instants at which the value is true
pub true_at : (v : List (Slice (Steady Bool))) → IsRisingInTime steady_limit steady_limit v → (t : Ratio) → in_some (true_spans v) t ≡ is_true (value_at steady_value v t)
true_at [] h t = refl
true_at (s ∷ v) h t = true_by s.span v t (has s.span t) s.course.value refl (all_after (λ r. r.span) s v (ordered-clear steady_limit steady_limit (s ∷ v) h)) (true_at v h.2 t)

none_by : (s : Slice (Steady Bool)) (v : List (Slice (Steady Bool))) (k : Bool) → IsRisingInTime steady_limit steady_limit (s ∷ v) → (((t : Ratio) → in_some (true_spans v) t ≡ false) → true_spans v ≡ []) → ((t : Ratio) → in_some (cond k (s.span ∷ true_spans v) (true_spans v)) t ≡ false) → cond k (s.span ∷ true_spans v) (true_spans v) ≡ []
none_by s v true h f none = let m = some_instant s.span h.0.some in absurd (true≢false (sym (rw m.1 refl) ∙ none m.0))
none_by s v false h f none = f none

-- if no such instant exists, no such slice does
none_true : (v : List (Slice (Steady Bool))) → IsRisingInTime steady_limit steady_limit v → ((t : Ratio) → in_some (true_spans v) t ≡ false) → true_spans v ≡ []
none_true [] h none = refl
none_true (s ∷ v) h none = none_by s v s.course.value h (none_true v h.2) none

pub never_true : (v : List (Slice (Steady Bool))) (spans : List SpanOf) → IsRisingInTime steady_limit steady_limit v → spans ≡ true_spans v → ((t : Ratio) → is_true (value_at steady_value v t) ≡ false) → spans ≡ []
never_true v spans h e none = e ∙ none_true v h (λ t. true_at v h t ∙ none t)

pub spans_at : (v : List (Slice (Steady Bool))) (spans : List SpanOf) → IsRisingInTime steady_limit steady_limit v → spans ≡ true_spans v → (t : Ratio) → in_some spans t ≡ is_true (value_at steady_value v t)
spans_at v spans h e t = ap (λ z. in_some z t) e ∙ true_at v h t

-- at the end of the walk, all spans are taken
pub all_taken : (v w : List (Slice (Steady Bool))) (o : List SpanOf) (i : ℕ) → v ≡ w → length v ≤ i → o ++ true_spans (drop i v) ≡ true_spans v → o ≡ true_spans w
all_taken v w o i e h k =
    let none : drop i v ≡ [] = drop_all i v h in
    let all : o ++ [] ≡ true_spans v = ap (λ z. o ++ true_spans z) (sym none) ∙ k in
    sym (append-nil o) ∙ all ∙ ap true_spans e
