-- The aggregate of two concatenated lists is that of the two aggregates.
use Rattle.std.{specs.Prelude.{◌≡◌, Bool, true, false, cond, ◌&&◌, ◌||◌, ◌+◌, pos, refl, List, [], ◌∷◌, ◌++◌, length, Option, Some, None, option_map}, proofs.Common.{ap, sym, ◌∙◌, arith, append-nil}}
use Rattle.mob_slice.{specs.Cut.{slice_value}, specs.Slices.{value_at, IsNormal}, specs.declared.slice.Slice.{Slice}, proofs.Options.{none_some}}
use Rattle.mob_ratio.{specs.Ratio.{Ratio, whole, ◌+ℚ◌}, proofs.Field.{add_assoc}, proofs.Rings.{whole-add}, proofs.Clear.{clear1, cleared}, proofs.IntRing.{linear}}
use Rattle.mob_span.proofs.SpanLemmas.{some_instant}
use Rattle.mob_lift.specs.OneNormal.{OneNormal}
use Rattle.mob_tagg.{specs.United.{united_by, AreUnited}, specs.Aggregates.{put_there, values_at, made_of, IsAggregate, JoinsBy, total, count, all_hold, some_holds}}

module _ {B Z : Type 0} (op : Z → Z → Z) (f : List B → Z) (joins : JoinsBy op f) where
  pub made_both : (xs ys : List B) → made_of f (xs ++ ys) ≡ united_by op (made_of f xs) (made_of f ys)
  made_both [] ys = refl
  made_both (x ∷ xs) [] = ap (made_of f) (append-nil (x ∷ xs))
  made_both (x ∷ xs) (y ∷ ys) = ap Some (joins x xs y ys)

pub values_both : {V B : Type 0} (there : V → Ratio → Option B) (vs ws : List V) (t : Ratio) → values_at there (vs ++ ws) t ≡ values_at there vs t ++ values_at there ws t
values_both there [] ws t = refl
values_both {V} {B} there (v ∷ vs) ws t = ap (put_there (there v t)) (values_both there vs ws t) ∙ by (there v t)
  where
    by : (o : Option B) → put_there o (values_at there vs t ++ values_at there ws t) ≡ put_there o (values_at there vs t) ++ values_at there ws t
    by None = refl
    by (Some x) = refl

module _ {V B D Z : Type 0} (there : V → Ratio → Option B) (result : D → Ratio → Ratio → Ratio → Z) (start end : D → Z) (continues : D → D → Ratio → Ratio → Ratio → Bool) (f : List B → Z) where
  abbrev Of : List V → Option (List (Slice D)) → Type 0
  Of vs r = IsAggregate there result start end continues f vs r

  -- one value
  pub aggregate_one : (v : V) (w : List (Slice D)) → IsNormal start end continues w → ((t : Ratio) → value_at result w t ≡ option_map (λ x. f (x ∷ [])) (there v t)) → Of (v ∷ []) (Some w)
  aggregate_one v w n e = (n, λ t. e t ∙ by (there v t))
    where
      by : (o : Option B) → option_map (λ x. f (x ∷ [])) o ≡ made_of f (put_there o [])
      by None = refl
      by (Some x) = refl

  -- Two lists: their aggregates united by the operation are the aggregate of both. A fold is the
  -- case of a single value in the second list; any tree works too.
  pub aggregate_both : (op : Z → Z → Z) → JoinsBy op f → (vs ws : List V) (r s u : List (Slice D)) → Of vs (Some r) → Of ws (Some s) → IsNormal start end continues u → AreUnited result op r s u → Of (vs ++ ws) (Some u)
  aggregate_both op joins vs ws r s u h k n e = (n, λ t. e t ∙ ap (λ z. united_by op z (value_at result s t)) (h.1 t) ∙ ap (λ z. united_by op (made_of f (values_at there vs t)) z) (k.1 t) ∙ sym (made_both op f joins (values_at there vs t) (values_at there ws t)) ∙ ap (made_of f) (sym (values_both there vs ws t)))

  -- values that are undefined at every instant add nothing
  pub aggregate_same : (vs ws : List V) (r : Option (List (Slice D))) → ((t : Ratio) → values_at there ws t ≡ []) → Of vs r → Of (vs ++ ws) r
  aggregate_same vs ws None e h = λ t. values_both there vs ws t ∙ ap (λ z. z ++ values_at there ws t) (h t) ∙ e t
  aggregate_same vs ws (Some r) e h = (h.0, λ t. h.1 t ∙ ap (made_of f) (sym (values_both there vs ws t ∙ ap (λ z. values_at there vs t ++ z) (e t) ∙ append-nil (values_at there vs t))))

  -- the first values that are defined somewhere
  pub aggregate_first : (vs ws : List V) (r : Option (List (Slice D))) → ((t : Ratio) → values_at there vs t ≡ []) → Of ws r → Of (vs ++ ws) r
  aggregate_first vs ws None e h = λ t. values_both there vs ws t ∙ ap (λ z. z ++ values_at there ws t) (e t) ∙ h t
  aggregate_first vs ws (Some r) e h = (h.0, λ t. h.1 t ∙ ap (made_of f) (sym (values_both there vs ws t ∙ ap (λ z. z ++ values_at there ws t) (e t))))

  none_here : (vs : List V) (r : List (Slice D)) → ((t : Ratio) → values_at there vs t ≡ []) → Of vs (Some r) → ⊥
  none_here vs [] e h = h.0.some refl
  none_here vs (s ∷ r) e h =
      let i = some_instant s.span h.0.chained.0.some in
      none_some (slice_value result s i.0) (sym (ap (made_of f) (e i.0)) ∙ sym (h.1 i.0) ∙ ap (λ b. cond b (Some (slice_value result s i.0)) (value_at result r i.0)) i.1)

  -- a list has one aggregate, or none
  pub one_aggregate : OneNormal result start end continues → (vs : List V) (r s : Option (List (Slice D))) → Of vs r → Of vs s → r ≡ s
  one_aggregate unique vs None None h k = refl
  one_aggregate unique vs None (Some s) h k = absurd (none_here vs s h k)
  one_aggregate unique vs (Some r) None h k = absurd (none_here vs r k h)
  one_aggregate unique vs (Some r) (Some s) h k = ap Some (unique r s h.0 k.0 (λ t. h.1 t ∙ sym (k.1 t)))

all_hold_both : (xs ys : List Bool) → all_hold (xs ++ ys) ≡ (all_hold xs && all_hold ys)
all_hold_both [] ys = refl
all_hold_both (x ∷ xs) ys = ap (λ b. x && b) (all_hold_both xs ys) ∙ by x
  where
    by : (a : Bool) → (a && (all_hold xs && all_hold ys)) ≡ ((a && all_hold xs) && all_hold ys)
    by true = refl
    by false = refl

pub all_joins : JoinsBy (λ a b. a && b) all_hold
all_joins x xs y ys = all_hold_both (x ∷ xs) (y ∷ ys)

some_holds_both : (xs ys : List Bool) → some_holds (xs ++ ys) ≡ (some_holds xs || some_holds ys)
some_holds_both [] ys = refl
some_holds_both (x ∷ xs) ys = ap (λ b. x || b) (some_holds_both xs ys) ∙ by x
  where
    by : (a : Bool) → (a || (some_holds xs || some_holds ys)) ≡ ((a || some_holds xs) || some_holds ys)
    by true = refl
    by false = refl

pub some_joins : JoinsBy (λ a b. a || b) some_holds
some_joins x xs y ys = some_holds_both (x ∷ xs) (y ∷ ys)

nothing_added : (a : Ratio) → whole (pos 0) +ℚ a ≡ a
nothing_added = clear1 _ (λ D a p. simp cleared (omega (arith, linear)))

total_both : (x : Ratio) (xs ys : List Ratio) → total ((x ∷ xs) ++ ys) ≡ total (x ∷ xs) +ℚ total ys
total_both x [] ys = ap (λ z. x +ℚ z) (sym (nothing_added (total ys))) ∙ sym (add_assoc x (whole (pos 0)) (total ys))
total_both x (y ∷ xs) ys = ap (λ z. x +ℚ z) (total_both y xs ys) ∙ sym (add_assoc x (total (y ∷ xs)) (total ys))

pub total_joins : JoinsBy (λ a b. a +ℚ b) total
total_joins x xs y ys = total_both x xs (y ∷ ys)

count_length : {B : Type 0} (xs ys : List B) → length (xs ++ ys) ≡ length xs + length ys
count_length [] ys = omega arith
count_length (x ∷ xs) ys = let e = count_length xs ys in omega (arith, e)

pub count_joins : {B : Type 0} → JoinsBy {B = B} (λ a b. a +ℚ b) count
count_joins x xs y ys = ap (λ n. whole (pos n)) (count_length (x ∷ xs) (y ∷ ys)) ∙ whole-add (pos (length (x ∷ xs))) (pos (length (y ∷ ys)))
