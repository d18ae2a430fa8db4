-- No count of a list of fewer than 2^62 values overflows.
use Rattle.std.{specs.Prelude.{◌≡◌, ◌+◌, ◌<◌, ◌≤◌, ◌^◌, Bool, true, false, cond, not, ℕ, pos, refl, List, [], ◌∷◌, map, filter, length, Option, Some, None}, specs.List.{AllByRecursion, flat_map}}
use Rattle.std.{proofs.Common.{ap, sym, ◌∙◌, subst, inl, arith}, proofs.lemmas.Option.{none-some, same_Some}}
use Rattle.mob_list.proofs.Each.{each_both}
use Rattle.mob_ratio.{specs.Ratio.{Ratio, whole, ◌+ℚ◌}, specs.Order.{same}, proofs.Rings.{whole-add}}
use Rattle.mob_frac.{specs.Fits.{Fits}, specs.Formula.{sum_parts}}
use Rattle.mob_span.{specs.Span.{has, has_instant}, specs.Meet.{meet_of}, specs.Meets.{PieceOf, shared_pieces}, proofs.Shared.{AreAllClear, all_after}, proofs.SpanLemmas.{some_instant}}
use Rattle.mob_slice.{specs.CourseOf.{steady_course}, specs.Entries.{IsFirst}, specs.Operands.{steady_value, steady_limit, steady_parts}, specs.Sides.{pieces, Slices, Moves}}
use Rattle.mob_slice.{specs.Slices.{value_at, IsRisingInTime}, specs.declared.slice.Slice.{Slice}, specs.declared.steady.Steady.{Steady}, proofs.Orders.{ordered, ordered-clear}}
use Rattle.mob_arith.{specs.Termwise.{entries_at_ends}, specs.declared.sql.calculation.Calculation.TheVariants.{Sum as Added}, specs.Sql.Entries.{arithmetic_entries}}
use Rattle.mob_scalar.proofs.Parts.{whole_fits}
use Rattle.mob_ast.specs.declared.types.SqlType.{SqlType}
use Rattle.mob_operators.{specs.declared.aggregate.AggKind.{AggKind}, specs.declared.aggregate.AggKind.TheVariants.{CountAll, Count, Sum, TCount, TSum, TAnd, TOr}}
use Rattle.mob_value.{specs.declared.value.Value.{Value}, specs.declared.value.Value.TheVariants.{MovingInt}, specs.Moving.{SteadySlices, or_nothing}}
use Rattle.mob_ordinary.specs.Ordinary.{is_null}
use Rattle.mob_tagg.{specs.Aggregates.{put_there, values_at, made_of, IsAggregate, count}, proofs.Unions.{none_at}}
use Rattle.mob_tail.{specs.Aggregated.{counted_values, known_of, one_there, IsAggregated, adding_entries}, specs.States.{is_counting}}
use Rattle.mob_ast.specs.declared.types.SqlType.TheVariants as sql

-- ---- the steps of a value have its values

module _ (P : Ratio → Type 0) where
  pub steps_each : (v : SteadySlices Ratio) → IsRisingInTime steady_limit steady_limit v → ((t x : Ratio) → value_at steady_value v t ≡ Some x → P x) → AllByRecursion (λ s. P s.course.value) v
  steps_each [] o f = tt
  steps_each (s ∷ v) o f =
      let i = some_instant s.span o.0.some in
      (f i.0 s.course.value (ap (λ b. cond b (Some s.course.value) (value_at steady_value v i.0)) i.1), steps_each v o.2 (λ t x e. by t x e (has s.span t) refl))
    where
      behind : AreAllClear (λ s. s.span) s.span v
      behind = all_after (λ s. s.span) s v (ordered-clear steady_limit steady_limit (s ∷ v) o)

      by : (t x : Ratio) → value_at steady_value v t ≡ Some x → (b : Bool) → has s.span t ≡ b → P x
      by t x e true k = absurd (none-some x (sym (none_at s.span v t behind k) ∙ e))
      by t x e false k = f t x (ap (λ b. cond b (Some s.course.value) (value_at steady_value v t)) k ∙ e)

-- ---- the entries of a sum on the pieces that two values share

module _ (P Q : Ratio → Type 0) (fits : (x y : Ratio) → P x → Q y → Fits (x +ℚ y)) where
  abbrev Piece : Type 0
  Piece = PieceOf (Slice (Steady Ratio)) (Slice (Steady Ratio))

  abbrev Both : Piece → Type 0
  Both q = P q.left.course.value × Q q.right.course.value

  row : (s : Slice (Steady Ratio)) (w : SteadySlices Ratio) → P s.course.value → AllByRecursion (λ r. Q r.course.value) w
      → AllByRecursion Both (map (λ r. record { span = meet_of s.span r.span; left = s; right = r }) (filter (λ r. has_instant (meet_of s.span r.span)) w))
  row s [] h k = tt
  row s (r ∷ w) h k = by (has_instant (meet_of s.span r.span)) (row s w h k.1)
    where
      by : (b : Bool) → AllByRecursion Both (map (λ r. record { span = meet_of s.span r.span; left = s; right = r }) (filter (λ r. has_instant (meet_of s.span r.span)) w))
          → AllByRecursion Both (map (λ r. record { span = meet_of s.span r.span; left = s; right = r }) (cond b (r ∷ filter (λ r. has_instant (meet_of s.span r.span)) w) (filter (λ r. has_instant (meet_of s.span r.span)) w)))
      by true l = ((h, k.0), l)
      by false l = l

  shared : (v w : SteadySlices Ratio) → AllByRecursion (λ s. P s.course.value) v → AllByRecursion (λ r. Q r.course.value) w → AllByRecursion Both (shared_pieces (λ s. s.span) (λ r. r.span) v w)
  shared [] w h k = tt
  shared (s ∷ v) w h k = each_both Both _ (shared_pieces (λ s. s.span) (λ r. r.span) v w) (row s w h.0 k) (shared v w h.1 k)

  entries_fit : (qs : List Piece) → AllByRecursion Both qs → IsFirst (flat_map (entries_at_ends steady_value steady_parts steady_value steady_parts sum_parts) (map (λ q. record { span = q.span; left = Moves q.left; right = Moves q.right }) qs)) None
  entries_fit [] h = refl
  entries_fit (q ∷ qs) h = let fit = fits q.left.course.value q.right.course.value h.0.0 h.0.1 in inl (tt, inl ((fit, (fit, tt)), entries_fit qs h.1))

  pub sums_fit : (v w : SteadySlices Ratio) → AllByRecursion (λ s. P s.course.value) v → AllByRecursion (λ r. Q r.course.value) w → IsFirst (flat_map (entries_at_ends steady_value steady_parts steady_value steady_parts sum_parts) (pieces (Slices v) (Slices w))) None
  sums_fit v w h k = entries_fit (shared_pieces (λ s. s.span) (λ r. r.span) v w) (shared v w h k)

-- ---- counts

-- a whole number of at most this size
abbrev IsCountTo : ℕ → Ratio → Type 0
IsCountTo most x = (n : ℕ) × (x ≡ whole (pos n)) × (n ≤ most)

few_there : {V : Type 0} (there : V → Ratio → Option Ratio) (vs : List V) (t : Ratio) → length (values_at there vs t) ≤ length vs
few_there there [] t = omega arith
few_there there (v ∷ vs) t = by (there v t) (few_there there vs t)
  where
    by : (o : Option Ratio) → length (values_at there vs t) ≤ length vs → length (put_there o (values_at there vs t)) ≤ length (v ∷ vs)
    by None h = omega (arith, h)
    by (Some x) h = omega (arith, h)

count_to : (xs : List Ratio) (x : Ratio) → Some x ≡ made_of count xs → x ≡ whole (pos (length xs))
count_to [] x e = absurd (none-some x (sym e))
count_to (y ∷ xs) x e = same_Some x (whole (pos (length (y ∷ xs)))) e

-- the steps of a count over time are counts of at most all values
count_steps : (vs : List Value) (m : SteadySlices Ratio) → IsAggregate one_there steady_value steady_limit steady_limit (steady_course same).continues count vs (Some m) → AllByRecursion (λ s. IsCountTo (length vs) s.course.value) m
count_steps vs m h = steps_each (IsCountTo (length vs)) m (ordered steady_limit steady_limit (steady_course same).continues m h.0.chained)
    (λ t x e. (length (values_at one_there vs t), count_to (values_at one_there vs t) x (sym e ∙ h.1 t), few_there one_there vs t))

sum_fits : (most : ℕ) → most + 1 < 2 ^ 62 → (x y : Ratio) → IsCountTo most x → IsCountTo 1 y → Fits (x +ℚ y)
sum_fits most few x y h k =
    let fit = whole_fits (pos (h.0 + k.0)) (omega (arith, few, h.2, k.2)) in
    subst Fits (whole-add (pos h.0) (pos k.0) ∙ ap (λ z. z +ℚ whole (pos k.0)) (sym h.1) ∙ ap (λ z. x +ℚ z) (sym k.1)) fit

over_time : (vs : List Value) (v : Value) (o p : Option (SteadySlices Ratio)) → length vs + 1 < 2 ^ 62 → IsAggregate one_there steady_value steady_limit steady_limit (steady_course same).continues count vs o → IsAggregate one_there steady_value steady_limit steady_limit (steady_course same).continues count (v ∷ []) p
    → IsFirst (arithmetic_entries Added sql.TInt (or_nothing MovingInt o) (or_nothing MovingInt p)) None
over_time vs v None None few h k = refl
over_time vs v None (Some w) few h k = refl
over_time vs v (Some m) None few h k = refl
over_time vs v (Some m) (Some w) few h k = sums_fit (IsCountTo (length vs)) (IsCountTo 1) (sum_fits (length vs) few) m w (count_steps vs m h) (count_steps (v ∷ []) w k)

plain : (n m : ℕ) → n + m < 2 ^ 62 → IsFirst (arithmetic_entries Added sql.Numeric (counted_values n) (counted_values m)) None
plain n m few = inl ((subst Fits (whole-add (pos n) (pos m)) (whole_fits (pos (n + m)) few), tt), refl)

pub fewer : {X : Type 0} (test : X → Bool) (xs : List X) → length (filter test xs) ≤ length xs
fewer test [] = omega arith
fewer test (x ∷ xs) = by (test x) (fewer test xs)
  where
    by : (b : Bool) → length (filter test xs) ≤ length xs → length (cond b (x ∷ filter test xs) (filter test xs)) ≤ length (x ∷ xs)
    by true h = omega (arith, h)
    by false h = omega (arith, h)

-- adding one more to a count of so few values does not overflow
pub count_fits : (kind : AggKind) (ty : SqlType) (vs : List Value) (v r a : Value) → is_counting kind ≡ true → length vs + 1 < 2 ^ 62 → IsAggregated kind ty vs r → IsAggregated kind ty (v ∷ []) a → IsFirst (adding_entries kind ty r a) None
count_fits CountAll ty vs v r a is few h k = subst (λ z. IsFirst (arithmetic_entries Added sql.Numeric z a) None) (sym h) (subst (λ z. IsFirst (arithmetic_entries Added sql.Numeric (counted_values (length vs)) z) None) (sym k) (plain (length vs) 1 few))
count_fits Count ty vs v r a is few h k =
    let less = fewer (λ v. not (is_null v)) vs in
    let one = fewer (λ v. not (is_null v)) (v ∷ []) in
    subst (λ z. IsFirst (arithmetic_entries Added sql.Numeric z a) None) (sym h) (subst (λ z. IsFirst (arithmetic_entries Added sql.Numeric (counted_values (length (known_of vs))) z) None) (sym k) (plain (length (known_of vs)) (length (known_of (v ∷ []))) (omega (arith, few, less, one))))
count_fits TCount ty vs v r a is few h k = subst (λ z. IsFirst (arithmetic_entries Added sql.TInt z a) None) (sym h.2) (subst (λ z. IsFirst (arithmetic_entries Added sql.TInt (or_nothing MovingInt h.0) z) None) (sym k.2) (over_time vs v h.0 k.0 few h.1 k.1))
count_fits Sum ty vs v r a is few h k = absurd cc
count_fits TSum ty vs v r a is few h k = absurd cc
count_fits TAnd ty vs v r a is few h k = absurd cc
count_fits TOr ty vs v r a is few h k = absurd cc
