-- Aggregates of values with one more.
use Rattle.std.specs.Prelude.{◌≡◌, Bool, true, false, cond, not, ℕ, ◌+◌, pos, refl, List, [], ◌∷◌, ◌++◌, length, Option, Some, None, option_map, Result, Ok, Err, IfOk, IfErr, MatchOption}
use Rattle.std.proofs.Common.{ap, sym, ◌∙◌, subst, inl, arith, append-nil, length-append}
use Rattle.mob_ratio.{specs.Ratio.{Ratio, whole, ◌+ℚ◌}, specs.Order.{same}, proofs.Clear.{clear1, cleared}, proofs.IntRing.{linear}, proofs.Rings.{whole-add}}
use Rattle.mob_arith.{specs.Operations.{sum_of, both_hold, one_holds}, specs.declared.sql.calculation.Calculation.TheVariants.{Sum as Added}, specs.Sql.Entries.{arithmetic_entries, parts_on}}
use Rattle.mob_arith.specs.Sql.Calculations.{parts_by}
use Rattle.mob_slice.{specs.CourseOf.{CourseOf, steady_course, line_course}, specs.Lines.{line_value_of}, specs.Operands.{steady_value, steady_limit}, specs.declared.line.Line.{Line}}
use Rattle.mob_slice.{specs.Entries.{Entry, IsFirst}, specs.Slices.{value_at}, specs.declared.slice.Slice.{Slice}, specs.declared.formula.Formula.{Formula}}
use Rattle.mob_list.{specs.Faults.{OnCause}, specs.declared.fault.Fault.{Fault}, specs.declared.fault.Fault.TheVariants.{Because, NoMemory}}
use Rattle.mob_ast.specs.declared.types.SqlType.{SqlType}
use Rattle.mob_operators.{specs.declared.aggregate.AggKind.{AggKind}, specs.declared.aggregate.AggKind.TheVariants.{CountAll, Count, Sum, TCount, TSum, TAnd, TOr}}
use Rattle.mob_value.{specs.declared.value.Value.{Value}, specs.declared.value.Value.TheVariants.{Null, Number, MovingBool, MovingInt, MovingFrac}}
use Rattle.mob_value.specs.Moving.{AreNormalBy, IsFunction, SteadySlices, or_nothing}
use Rattle.mob_frac.specs.Formula.{AllFit}
use Rattle.mob_span.specs.Flags.{same_bool}
use Rattle.mob_ordinary.specs.Ordinary.{is_null}
use Rattle.mob_tagg.specs.Aggregates.{put_there, made_of, IsAggregate, JoinsBy, total, count, all_hold, some_holds}
use Rattle.mob_tagg.proofs.Joining.{total_joins, all_joins, some_joins, aggregate_one, aggregate_both, aggregate_same, aggregate_first}
use Rattle.mob_tail.specs.Aggregated.{counted_values, known_of, number_of_value, numbers_of, IsOverTime, IsAggregated, leaves_out, AddingPasses, IsUnion, IsAggregateWith, one_where, one_there}
use Rattle.mob_tail.specs.Aggregated.{slices_there, step_there, line_there, truth_there, steps_of, aggregate_lines, truths_of}
use Rattle.mob_ast.specs.declared.types.SqlType.TheVariants as sql
use Rattle.mob_value.specs.declared.value.Value.TheVariants as value

-- ---- over time

module _ {C B Z : Type 0} (course : CourseOf C Z) (make : List (Slice C) → Value) (see : Value → Option (List (Slice C))) (seen : (r : Option (List (Slice C))) → see (or_nothing make r) ≡ r) (op : Z → Z → Z) (f : List B → Z) (joins : JoinsBy op f) (there : Value → Ratio → Option B) where
  abbrev Of : List Value → Option (List (Slice C)) → Type 0
  Of vs r = IsAggregate there course.value course.start course.end course.continues f vs r

  -- the union of the aggregate of values and that of one more is that of all
  pub over_more : (vs : List Value) (before v r : Value) (a : Option (List (Slice C))) → IsOverTime course make f there vs before → Of (v ∷ []) a → IsUnion course make op (see before) a before r → IsOverTime course make f there (vs ++ v ∷ []) r
  over_more vs before v r a h k u = by h.0 a h.1 h.2 k (subst (λ z. IsUnion course make op z a before r) (ap see h.2 ∙ seen h.0) u)
    where
      by : (t a : Option (List (Slice C))) → Of vs t → before ≡ or_nothing make t → Of (v ∷ []) a → IsUnion course make op t a before r → IsOverTime course make f there (vs ++ v ∷ []) r
      by (Some t) (Some a) m e n u = (Some u.0, aggregate_both there course.value course.start course.end course.continues f op joins vs (v ∷ []) t a u.0 m n u.2 u.3, u.1)
      by None (Some a) m e n u = (Some a, aggregate_first there course.value course.start course.end course.continues f vs (v ∷ []) (Some a) m n, u)
      by (Some t) None m e n u = (Some t, aggregate_same there course.value course.start course.end course.continues f vs (v ∷ []) (Some t) n m, u ∙ e)
      by None None m e n u = (None, aggregate_same there course.value course.start course.end course.continues f vs (v ∷ []) None n m, u ∙ e)

  -- the aggregate of one value
  pub over_one : (v : Value) (a : Option (List (Slice C))) → MatchOption a (Unit {0}) (AreNormalBy course) → ((t : Ratio) → MatchOption a (there v t ≡ None) (λ w. value_at course.value w t ≡ option_map (λ x. f (x ∷ [])) (there v t))) → Of (v ∷ []) a
  over_one v None n e = λ t. ap (λ o. put_there o []) (e t)
  over_one v (Some w) n e = aggregate_one there course.value course.start course.end course.continues f v w n e

-- ---- plain numbers

counted_more : (n : ℕ) → whole (pos n) +ℚ whole (pos 1) ≡ whole (pos (n + 1))
counted_more n = sym (whole-add (pos n) (pos 1))

known_more : (vs : List Value) (v : Value) → is_null v ≡ false → known_of (vs ++ v ∷ []) ≡ known_of vs ++ v ∷ []
known_more [] v e = ap (λ b. cond (not b) (v ∷ []) []) e
known_more (w ∷ vs) v e = by (is_null w) (known_more vs v e)
  where
    by : (b : Bool) → known_of (vs ++ v ∷ []) ≡ known_of vs ++ v ∷ [] → cond (not b) (w ∷ known_of (vs ++ v ∷ [])) (known_of (vs ++ v ∷ [])) ≡ cond (not b) (w ∷ known_of vs) (known_of vs) ++ v ∷ []
    by true f = f
    by false f = ap (λ z. w ∷ z) f

known_less : (vs : List Value) (v : Value) → is_null v ≡ true → known_of (vs ++ v ∷ []) ≡ known_of vs
known_less [] v e = ap (λ b. cond (not b) (v ∷ []) []) e
known_less (w ∷ vs) v e = by (is_null w) (known_less vs v e)
  where
    by : (b : Bool) → known_of (vs ++ v ∷ []) ≡ known_of vs → cond (not b) (w ∷ known_of (vs ++ v ∷ [])) (known_of (vs ++ v ∷ [])) ≡ cond (not b) (w ∷ known_of vs) (known_of vs)
    by true f = f
    by false f = ap (λ z. w ∷ z) f

numbers_both : (vs ws : List Value) → numbers_of (vs ++ ws) ≡ numbers_of vs ++ numbers_of ws
numbers_both [] ws = refl
numbers_both (v ∷ vs) ws = by (number_of_value v) (numbers_both vs ws)
  where
    by : (o : Option Ratio) → numbers_of (vs ++ ws) ≡ numbers_of vs ++ numbers_of ws → put_there o (numbers_of (vs ++ ws)) ≡ put_there o (numbers_of vs) ++ numbers_of ws
    by None e = e
    by (Some a) e = ap (λ z. a ∷ z) e

-- ---- no value

pub no_sum : (ty : SqlType) → IsAggregated TSum ty [] Null
no_sum sql.TInt = (None, λ t. refl, refl)
no_sum sql.TFrac = (None, λ t. refl, refl)
no_sum sql.Bool = refl
no_sum sql.Int = refl
no_sum sql.Numeric = refl
no_sum sql.Text = refl
no_sum sql.Moment = refl
no_sum sql.Point = refl
no_sum sql.Polygon = refl
no_sum sql.Span = refl
no_sum sql.SpanSet = refl
no_sum sql.Box = refl
no_sum sql.TBool = refl
no_sum sql.TText = refl
no_sum sql.TPoint = refl

-- ---- counts and sums

number_is : (v : Value) (m : Ratio) (n : ℕ) → number_of_value v ≡ Some m → v ≡ counted_values n → m ≡ whole (pos n)
number_is v m n h e = let k : Some (whole (pos n)) ≡ Some m = ap number_of_value (sym e) ∙ h in cc

no_number : {R : Type 0} (v : Value) (n : ℕ) → number_of_value v ≡ None → v ≡ counted_values n → R
no_number v n h e = let k : Some (whole (pos n)) ≡ None = ap number_of_value (sym e) ∙ h in cc

count_same : (n : ℕ) (m : Ratio) → m ≡ whole (pos n) → Number (sum_of m (whole (pos 1))) ≡ counted_values (n + 1)
count_same n m e = ap (λ z. Number (z +ℚ whole (pos 1))) e ∙ ap Number (counted_more n)

entries_same : (n : ℕ) (m : Ratio) (before : Value) (f : Option Formula) → m ≡ whole (pos n) → before ≡ counted_values n → IsFirst (arithmetic_entries Added sql.Numeric (Number m) (Number (whole (pos 1)))) f → IsFirst (arithmetic_entries Added sql.Numeric before (counted_values 1)) f
entries_same n m before f e h k = subst (λ z. IsFirst (arithmetic_entries Added sql.Numeric z (counted_values 1)) f) (ap Number e ∙ sym h) k

-- a count without a number is impossible
pub no_count : (ty : SqlType) (before v r : Value) → number_of_value before ≡ None → IsAggregateWith false CountAll ty before v (Ok r)
no_count ty before v r h = λ vs e. no_number before (length vs) h e

pub no_count_known : (ty : SqlType) (before v r : Value) → number_of_value before ≡ None → IsAggregateWith false Count ty before v (Ok r)
no_count_known ty before v r h = λ vs e. no_number before (length (known_of vs)) h e

pub count_with : (ty : SqlType) (before v : Value) (m : Ratio) (r : Result Value (Fault Formula)) → number_of_value before ≡ Some m → IfOk r (λ x. x ≡ Number (sum_of m (whole (pos 1)))) → IfOk r (λ _. IsFirst (arithmetic_entries Added sql.Numeric (Number m) (Number (whole (pos 1)))) None) → IfErr r (OnCause (λ f. IsFirst (arithmetic_entries Added sql.Numeric (Number m) (Number (whole (pos 1)))) (Some f)))
    → IsAggregateWith false CountAll ty before v r
count_with ty before v m (Ok x) n h k l = λ vs e.
    let is = number_is before m (length vs) n e in
    (h ∙ count_same (length vs) m is ∙ ap counted_values (sym (length-append vs (v ∷ []))), (before, e, (counted_values 1, refl, entries_same (length vs) m before None is e k)))
count_with ty before v m (Err (Because f)) n h k l = λ vs e.
    let is = number_is before m (length vs) n e in
    (before, e, (counted_values 1, refl, entries_same (length vs) m before (Some f) is e l))
count_with ty before v m (Err NoMemory) n h k l = tt

pub count_known_with : (ty : SqlType) (before v : Value) (m : Ratio) (r : Result Value (Fault Formula)) → is_null v ≡ false → number_of_value before ≡ Some m → IfOk r (λ x. x ≡ Number (sum_of m (whole (pos 1)))) → IfOk r (λ _. IsFirst (arithmetic_entries Added sql.Numeric (Number m) (Number (whole (pos 1)))) None) → IfErr r (OnCause (λ f. IsFirst (arithmetic_entries Added sql.Numeric (Number m) (Number (whole (pos 1)))) (Some f)))
    → IsAggregateWith false Count ty before v r
count_known_with ty before v m (Ok x) u n h k l = λ vs e.
    let is = number_is before m (length (known_of vs)) n e in
    (h ∙ count_same (length (known_of vs)) m is ∙ ap counted_values (sym (length-append (known_of vs) (v ∷ []))) ∙ ap (λ z. counted_values (length z)) (sym (known_more vs v u)), (before, e, (counted_values 1, ap (λ z. counted_values (length z)) (sym (known_more [] v u)), entries_same (length (known_of vs)) m before None is e k)))
count_known_with ty before v m (Err (Because f)) u n h k l = λ vs e.
    let is = number_is before m (length (known_of vs)) n e in
    (before, e, (counted_values 1, ap (λ z. counted_values (length z)) (sym (known_more [] v u)), entries_same (length (known_of vs)) m before (Some f) is e l))
count_known_with ty before v m (Err NoMemory) u n h k l = tt

-- ---- one more of each kind

one_total : (b : Ratio) → total (b ∷ []) ≡ b
one_total = clear1 _ (λ D a p. simp cleared (omega (arith, linear)))

sum_of_numbers : (vs : List Value) (v : Value) (b : Ratio) → number_of_value v ≡ Some b → numbers_of (vs ++ v ∷ []) ≡ numbers_of vs ++ b ∷ []
sum_of_numbers vs v b e = numbers_both vs (v ∷ []) ∙ ap (λ o. numbers_of vs ++ put_there o []) e

alone : (v : Value) (b : Ratio) → number_of_value v ≡ Some b → Number b ≡ or_nothing Number (made_of total (numbers_of (v ∷ [])))
alone v b e = ap Number (sym (one_total b)) ∙ ap (λ o. or_nothing Number (made_of total (put_there o []))) (sym e)

-- the sum before, by the numbers that there are
module _ (ty : SqlType) (before v : Value) (b : Ratio) (is : number_of_value v ≡ Some b) where
  pub sum_first : number_of_value before ≡ None → IsAggregateWith false Sum ty before v (Ok (Number b))
  sum_first n vs e = by (numbers_of vs) refl (e ∙ refl)
    where
      by : (ns : List Ratio) → numbers_of vs ≡ ns → before ≡ or_nothing Number (made_of total (numbers_of vs)) → IsAggregated Sum ty (vs ++ v ∷ []) (Number b) × AddingPasses false Sum ty vs v None
      by [] k e =
          let none : before ≡ Null = e ∙ ap (λ z. or_nothing Number (made_of total z)) k in (
            ap Number (sym (one_total b)) ∙ ap (λ z. or_nothing Number (made_of total (z ++ b ∷ []))) (sym k) ∙ ap (λ z. or_nothing Number (made_of total z)) (sym (sum_of_numbers vs v b is)),
            (before, e, (Number b, alone v b is, subst (λ z. IsFirst (arithmetic_entries Added sql.Numeric z (Number b)) None) (sym none) (inl (tt, refl)))),
          )
      by (a ∷ ns) k e = let some : before ≡ Number (total (a ∷ ns)) = e ∙ ap (λ z. or_nothing Number (made_of total z)) k in let m : Some (total (a ∷ ns)) ≡ None = ap number_of_value (sym some) ∙ n in absurd cc

  abbrev NumberEntries : Value → List Entry
  NumberEntries z = arithmetic_entries Added sql.Numeric z (Number b)

  -- a sum that is a number is the sum of some numbers
  sum_is : (a : Ratio) → number_of_value before ≡ Some a → (vs : List Value) → IsAggregated Sum ty vs before → {P : Type 0} → ((c : Ratio) (ns : List Ratio) → numbers_of vs ≡ c ∷ ns → total (c ∷ ns) ≡ a → before ≡ Number a → P) → P
  sum_is a n vs e {P} f = by (numbers_of vs) refl
    where
      by : (ns : List Ratio) → numbers_of vs ≡ ns → P
      by [] i = let none : before ≡ Null = e ∙ ap (λ z. or_nothing Number (made_of total z)) i in let m : None ≡ Some a = ap number_of_value (sym none) ∙ n in absurd cc
      by (c ∷ ns) i =
          let some : before ≡ Number (total (c ∷ ns)) = e ∙ ap (λ z. or_nothing Number (made_of total z)) i in
          let m : Some (total (c ∷ ns)) ≡ Some a = ap number_of_value (sym some) ∙ n in
          let same : total (c ∷ ns) ≡ a = cc m in
          f c ns i same (some ∙ ap Number same)

  sum_ok : (a : Ratio) (x : Value) → number_of_value before ≡ Some a → x ≡ Number (sum_of a b) → IsFirst (NumberEntries (Number a)) None → (vs : List Value) → IsAggregated Sum ty vs before → IsAggregated Sum ty (vs ++ v ∷ []) x × AddingPasses false Sum ty vs v None
  sum_ok a x n h k vs e = sum_is a n vs e (λ c ns i same there. (
    h ∙ ap (λ z. Number (z +ℚ b)) (sym same) ∙ ap (λ z. Number (total (c ∷ ns) +ℚ z)) (sym (one_total b)) ∙ ap Number (sym (total_joins c ns b [])) ∙ ap (λ z. or_nothing Number (made_of total (z ++ b ∷ []))) (sym i) ∙ ap (λ z. or_nothing Number (made_of total z)) (sym (sum_of_numbers vs v b is)),
    (before, e, (Number b, alone v b is, subst (λ z. IsFirst (NumberEntries z) None) (sym there) k)),
  ))

  sum_err : (a : Ratio) (f : Formula) → number_of_value before ≡ Some a → IsFirst (NumberEntries (Number a)) (Some f) → (vs : List Value) → IsAggregated Sum ty vs before → AddingPasses false Sum ty vs v (Some f)
  sum_err a f n l vs e = sum_is a n vs e (λ c ns i same there. (before, e, (Number b, alone v b is, subst (λ z. IsFirst (NumberEntries z) (Some f)) (sym there) l)))

  pub sum_next : (a : Ratio) (r : Result Value (Fault Formula)) → number_of_value before ≡ Some a → IfOk r (λ x. x ≡ Number (sum_of a b)) → IfOk r (λ _. IsFirst (NumberEntries (Number a)) None) → IfErr r (OnCause (λ f. IsFirst (NumberEntries (Number a)) (Some f))) → IsAggregateWith false Sum ty before v r
  sum_next a (Ok x) n h k l = λ vs e. sum_ok a x n h k vs e
  sum_next a (Err (Because f)) n h k l = λ vs e. sum_err a f n l vs e
  sum_next a (Err NoMemory) n h k l = tt

-- NULL adds nothing to a number
no_parts : (r : Value) → parts_on (parts_by Added) r Null ≡ []
no_parts value.Null = refl
no_parts (value.Bool b) = refl
no_parts (value.Number b) = refl
no_parts (value.Text b) = refl
no_parts (value.Moment b) = refl
no_parts (value.Point b) = refl
no_parts (value.Polygon b) = refl
no_parts (value.Span b) = refl
no_parts (value.SpanSet b) = refl
no_parts (value.Box b) = refl
no_parts (value.MovingBool b) = refl
no_parts (value.MovingInt b) = refl
no_parts (value.MovingFrac b) = refl
no_parts (value.MovingText b) = refl
no_parts (value.MovingPoint b) = refl

nothing_passed : (r : Value) → IsFirst (arithmetic_entries Added sql.Numeric r Null) None
nothing_passed r = inl (subst AllFit (sym (no_parts r)) tt, refl)

-- a value that is no number
pub no_number_more : (ty : SqlType) (before v : Value) → number_of_value v ≡ None → IsAggregateWith false Sum ty before v (Ok before)
no_number_more ty before v n = λ vs e. (
  e ∙ ap (λ z. or_nothing Number (made_of total z)) (sym (numbers_both vs (v ∷ []) ∙ ap (λ o. numbers_of vs ++ put_there o []) n ∙ append-nil (numbers_of vs))),
  (before, e, (Null, ap (λ o. or_nothing Number (made_of total (put_there o []))) (sym n), nothing_passed before)),
)

-- a sum over time of a type that has none
pub other_sum : (ty : SqlType) (before v : Value) → (ty ≡ sql.TInt → ⊥) → (ty ≡ sql.TFrac → ⊥) → IsAggregateWith false TSum ty before v (Ok before)
other_sum sql.TInt before v n m = absurd (n refl)
other_sum sql.TFrac before v n m = absurd (m refl)
other_sum sql.Int before v n m = λ vs e. (e, (before, e, (Null, refl, nothing_passed before)))
other_sum sql.Numeric before v n m = λ vs e. (e, (before, e, (Null, refl, nothing_passed before)))
other_sum sql.Bool before v n m = λ vs e. (e, (before, e, (Null, refl, refl)))
other_sum sql.Text before v n m = λ vs e. (e, (before, e, (Null, refl, refl)))
other_sum sql.Moment before v n m = λ vs e. (e, (before, e, (Null, refl, refl)))
other_sum sql.Point before v n m = λ vs e. (e, (before, e, (Null, refl, refl)))
other_sum sql.Polygon before v n m = λ vs e. (e, (before, e, (Null, refl, refl)))
other_sum sql.Span before v n m = λ vs e. (e, (before, e, (Null, refl, refl)))
other_sum sql.SpanSet before v n m = λ vs e. (e, (before, e, (Null, refl, refl)))
other_sum sql.Box before v n m = λ vs e. (e, (before, e, (Null, refl, refl)))
other_sum sql.TBool before v n m = λ vs e. (e, (before, e, (Null, refl, refl)))
other_sum sql.TText before v n m = λ vs e. (e, (before, e, (Null, refl, refl)))
other_sum sql.TPoint before v n m = λ vs e. (e, (before, e, (Null, refl, refl)))

-- ---- one more over time

pub seen_steps : (r : Option (SteadySlices Ratio)) → steps_of (or_nothing MovingInt r) ≡ r
seen_steps None = refl
seen_steps (Some r) = refl

pub seen_lines : (r : Option (List (Slice Line))) → aggregate_lines (or_nothing MovingFrac r) ≡ r
seen_lines None = refl
seen_lines (Some r) = refl

pub seen_truths : (r : Option (SteadySlices Bool)) → truths_of (or_nothing MovingBool r) ≡ r
seen_truths None = refl
seen_truths (Some r) = refl

one_all : (b : Bool) → all_hold (b ∷ []) ≡ b
one_all true = refl
one_all false = refl

one_some : (b : Bool) → some_holds (b ∷ []) ≡ b
one_some true = refl
one_some false = refl

-- the aggregate of one value is what that value has
alone_there : {C B : Type 0} (value : C → Ratio → Ratio → Ratio → B) (f : List B → B) → ((x : B) → f (x ∷ []) ≡ x) → (a : Option (List (Slice C))) (t : Ratio) → MatchOption a (slices_there value a t ≡ None) (λ w. value_at value w t ≡ option_map (λ x. f (x ∷ [])) (slices_there value a t))
alone_there value f one None t = refl
alone_there {C} {B} value f one (Some w) t = by (value_at value w t)
  where
    by : (o : Option B) → o ≡ option_map (λ x. f (x ∷ [])) o
    by None = refl
    by (Some x) = ap Some (sym (one x))

pub int_alone : (v : Value) → MatchOption (steps_of v) (Unit {0}) (AreNormalBy (steady_course same)) → IsAggregate step_there steady_value steady_limit steady_limit (steady_course same).continues total (v ∷ []) (steps_of v)
int_alone v n = over_one (steady_course same) MovingInt steps_of seen_steps sum_of total total_joins step_there v (steps_of v) n (λ t. alone_there steady_value total one_total (steps_of v) t)

pub frac_alone : (v : Value) → MatchOption (aggregate_lines v) (Unit {0}) (AreNormalBy line_course) → IsAggregate line_there line_value_of line_course.start line_course.end line_course.continues total (v ∷ []) (aggregate_lines v)
frac_alone v n = over_one line_course MovingFrac aggregate_lines seen_lines sum_of total total_joins line_there v (aggregate_lines v) n (λ t. alone_there line_value_of total one_total (aggregate_lines v) t)

pub all_alone : (v : Value) → MatchOption (truths_of v) (Unit {0}) (AreNormalBy (steady_course same_bool)) → IsAggregate truth_there steady_value steady_limit steady_limit (steady_course same_bool).continues all_hold (v ∷ []) (truths_of v)
all_alone v n = over_one (steady_course same_bool) MovingBool truths_of seen_truths both_hold all_hold all_joins truth_there v (truths_of v) n (λ t. alone_there steady_value all_hold one_all (truths_of v) t)

pub some_alone : (v : Value) → MatchOption (truths_of v) (Unit {0}) (AreNormalBy (steady_course same_bool)) → IsAggregate truth_there steady_value steady_limit steady_limit (steady_course same_bool).continues some_holds (v ∷ []) (truths_of v)
some_alone v n = over_one (steady_course same_bool) MovingBool truths_of seen_truths one_holds some_holds some_joins truth_there v (truths_of v) n (λ t. alone_there steady_value some_holds one_some (truths_of v) t)

-- an aggregate over time is its slices
before_is : {C B Z : Type 0} (course : CourseOf C Z) (make : List (Slice C) → Value) (see : Value → Option (List (Slice C))) → ((r : Option (List (Slice C))) → see (or_nothing make r) ≡ r) → (f : List B → Z) (there : Value → Ratio → Option B) (vs : List Value) (before : Value) → IsOverTime course make f there vs before → or_nothing make (see before) ≡ before
before_is course make see seen f there vs before h = ap (or_nothing make) (ap see h.2 ∙ seen h.0) ∙ sym h.2

abbrev IntEntries : Value → Value → List Entry
IntEntries a b = arithmetic_entries Added sql.TInt a b

abbrev FracEntries : Value → Value → List Entry
FracEntries a b = arithmetic_entries Added sql.TFrac a b

pub int_sum_with : (before v : Value) (r : Result Value (Fault Formula)) → MatchOption (steps_of v) (Unit {0}) (AreNormalBy (steady_course same)) → IfOk r (λ x. IsUnion (steady_course same) MovingInt sum_of (steps_of before) (steps_of v) before x) → IfOk r (λ _. IsFirst (IntEntries (or_nothing MovingInt (steps_of before)) (or_nothing MovingInt (steps_of v))) None) → IfErr r (OnCause (λ f. IsFirst (IntEntries (or_nothing MovingInt (steps_of before)) (or_nothing MovingInt (steps_of v))) (Some f))) → IsAggregateWith false TSum sql.TInt before v r
int_sum_with before v (Ok x) n u k l = λ vs e. (
  over_more (steady_course same) MovingInt steps_of seen_steps sum_of total total_joins step_there vs before v x (steps_of v) e (int_alone v n) u,
  (before, e, (or_nothing MovingInt (steps_of v), (steps_of v, int_alone v n, refl), subst (λ z. IsFirst (IntEntries z (or_nothing MovingInt (steps_of v))) None) (before_is (steady_course same) MovingInt steps_of seen_steps total step_there vs before e) k)),
)
int_sum_with before v (Err (Because f)) n u k l = λ vs e. (before, e, (or_nothing MovingInt (steps_of v), (steps_of v, int_alone v n, refl), subst (λ z. IsFirst (IntEntries z (or_nothing MovingInt (steps_of v))) (Some f)) (before_is (steady_course same) MovingInt steps_of seen_steps total step_there vs before e) l))
int_sum_with before v (Err NoMemory) n u k l = tt

pub frac_sum_with : (before v : Value) (r : Result Value (Fault Formula)) → MatchOption (aggregate_lines v) (Unit {0}) (AreNormalBy line_course) → IfOk r (λ x. IsUnion line_course MovingFrac sum_of (aggregate_lines before) (aggregate_lines v) before x) → IfOk r (λ _. IsFirst (FracEntries (or_nothing MovingFrac (aggregate_lines before)) (or_nothing MovingFrac (aggregate_lines v))) None) → IfErr r (OnCause (λ f. IsFirst (FracEntries (or_nothing MovingFrac (aggregate_lines before)) (or_nothing MovingFrac (aggregate_lines v))) (Some f))) → IsAggregateWith false TSum sql.TFrac before v r
frac_sum_with before v (Ok x) n u k l = λ vs e. (
  over_more line_course MovingFrac aggregate_lines seen_lines sum_of total total_joins line_there vs before v x (aggregate_lines v) e (frac_alone v n) u,
  (before, e, (or_nothing MovingFrac (aggregate_lines v), (aggregate_lines v, frac_alone v n, refl), subst (λ z. IsFirst (FracEntries z (or_nothing MovingFrac (aggregate_lines v))) None) (before_is line_course MovingFrac aggregate_lines seen_lines total line_there vs before e) k)),
)
frac_sum_with before v (Err (Because f)) n u k l = λ vs e. (before, e, (or_nothing MovingFrac (aggregate_lines v), (aggregate_lines v, frac_alone v n, refl), subst (λ z. IsFirst (FracEntries z (or_nothing MovingFrac (aggregate_lines v))) (Some f)) (before_is line_course MovingFrac aggregate_lines seen_lines total line_there vs before e) l))
frac_sum_with before v (Err NoMemory) n u k l = tt

-- the ones of a value are its count
one_counted : {B : Type 0} (o : Option B) → one_where o ≡ made_of count (put_there (one_where o) [])
one_counted None = refl
one_counted (Some x) = refl

pub ones_over : {B : Type 0} (ty : SqlType) (v r : Value) (o : Ratio → Option B) → ((t : Ratio) → one_there v t ≡ one_where (o t)) → IsFunction (steady_course same) MovingInt (λ t. one_where (o t)) r → IsAggregated TCount ty (v ∷ []) r
ones_over ty v r o e h = (Some h.0, (h.2, λ t. h.1 t ∙ one_counted (o t) ∙ ap (λ z. made_of count (put_there z [])) (sym (e t))), h.3)

-- ---- a value that is ignored

over_same : {C B Z : Type 0} (course : CourseOf C Z) (make : List (Slice C) → Value) (f : List B → Z) (there : Value → Ratio → Option B) (vs : List Value) (before v : Value) → ((t : Ratio) → there v t ≡ None) → IsOverTime course make f there vs before → IsOverTime course make f there (vs ++ v ∷ []) before
over_same course make f there vs before v e h = (h.0, aggregate_same there course.value course.start course.end course.continues f vs (v ∷ []) h.0 (λ t. ap (λ z. put_there z []) (e t)) h.1, h.2)

null_sum : (ty : SqlType) (vs : List Value) (before : Value) → IsAggregated TSum ty vs before → IsAggregated TSum ty (vs ++ Null ∷ []) before
null_sum sql.TInt vs before h = over_same (steady_course same) MovingInt total step_there vs before Null (λ t. refl) h
null_sum sql.TFrac vs before h = over_same line_course MovingFrac total line_there vs before Null (λ t. refl) h
null_sum sql.Bool vs before h = h
null_sum sql.Int vs before h = h
null_sum sql.Numeric vs before h = h
null_sum sql.Text vs before h = h
null_sum sql.Moment vs before h = h
null_sum sql.Point vs before h = h
null_sum sql.Polygon vs before h = h
null_sum sql.Span vs before h = h
null_sum sql.SpanSet vs before h = h
null_sum sql.Box vs before h = h
null_sum sql.TBool vs before h = h
null_sum sql.TText vs before h = h
null_sum sql.TPoint vs before h = h

null_out : (kind : AggKind) (ty : SqlType) (before : Value) → leaves_out kind Null ≡ true → IsAggregateWith true kind ty before Null (Ok before)
null_out CountAll ty before h = absurd cc
null_out Count ty before h = λ vs e. (e ∙ ap (λ z. counted_values (length z)) (sym (known_less vs Null refl)), refl)
null_out Sum ty before h = λ vs e. (e ∙ ap (λ z. or_nothing Number (made_of total z)) (sym (numbers_both vs (Null ∷ []) ∙ append-nil (numbers_of vs))), refl)
null_out TCount ty before h = λ vs e. (over_same (steady_course same) MovingInt count one_there vs before Null (λ t. refl) e, refl)
null_out TSum ty before h = λ vs e. (null_sum ty vs before e, refl)
null_out TAnd ty before h = λ vs e. (over_same (steady_course same_bool) MovingBool all_hold truth_there vs before Null (λ t. refl) e, refl)
null_out TOr ty before h = λ vs e. (over_same (steady_course same_bool) MovingBool some_holds truth_there vs before Null (λ t. refl) e, refl)

null_is : (v : Value) → is_null v ≡ true → v ≡ Null
null_is value.Null h = refl
null_is (value.Bool b) h = absurd cc
null_is (value.Number b) h = absurd cc
null_is (value.Text b) h = absurd cc
null_is (value.Moment b) h = absurd cc
null_is (value.Point b) h = absurd cc
null_is (value.Polygon b) h = absurd cc
null_is (value.Span b) h = absurd cc
null_is (value.SpanSet b) h = absurd cc
null_is (value.Box b) h = absurd cc
null_is (value.MovingBool b) h = absurd cc
null_is (value.MovingInt b) h = absurd cc
null_is (value.MovingFrac b) h = absurd cc
null_is (value.MovingText b) h = absurd cc
null_is (value.MovingPoint b) h = absurd cc

left_null : (kind : AggKind) (v : Value) → leaves_out kind v ≡ true → v ≡ Null
left_null CountAll v h = absurd cc
left_null Count v h = null_is v h
left_null Sum v h = null_is v h
left_null TCount v h = null_is v h
left_null TSum v h = null_is v h
left_null TAnd v h = null_is v h
left_null TOr v h = null_is v h

pub left_out_with : (kind : AggKind) (ty : SqlType) (before v : Value) → true ≡ leaves_out kind v → IsAggregateWith (leaves_out kind v) kind ty before v (Ok before)
left_out_with kind ty before v h =
    let null : v ≡ Null = left_null kind v (sym h) in
    subst (λ b. IsAggregateWith b kind ty before v (Ok before)) h (subst (λ z. IsAggregateWith true kind ty before z (Ok before)) (sym null) (null_out kind ty before (ap (leaves_out kind) (sym null) ∙ sym h)))

-- what holds of a value for one kind holds for the kind at hand, if it is that one and the value is
-- not ignored
pub at_kind : (kind one : AggKind) (ty : SqlType) (before v : Value) (r : Result Value (Fault Formula)) → kind ≡ one → false ≡ leaves_out kind v → IsAggregateWith false one ty before v r → IsAggregateWith (leaves_out kind v) kind ty before v r
at_kind kind one ty before v r e f h = subst (λ b. IsAggregateWith b kind ty before v r) f (subst (λ k. IsAggregateWith false k ty before v r) (sym e) h)
