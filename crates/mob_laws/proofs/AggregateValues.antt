-- The result of an aggregate on values of the type that it takes.
use Rattle.std.{specs.Prelude.{◌⊎◌, ◌↔◌, ◌++◌, MatchOption, is_some, nat_eq, option_and_then, option_map, slice_get}, specs.List.{AllByRecursion, AllZip, flat_map}}
use Rattle.std.proofs.Common.{◌≡◌, ◌∙◌, refl, sym, ap, subst, inl, inr, arith, true≢false, ℕ, ℤ, suc, ◌+◌, pos, nat_abs, List, [], ◌∷◌, length, map, Bool, true, false, not, cond, Option, Some, None}
use Rattle.std.proofs.Common.{Ok}
use Rattle.mob_list.proofs.Each.{each_on, each_parts}
use Rattle.mob_ratio.{specs.GcdLaws.{gcd_one_right}, specs.LowestLaws.{lowest_in}, specs.Order.{same}, specs.Ratio.{Ratio, whole, over}, proofs.Clear.{whole-over}, proofs.RatioLemmas.{over-lowest}}
use Rattle.mob_span.{specs.Flags.{same_bool}, proofs.SpanLemmas.{some_instant}}
use Rattle.mob_slice.{specs.CourseOf.{CourseOf, steady_course, line_course}, specs.Slices.{value_at}, specs.declared.slice.Slice.{Slice}}
use Rattle.mob_written.specs.Values.{is_whole_number}
use Rattle.mob_ast.specs.declared.types.SqlType.{SqlType}
use Rattle.mob_operators.{specs.Aggregates.{aggregate_named, aggregate_type}, specs.declared.aggregate.AggKind.{AggKind}}
use Rattle.mob_operators.specs.declared.aggregate.AggKind.TheVariants.{CountAll, Count, Sum, TCount, TSum, TAnd, TOr}
use Rattle.mob_typed.{specs.declared.typed.Agg.{Agg}, specs.Selects.{Output, TypedSelectParts}, specs.Statements.{query}, specs.Trees.{TypedTree, typed, none, more, type_of}}
use Rattle.mob_clauses.specs.Keys.{value_type}
use Rattle.mob_typing.specs.WellTyped.{IsTypedItem, condition_alone}
use Rattle.mob_value.{specs.declared.value.Value.{Value}, specs.declared.value.Value.TheVariants.{Null, Number, MovingBool, MovingInt, MovingFrac}}
use Rattle.mob_value.specs.Moving.{AreNormalBy, line_function, or_nothing, plane_function, step_function}
use Rattle.mob_ordinary.specs.Ordinary.{is_null}
use Rattle.mob_catalog.{specs.Catalogue.{Catalogue}, specs.OwnTypes.{IsValueOf}}
use Rattle.mob_meaning.{specs.Scene.{Scene, scene}, specs.Values.{EvaluatesToItsValue}}
use Rattle.mob_operands.{specs.Rows.{is_there}, proofs.Forms.{OnForms, by_type}, proofs.Whole.{int_sum, ints_there, tint_of}}
use Rattle.mob_tagg.specs.Aggregates.{all_hold, count, made_of, put_there, some_holds, total, values_at}
use Rattle.mob_tail.specs.Aggregated.{IsOverTime, counted_values, known_of, line_there, numbers_of, one_there, one_where, step_there, truth_there}
use Rattle.mob_tail.{specs.GroupedAnswers.{AnswerColumn, IsArgumentOf, IsArgumentOn, IsColumnValue, agg_at, columns_from, columns_of}, specs.Groups.{first_value}}
use Rattle.mob_join.specs.TypedFor.{HasStoredTypes, IsTypedFor}
use Rattle.mob_shell.specs.StoredTypes.{QueriesAreTyped}
use Rattle.mob_laws.specs.AggregateValues.{AggregateRowsHaveMeanings, ArgumentsHaveMeaning, ColumnHasMeaning, HasMeaningOn, IsNullDue, IsResult, IsThereBy, TakesValue, RunColumnsHaveMeanings}
use Rattle.mob_laws.{specs.AggregateValues.{TypedColumnsHaveMeanings}, specs.ExpressionTypes.{HasItsType, TypedExpressionsHaveTheirTypes}, proofs.ExpressionTypes.{leaf_of_type, null_of}}
use Rattle.mob_ast.specs.declared.types.SqlType.TheVariants as sql
use Rattle.mob_meaning.specs.declared.terms.Terms.{Terms}
use Rattle.mob_shell.specs.Terms.{terms_of}

-- ---- lists of values
-- what holds for each value that is not NULL holds for those that are left
known_all : (P : Value → Type 0) (vs : List Value) → AllByRecursion (λ v. (v ≡ Null) ⊎ P v) vs → AllByRecursion P (known_of vs)
known_all P [] h = tt
known_all P (v ∷ vs) (inl e, h) = subst (λ w. AllByRecursion P (known_of (w ∷ vs))) (sym e) (known_all P vs h)
known_all P (v ∷ vs) (inr p, h) = by (is_null v) (known_all P vs h)
  where
    by : (b : Bool) → AllByRecursion P (known_of vs) → AllByRecursion P (cond (not b) (v ∷ known_of vs) (known_of vs))
    by true rest = rest
    by false rest = (p, rest)

-- a number, or NULL
abbrev IsNumber : Value → Type 0
IsNumber v = (v ≡ Null) ⊎ ((n : Ratio) × (v ≡ Number n))

numbers_known : (vs : List Value) → AllByRecursion IsNumber vs → map Number (numbers_of vs) ≡ known_of vs
numbers_known [] h = refl
numbers_known (v ∷ vs) (inl e, h) = subst (λ w. map Number (numbers_of (w ∷ vs)) ≡ known_of (w ∷ vs)) (sym e) (numbers_known vs h)
numbers_known (v ∷ vs) (inr n, h) = subst (λ w. map Number (numbers_of (w ∷ vs)) ≡ known_of (w ∷ vs)) (sym n.1) (ap (λ z. Number n.0 ∷ z) (numbers_known vs h))

-- there are no numbers exactly if each value is NULL
none_null : (vs : List Value) → AllByRecursion IsNumber vs → numbers_of vs ≡ [] → AllByRecursion (λ v. v ≡ Null) vs
none_null [] h e = tt
none_null (v ∷ vs) (inl n, h) e = (n, none_null vs h (subst (λ w. numbers_of (w ∷ vs) ≡ []) n e))
none_null (v ∷ vs) (inr n, h) e = let is : n.0 ∷ numbers_of vs ≡ [] = subst (λ w. numbers_of (w ∷ vs) ≡ []) n.1 e in absurd (cc)

null_none : (vs : List Value) → AllByRecursion (λ v. v ≡ Null) vs → numbers_of vs ≡ []
null_none [] h = refl
null_none (v ∷ vs) h = subst (λ w. numbers_of (w ∷ vs) ≡ []) (sym h.0) (null_none vs h.1)

-- ---- whole numbers
abbrev IsInt : Ratio → Type 0
IsInt q = is_whole_number q ≡ true

whole_int : (n : ℤ) → IsInt (whole n)
whole_int n =
    let d : (over n 1).den ≡ 1 = (over-lowest n 1 (lowest_in n 1 (omega arith) (gcd_one_right (nat_abs n)))).1 in
    ap (λ (k : ℕ). nat_eq k 1) (ap (λ (q : Ratio). q.den) (whole-over n) ∙ d)

total_int : (xs : List Ratio) → AllByRecursion IsInt xs → IsInt (total xs)
total_int [] h = whole_int (pos 0)
total_int (x ∷ xs) h = int_sum x (total xs) h.0 (total_int xs h.1)

-- a value that is a whole number, or NULL
abbrev IsIntValue : Value → Type 0
IsIntValue v = (v ≡ Null) ⊎ ((n : Ratio) × (v ≡ Number n) × IsInt n)

numbers_int : (vs : List Value) → AllByRecursion IsIntValue vs → AllByRecursion IsInt (numbers_of vs)
numbers_int [] h = tt
numbers_int (v ∷ vs) (inl e, h) = subst (λ w. AllByRecursion IsInt (numbers_of (w ∷ vs))) (sym e) (numbers_int vs h)
numbers_int (v ∷ vs) (inr n, h) = subst (λ w. AllByRecursion IsInt (numbers_of (w ∷ vs))) (sym n.1) (n.2, numbers_int vs h)

-- ---- values over time
nothing_there : {B : Type 0} (o : Option B) → is_some o ≡ false → o ≡ None
nothing_there None h = refl
nothing_there (Some x) h = absurd (true≢false h)

one_seen : {B : Type 0} (o : Option B) → is_some (one_where o) ≡ is_some o
one_seen None = refl
one_seen (Some x) = refl

module _ {B : Type 0} (there : Value → Ratio → Option B) where
  -- at an instant there is nothing exactly if no value exists there
  missing_none : (vs : List Value) (t : Ratio) → AllByRecursion (IsThereBy there) vs → AllByRecursion (λ v. is_there t v ≡ false) vs → values_at there vs t ≡ []
  missing_none [] t h k = refl
  missing_none (v ∷ vs) t h k = ap (λ o. put_there o (values_at there vs t)) (nothing_there (there v t) (h.0 t ∙ k.0)) ∙ missing_none vs t h.1 k.1

  none_missing : (vs : List Value) (t : Ratio) → AllByRecursion (IsThereBy there) vs → values_at there vs t ≡ [] → AllByRecursion (λ v. is_there t v ≡ false) vs
  none_missing [] t h e = tt
  none_missing (v ∷ vs) t h e = by (there v t) (h.0 t) e (λ k. none_missing vs t h.1 k)
    where
      by : (o : Option B) → is_some o ≡ is_there t v → put_there o (values_at there vs t) ≡ [] → (values_at there vs t ≡ [] → AllByRecursion (λ w. is_there t w ≡ false) vs) → AllByRecursion (λ w. is_there t w ≡ false) (v ∷ vs)
      by None s k rest = (sym s, rest k)
      by (Some x) s k rest = absurd (cc)

  -- what holds for each value there holds for all that exists at an instant
  each_there : (Q : B → Type 0) (vs : List Value) (t : Ratio) → AllByRecursion (λ v. (x : B) → there v t ≡ Some x → Q x) vs → AllByRecursion Q (values_at there vs t)
  each_there Q [] t h = tt
  each_there Q (v ∷ vs) t h = by (there v t) refl (each_there Q vs t h.1)
    where
      by : (o : Option B) → there v t ≡ o → AllByRecursion Q (values_at there vs t) → AllByRecursion Q (put_there o (values_at there vs t))
      by None e rest = rest
      by (Some x) e rest = (h.0 x e, rest)

  module _ {C Z : Type 0} (course : CourseOf C Z) (make : List (Slice C) → Value) (f : List B → Z) (makes : (m : List (Slice C)) → make m ≡ Null → ⊥) where
    -- a normal value is defined at some instant
    instant_of : (m : List (Slice C)) → AreNormalBy course m → (t : Ratio) × (x : Z) × (value_at course.value m t ≡ Some x)
    instant_of [] n = absurd (n.some refl)
    instant_of (s ∷ m) n =
        let i = some_instant s.span n.chained.0.some in
        (i.0, course.value s.course s.span.lower s.span.upper i.0, ap (λ b. cond b (Some (course.value s.course s.span.lower s.span.upper i.0)) (value_at course.value m i.0)) i.1)

    null_due : (vs : List Value) (v : Value) → AllByRecursion (IsThereBy there) vs → IsOverTime course make f there vs v → (v ≡ Null) ↔ ((t : Ratio) → AllByRecursion (λ w. is_there t w ≡ false) vs)
    null_due vs v seen (None, all, is) = (λ n t. none_missing vs t seen (all t), λ h. is)
    null_due vs v seen (Some m, all, is) = (λ n. absurd (makes m (sym is ∙ n)), λ h. by (instant_of m all.0) h)
      where
        by : (t : Ratio) × (x : Z) × (value_at course.value m t ≡ Some x) → ((t : Ratio) → AllByRecursion (λ w. is_there t w ≡ false) vs) → v ≡ Null
        by i h = let e : Some i.1 ≡ None = sym i.2 ∙ all.1 i.0 ∙ ap (made_of f) (missing_none vs i.0 seen (h i.0)) in absurd (cc)

    own_of : (ty : SqlType) (vs : List Value) (v : Value) → IsValueOf ty Null → ((m : List (Slice C)) → AreNormalBy course m → ((t : Ratio) (x : Z) → value_at course.value m t ≡ Some x → (xs : List B) × (values_at there vs t ≡ xs) × (x ≡ f xs)) → IsValueOf ty (make m)) → IsOverTime course make f there vs v → IsValueOf ty v
    own_of ty vs v n own (None, all, is) = subst (IsValueOf ty) (sym is) n
    own_of ty vs v n own (Some m, all, is) = subst (IsValueOf ty) (sym is) (own m all.0 (λ t x e. by t x (values_at there vs t) refl (sym (all.1 t) ∙ e)))
      where
        by : (t : Ratio) (x : Z) (xs : List B) → values_at there vs t ≡ xs → made_of f xs ≡ Some x → (ys : List B) × (values_at there vs t ≡ ys) × (x ≡ f ys)
        by t x [] is e = absurd (cc)
        by t x (y ∷ ys) is e = (y ∷ ys, is, cc)

-- ---- the values of a type
module _ (vs : List Value) where
  -- what holds for NULL and for each form of a type holds for each value
  each_of : (a : SqlType) (P : Value → Type 0) → P Null → OnForms a P → AllByRecursion (IsValueOf a) vs → AllByRecursion P vs
  each_of a P null forms h = each_on (IsValueOf a) P (by_type a P null forms) vs h

  taken_of : (a : SqlType) (P : Value → Type 0) → OnForms a (λ v. (v ≡ Null) ⊎ P v) → AllByRecursion (IsValueOf a) vs → AllByRecursion P (known_of vs)
  taken_of a P forms h = known_all P vs (each_of a (λ v. (v ≡ Null) ⊎ P v) (inl refl) forms h)

  -- ---- counts and sums
  count_result : (kind : AggKind) (n : ℕ) (v : Value) → (IsNullDue kind vs → ⊥) → v ≡ counted_values n → IsResult kind sql.Int vs v
  count_result kind n v never is = record {
    own = subst (IsValueOf sql.Int) (sym is) (record { form = refl; whole = whole_int (pos n) });
    null = (λ e. let no : counted_values n ≡ Null = sym is ∙ e in absurd (cc), λ due. absurd (never due));
  }

  sum_result : (ty : SqlType) (v : Value) → AllByRecursion IsNumber vs → IsValueOf ty Null → ((x : Ratio) → x ≡ total (numbers_of vs) → IsValueOf ty (Number x)) → v ≡ or_nothing Number (made_of total (numbers_of vs)) → IsResult Sum ty vs v
  sum_result ty v are null own is = by (numbers_of vs) refl is
    where
      by : (ns : List Ratio) → numbers_of vs ≡ ns → v ≡ or_nothing Number (made_of total ns) → IsResult Sum ty vs v
      by [] e k = record { own = subst (IsValueOf ty) (sym k) null; null = (λ n. none_null vs are e, λ due. k) }
      by (n ∷ ns) e k = record {
        own = subst (IsValueOf ty) (sym k) (own (total (n ∷ ns)) (ap total (sym e)));
        null = (λ z. let no : Number (total (n ∷ ns)) ≡ Null = sym k ∙ z in absurd (cc), λ due. let no : n ∷ ns ≡ [] = sym e ∙ null_none vs due in absurd (cc));
      }

  sum_int : AllByRecursion (IsValueOf sql.Int) vs → HasMeaningOn Sum sql.Int vs
  sum_int h =
      let are = each_of sql.Int IsNumber (inl refl) (λ n w. inr (n, refl)) h in
      let ints = numbers_int vs (each_of sql.Int IsIntValue (inl refl) (λ n w. inr (n, refl, w)) h) in
      record {
        gives = inl refl;
        taken = taken_of sql.Int (TakesValue Sum sql.Int) (λ n w. inr (n, refl)) h;
        numbers = λ e. numbers_known vs are;
        result = λ v is. sum_result sql.Int v are (record { form = refl; whole = tt }) (λ x e. record { form = refl; whole = subst IsInt (sym e) (total_int (numbers_of vs) ints) }) is;
      }

  sum_numeric : AllByRecursion (IsValueOf sql.Numeric) vs → HasMeaningOn Sum sql.Numeric vs
  sum_numeric h =
      let are = each_of sql.Numeric IsNumber (inl refl) (λ n. inr (n, refl)) h in
      record {
        gives = inr refl;
        taken = taken_of sql.Numeric (TakesValue Sum sql.Numeric) (λ n. inr (n, refl)) h;
        numbers = λ e. numbers_known vs are;
        result = λ v is. sum_result sql.Numeric v are (record { form = refl; whole = tt }) (λ x e. record { form = refl; whole = tt }) is;
      }

  -- ---- aggregates over time
  t_count : (a : SqlType) → OnForms a (IsThereBy one_there) → AllByRecursion (IsValueOf a) vs → HasMeaningOn TCount sql.TInt vs
  t_count a forms h =
      let seen = each_of a (IsThereBy one_there) (λ t. refl) forms h in
      record {
        gives = refl;
        taken = known_all (TakesValue TCount sql.TInt) vs (each_on (IsThereBy one_there) (λ v. (v ≡ Null) ⊎ TakesValue TCount sql.TInt v) (λ v s. inr s) vs seen);
        numbers = λ e. absurd (cc);
        result = λ v is. record {
          own = own_of one_there (steady_course same) MovingInt count (λ m e. absurd (cc)) sql.TInt vs v (record { form = refl; whole = tt })
              (λ m n at. tint_of m n (λ t x e. let w = at t x e in subst IsInt (sym w.2) (whole_int (pos (length w.0))))) is;
          null = null_due one_there (steady_course same) MovingInt count (λ m e. absurd (cc)) vs v seen is;
        };
      }

  t_sum_int : AllByRecursion (IsValueOf sql.TInt) vs → HasMeaningOn TSum sql.TInt vs
  t_sum_int h =
      let seen = each_of sql.TInt (IsThereBy step_there) (λ t. refl) (λ m w t. refl) h in
      record {
        gives = inl refl;
        taken = taken_of sql.TInt (TakesValue TSum sql.TInt) (λ m w. inr (m, refl, λ t. refl)) h;
        numbers = λ e. absurd (cc);
        result = λ v is. record {
          own = own_of step_there (steady_course same) MovingInt total (λ m e. absurd (cc)) sql.TInt vs v (record { form = refl; whole = tt })
              (λ m n at. tint_of m n (λ t x e. let w = at t x e in subst IsInt (sym w.2) (total_int w.0 (subst (AllByRecursion IsInt) w.1 (ints_at t))))) is;
          null = null_due step_there (steady_course same) MovingInt total (λ m e. absurd (cc)) vs v seen is;
        };
      }
    where
      ints_at : (t : Ratio) → AllByRecursion IsInt (values_at step_there vs t)
      ints_at t = each_there step_there IsInt vs t (each_of sql.TInt (λ v. (x : Ratio) → step_there v t ≡ Some x → IsInt x) (λ x e. absurd (cc)) (λ m w x e. ints_there m w t x e) h)

  t_sum_frac : AllByRecursion (IsValueOf sql.TFrac) vs → HasMeaningOn TSum sql.TFrac vs
  t_sum_frac h =
      let seen = each_of sql.TFrac (IsThereBy line_there) (λ t. refl) (λ m t. refl) h in
      record {
        gives = inr refl;
        taken = taken_of sql.TFrac (TakesValue TSum sql.TFrac) (λ m. inr (m, refl, λ t. refl)) h;
        numbers = λ e. absurd (cc);
        result = λ v is. record {
          own = own_of line_there line_course MovingFrac total (λ m e. absurd (cc)) sql.TFrac vs v (record { form = refl; whole = tt }) (λ m n at. record { form = refl; whole = tt }) is;
          null = null_due line_there line_course MovingFrac total (λ m e. absurd (cc)) vs v seen is;
        };
      }

  truths_seen : AllByRecursion (IsValueOf sql.TBool) vs → AllByRecursion (IsThereBy truth_there) vs
  truths_seen h = each_of sql.TBool (IsThereBy truth_there) (λ t. refl) (λ m t. refl) h

  truth_result : (f : List Bool → Bool) (v : Value) → AllByRecursion (IsValueOf sql.TBool) vs → IsOverTime (steady_course same_bool) MovingBool f truth_there vs v → IsValueOf sql.TBool v × ((v ≡ Null) ↔ ((t : Ratio) → AllByRecursion (λ w. is_there t w ≡ false) vs))
  truth_result f v h is = (
    own_of truth_there (steady_course same_bool) MovingBool f (λ m e. absurd (cc)) sql.TBool vs v (record { form = refl; whole = tt }) (λ m n at. record { form = refl; whole = tt }) is,
    null_due truth_there (steady_course same_bool) MovingBool f (λ m e. absurd (cc)) vs v (truths_seen h) is,
  )

  t_and : AllByRecursion (IsValueOf sql.TBool) vs → HasMeaningOn TAnd sql.TBool vs
  t_and h = record {
    gives = refl;
    taken = taken_of sql.TBool (TakesValue TAnd sql.TBool) (λ m. inr (m, refl, λ t. refl)) h;
    numbers = λ e. absurd (cc);
    result = λ v is. let r = truth_result all_hold v h is in record { own = r.0; null = r.1 };
  }

  t_or : AllByRecursion (IsValueOf sql.TBool) vs → HasMeaningOn TOr sql.TBool vs
  t_or h = record {
    gives = refl;
    taken = taken_of sql.TBool (TakesValue TOr sql.TBool) (λ m. inr (m, refl, λ t. refl)) h;
    numbers = λ e. absurd (cc);
    result = λ v is. let r = truth_result some_holds v h is in record { own = r.0; null = r.1 };
  }

  each_known : AllByRecursion (λ v. Unit {0}) (known_of vs)
  each_known = known_all (λ v. Unit {0}) vs (each_unit vs)
    where
      each_unit : (ws : List Value) → AllByRecursion (λ v. (v ≡ Null) ⊎ Unit {0}) ws
      each_unit [] = tt
      each_unit (w ∷ ws) = (inr tt, each_unit ws)

  count_all : HasMeaningOn CountAll sql.Int vs
  count_all = record {
    gives = refl;
    taken = each_known;
    numbers = λ e. absurd (cc);
    result = λ v is. count_result CountAll (length vs) v (λ due. due) is;
  }

  count_known : HasMeaningOn Count sql.Int vs
  count_known = record {
    gives = refl;
    taken = each_known;
    numbers = λ e. absurd (cc);
    result = λ v is. count_result Count (length (known_of vs)) v (λ due. due) is;
  }

  -- ---- the rows of the table
  meant_as : (kind : AggKind) (a : SqlType) → AllByRecursion (IsValueOf a) vs → MatchOption (aggregate_type kind a) (Unit {0}) (λ ty. HasMeaningOn kind ty vs)
  meant_as CountAll a h = count_all
  meant_as Count a h = count_known
  meant_as Sum sql.Int h = sum_int h
  meant_as Sum sql.Numeric h = sum_numeric h
  meant_as Sum _ h = tt
  meant_as TCount sql.TBool h = t_count sql.TBool (λ m t. one_seen (step_function m t)) h
  meant_as TCount sql.TInt h = t_count sql.TInt (λ m w t. one_seen (step_function m t)) h
  meant_as TCount sql.TFrac h = t_count sql.TFrac (λ m t. one_seen (line_function m t)) h
  meant_as TCount sql.TText h = t_count sql.TText (λ m t. one_seen (step_function m t)) h
  meant_as TCount sql.TPoint h = t_count sql.TPoint (λ m t. one_seen (plane_function m t)) h
  meant_as TCount _ h = tt
  meant_as TSum sql.TInt h = t_sum_int h
  meant_as TSum sql.TFrac h = t_sum_frac h
  meant_as TSum _ h = tt
  meant_as TAnd sql.TBool h = t_and h
  meant_as TAnd _ h = tt
  meant_as TOr sql.TBool h = t_or h
  meant_as TOr _ h = tt

  type_of_row : (a : SqlType) (o : Option AggKind) (kind : AggKind) (ty : SqlType) → ◌≡◌ {A = Option (AggKind × SqlType)} (option_and_then (λ k. option_map (λ r. (k, r)) (aggregate_type k a)) o) (Some (kind, ty)) → aggregate_type kind a ≡ Some ty
  type_of_row a None kind ty e = absurd (cc)
  type_of_row a (Some k) kind ty e = by (aggregate_type k a) refl e
    where
      by : (x : Option SqlType) → aggregate_type k a ≡ x → ◌≡◌ {A = Option (AggKind × SqlType)} (option_map (λ r. (k, r)) x) (Some (kind, ty)) → aggregate_type kind a ≡ Some ty
      by None is w = absurd (cc)
      by (Some r) is w =
          let both : ◌≡◌ {A = AggKind × SqlType} (k, r) (kind, ty) = cc in
          let same_kind = ap (λ (z : AggKind × SqlType). z.0) both in
          let same_type = ap (λ (z : AggKind × SqlType). z.1) both in
          subst (λ z. aggregate_type z a ≡ Some ty) same_kind (is ∙ ap Some same_type)

  row_meant : (a : SqlType) (kind : AggKind) (ty : SqlType) → aggregate_type kind a ≡ Some ty → AllByRecursion (IsValueOf a) vs → HasMeaningOn kind ty vs
  row_meant a kind ty e h = subst (λ o. MatchOption o (Unit {0}) (λ t. HasMeaningOn kind t vs)) e (meant_as kind a h)

pub aggregate_rows : AggregateRowsHaveMeanings
aggregate_rows e agg vs of h = elim of [
  | inl all ↦ subst (λ k. HasMeaningOn k agg.ty vs) (sym all.0) (subst (λ t. HasMeaningOn CountAll t vs) (sym all.1) (count_all vs))
  | inr row ↦ row_meant vs (type_of e) agg.kind agg.ty (type_of_row vs (type_of e) (aggregate_named row.0) agg.kind agg.ty row.1) h
]

-- ---- the columns of a query
each_tuple : (P : List ℕ → TypedTree → Type 0) (items : List Output) → ((tuple : List ℕ) → AllByRecursion (P tuple) (map (λ o. o.0) items)) → AllByRecursion (λ o. (tuple : List ℕ) → P tuple o.0) items
each_tuple P [] h = tt
each_tuple P (o ∷ items) h = ((λ tuple. (h tuple).0), each_tuple P items (λ tuple. (h tuple).1))

module _ (Q : AnswerColumn → Type 0) (P : Output → Type 0) (R : Output → Option Agg → Type 0) (all : List (Option Agg)) (means : (o : Output) (a : Option Agg) → P o → R o a → Q (o.0, a)) where
  each_column : (n : ℕ) (items : List Output) (aggs : List (Option Agg)) → ((k : ℕ) → slice_get all (n + k) ≡ slice_get aggs k) → AllByRecursion P items → AllZip R items aggs → AllByRecursion Q (columns_from all n items)
  each_column n [] aggs at h r = tt
  each_column n (o ∷ items) [] at h r = absurd r
  each_column n (o ∷ items) (a ∷ aggs) at h r =
      let zero_more : n + 0 ≡ n = omega arith in
      let here : agg_at all n ≡ a = ap (option_and_then (λ x. x)) (ap (slice_get all) (sym zero_more) ∙ at 0) in
      (subst (λ x. Q (o.0, x)) (sym here) (means o a h.0 r.0), each_column (n + 1) items aggs (λ k. let next : n + 1 + k ≡ n + suc k = omega arith in ap (slice_get all) next ∙ at (suc k)) h.1 r.1)

module _ (evaluated : EvaluatesToItsValue) (typed_expressions : TypedExpressionsHaveTheirTypes) where
  module _ (c : Catalogue) (q : TypedSelectParts) (terms : Terms) (h : IsTypedFor c q) (group : List (List ℕ)) where
    abbrev HasTypes : Output → Type 0
    HasTypes o = HasStoredTypes c q.from o.0 × ((tuple : List ℕ) → HasItsType (scene c.store q.from tuple terms) o.0)

    both_all : (items : List Output) → AllByRecursion (λ o. HasStoredTypes c q.from o.0) items → AllByRecursion (λ o. (tuple : List ℕ) → HasItsType (scene c.store q.from tuple terms) o.0) items → AllByRecursion HasTypes items
    both_all [] s k = tt
    both_all (o ∷ items) s k = ((s.0, k.0), both_all items s.1 k.1)

    items_typed : AllByRecursion HasTypes q.items
    items_typed = both_all q.items h.items (each_tuple (λ tuple e. HasItsType (scene c.store q.from tuple terms) e) q.items (λ tuple. (each_parts (HasItsType (scene c.store q.from tuple terms)) (map (λ o. o.0) q.items) (flat_map condition_alone q.joins ++ (condition_alone q.cond ++ (q.groups ++ map (λ k. k.0) q.keys))) (typed_expressions c q terms tuple h)).0))

    -- the argument of an aggregate on a tuple
    argument_own : (kind : AggKind) (s : Scene) (e : TypedTree) (w : Value) → HasItsType s e → IsArgumentOf kind s e (Ok w) → IsValueOf (type_of e) w
    argument_own CountAll s e w k is = let null : w ≡ Null = cc in subst (IsValueOf (type_of e)) (sym null) (null_of (type_of e))
    argument_own _ s e w k is = k w (evaluated s e w is)

    arguments_own : (e : TypedTree) (agg : Agg) (tuples : List (List ℕ)) (vs : List Value) → ((tuple : List ℕ) → HasItsType (scene c.store q.from tuple terms) e) → AllZip (λ t w. IsArgumentOn q c.store terms t (e, Some agg) (Ok w)) tuples vs → AllByRecursion (IsValueOf (type_of e)) vs
    arguments_own e agg [] [] k is = tt
    arguments_own e agg [] (w ∷ vs) k is = absurd is
    arguments_own e agg (t ∷ tuples) [] k is = absurd is
    arguments_own e agg (t ∷ tuples) (w ∷ vs) k is = (argument_own agg.kind (scene c.store q.from t terms) e w (k t) is.0, arguments_own e agg tuples vs k is.1)

    -- the value of a column of GROUP BY
    first_own : (e : TypedTree) (tuples : List (List ℕ)) → HasStoredTypes c q.from e → IsValueOf (type_of e) (first_value q c.store terms tuples e)
    first_own e [] s = null_of (type_of e)
    first_own (typed o ty place none) (t ∷ tuples) s = leaf_of_type c h.rows q.from t terms o ty s.0
    first_own (typed o ty place (more a args)) (t ∷ tuples) s = null_of ty

    argument_meant : (o : Output) (a : Option Agg) → HasTypes o → IsTypedItem q.grouped q.groups o a → (agg : Agg) (vs : List Value) → a ≡ Some agg → AllZip (λ t w. IsArgumentOn q c.store terms t (o.0, a) (Ok w)) group vs → ArgumentsHaveMeaning o.0 agg vs
    argument_meant o None k item agg vs e is = absurd (cc)
    argument_meant o (Some b) k item agg vs e is =
        let same_agg : b ≡ agg = cc in
        let own = arguments_own o.0 b group vs k.1 is in
        subst (λ x. ArgumentsHaveMeaning o.0 x vs) same_agg (record { own = own; meant = aggregate_rows o.0 b vs item.1 own })

    value_own : (o : Output) (a : Option Agg) → HasTypes o → IsTypedItem q.grouped q.groups o a → (v : Value) → IsColumnValue q c.store terms group (o.0, a) v → IsValueOf (value_type o.0 a) v
    value_own o None k item v is = subst (IsValueOf (type_of o.0)) (sym is) (first_own o.0 group k.0)
    value_own o (Some agg) k item v is = ((argument_meant o (Some agg) k item agg is.0 refl is.1).meant.result v is.2).own

    column_meant : (o : Output) (a : Option Agg) → HasTypes o → IsTypedItem q.grouped q.groups o a → ColumnHasMeaning c q terms group (o.0, a)
    column_meant o a k item = record { own = value_own o a k item; arguments = argument_meant o a k item }

    columns_meant : AllByRecursion (ColumnHasMeaning c q terms group) (columns_of q)
    columns_meant = each_column (ColumnHasMeaning c q terms group) HasTypes (IsTypedItem q.grouped q.groups) q.aggs column_meant 0 q.items q.aggs (λ k. let same : 0 + k ≡ k = omega arith in ap (slice_get q.aggs) same) items_typed h.aggs

  pub typed_columns : TypedColumnsHaveMeanings
  typed_columns c q terms group h = columns_meant c q terms h group

  pub run_columns : QueriesAreTyped → RunColumnsHaveMeanings
  run_columns fit settings input count text run q group next = typed_columns run.stands.catalogue q (terms_of settings) group (fit settings input count text run (query q) next)
