-- The operators on values that do not change over time, and those on whole values.
use Rattle.std.proofs.Common.{◌≡◌, ◌∙◌, ℕ, ℤ, Bool, true, false, not, true≢false, List, [], ◌∷◌, option_map, refl, sym, Option, Some, None}
use Rattle.mob_ratio.specs.Ratio.{Ratio, neg_ℚ}
use Rattle.mob_written.specs.Values.{is_whole_number}
use Rattle.mob_ast.{specs.declared.types.Cmp.{Cmp}, specs.declared.types.SqlType.{SqlType}}
use Rattle.mob_operators.specs.declared.operator.Op.{Op}
use Rattle.mob_value.{specs.declared.value.Value.{Value}, specs.declared.value.Value.TheVariants.{Null, Bool as Truth, Number, Text, Box}, specs.Truths.{known, IsTruthOf}, specs.Relations.{rel_of}}
use Rattle.mob_slice.specs.declared.comparison.Rel.{Rel}
use Rattle.mob_ordinary.specs.Ordinary.{truth_of, IsEquality, ordered, IsTest, negated, unchanged, conjunction, disjunction}
use Rattle.mob_arith.{specs.declared.sql.calculation.Calculation.{Calculation}, specs.Sql.Arithmetic.{on_numbers}, specs.Sql.Calculations.{result_by}, specs.Sql.Lifting.{concatenation}}
use Rattle.mob_clip.specs.Sql.Boxes.{IsStBox}
use Rattle.mob_meaning.specs.Operators.{printed_text}
use Rattle.mob_catalog.specs.OwnTypes.{IsValueOf}
use Rattle.mob_operands.{specs.Rows.{HaveNull, NullIsDue, IsAnswer}, proofs.Forms.{OnForms, by_type, by_types, null_answer, made_answer, truth_answer, first_null, second_null}}
use Rattle.mob_operands.proofs.Whole.{int_by, int_neg}
use Rattle.mob_ast.specs.declared.types.Cmp.TheVariants as cmp
use Rattle.mob_ast.specs.declared.types.SqlType.TheVariants as sql
use Rattle.mob_operators.specs.declared.operator.Op.TheVariants as op

-- whether two types can be compared by `=`: equal types, or two types of numbers
abbrev pub are_compared : SqlType → SqlType → Bool
are_compared sql.Bool sql.Bool = true
are_compared sql.Int sql.Int = true
are_compared sql.Int sql.Numeric = true
are_compared sql.Numeric sql.Int = true
are_compared sql.Numeric sql.Numeric = true
are_compared sql.Text sql.Text = true
are_compared sql.Moment sql.Moment = true
are_compared sql.Point sql.Point = true
are_compared sql.Span sql.Span = true
are_compared sql.SpanSet sql.SpanSet = true
are_compared sql.Box sql.Box = true
are_compared sql.TBool sql.TBool = true
are_compared sql.TInt sql.TInt = true
are_compared sql.TInt sql.TFrac = true
are_compared sql.TFrac sql.TInt = true
are_compared sql.TFrac sql.TFrac = true
are_compared sql.TText sql.TText = true
are_compared sql.TPoint sql.TPoint = true
are_compared _ _ = false

-- whether two types are ordered
abbrev pub are_ordered : SqlType → SqlType → Bool
are_ordered sql.Int sql.Int = true
are_ordered sql.Int sql.Numeric = true
are_ordered sql.Numeric sql.Int = true
are_ordered sql.Numeric sql.Numeric = true
are_ordered sql.Text sql.Text = true
are_ordered sql.Moment sql.Moment = true
are_ordered _ _ = false

-- the results of a relation on two operands are such answers
abbrev Answers : Op → SqlType → (Value → Value → Value → Type 0) → Value → Value → Type 0
Answers o ty G a b = (v : Value) → G a b v → IsAnswer o ty (a ∷ b ∷ []) v

module _ (c : Cmp) (wanted : Bool) where
  abbrev Equal : Value → Value → Type 0
  Equal a b = Answers (op.Test c) sql.Bool (IsEquality wanted) a b

  no_first : (b : Value) → Equal Null b
  no_first b v g = null_answer (op.Test c) sql.Bool (Null ∷ b ∷ []) v (first_null b) g

  pub beside_null : (a v : Value) → IsEquality wanted a Null v → v ≡ Null
  beside_null Null v g = g
  beside_null (Truth x) v g = g
  beside_null _ v g = g

  no_second : (a : Value) → Equal a Null
  no_second a v g = null_answer (op.Test c) sql.Bool (a ∷ Null ∷ []) v (second_null a) (beside_null a v g)

  truths : (a b : Value) (P : Type 0) (v : Value) → IsTruthOf wanted P v → IsAnswer (op.Test c) sql.Bool (a ∷ b ∷ []) v
  truths a b P v g = truth_answer (op.Test c) (a ∷ b ∷ []) v _ g.2

  by_forms : (t u : SqlType) → OnForms t (λ a. OnForms u (Equal a)) → (a b : Value) → IsValueOf t a → IsValueOf u b → Equal a b
  by_forms t u f a b h k = by_types t u Equal no_first no_second f a b h k

  pub equality_answers : (t u : SqlType) → are_compared t u ≡ true → (a b : Value) → IsValueOf t a → IsValueOf u b → Equal a b
  equality_answers sql.Bool sql.Bool e = by_forms sql.Bool sql.Bool (λ x y v g. truths _ _ _ v g)
  equality_answers sql.Int sql.Int e = by_forms sql.Int sql.Int (λ x i y j v g. truths _ _ _ v g)
  equality_answers sql.Int sql.Numeric e = by_forms sql.Int sql.Numeric (λ x i y v g. truths _ _ _ v g)
  equality_answers sql.Numeric sql.Int e = by_forms sql.Numeric sql.Int (λ x y j v g. truths _ _ _ v g)
  equality_answers sql.Numeric sql.Numeric e = by_forms sql.Numeric sql.Numeric (λ x y v g. truths _ _ _ v g)
  equality_answers sql.Text sql.Text e = by_forms sql.Text sql.Text (λ x y v g. truths _ _ _ v g)
  equality_answers sql.Moment sql.Moment e = by_forms sql.Moment sql.Moment (λ x y v g. truths _ _ _ v g)
  equality_answers sql.Point sql.Point e = by_forms sql.Point sql.Point (λ x y v g. truths _ _ _ v g)
  equality_answers sql.Span sql.Span e = by_forms sql.Span sql.Span (λ x y v g. truths _ _ _ v g)
  equality_answers sql.SpanSet sql.SpanSet e = by_forms sql.SpanSet sql.SpanSet (λ x y v g. truths _ _ _ v g)
  equality_answers sql.Box sql.Box e = by_forms sql.Box sql.Box (λ x y v g. truths _ _ _ v g)
  equality_answers sql.TBool sql.TBool e = by_forms sql.TBool sql.TBool (λ x y v g. truths _ _ _ v g)
  equality_answers sql.TInt sql.TInt e = by_forms sql.TInt sql.TInt (λ x i y j v g. truths _ _ _ v g)
  equality_answers sql.TInt sql.TFrac e = by_forms sql.TInt sql.TFrac (λ x i y v g. truths _ _ _ v g)
  equality_answers sql.TFrac sql.TInt e = by_forms sql.TFrac sql.TInt (λ x y j v g. truths _ _ _ v g)
  equality_answers sql.TFrac sql.TFrac e = by_forms sql.TFrac sql.TFrac (λ x y v g. truths _ _ _ v g)
  equality_answers sql.TText sql.TText e = by_forms sql.TText sql.TText (λ x y v g. truths _ _ _ v g)
  equality_answers sql.TPoint sql.TPoint e = by_forms sql.TPoint sql.TPoint (λ x y v g. truths _ _ _ v g)
  equality_answers _ _ e = absurd (true≢false (sym e))

-- ---- operations that compute a value from two

-- The result of an operation on two values is an answer if it is NULL only for a NULL, and of the
-- result's type for two values of the types.
module _ (o : Op) (ty : SqlType) (f : Value → Value → Value) (due : (a b : Value) → HaveNull (a ∷ b ∷ []) → NullIsDue o ty (a ∷ b ∷ [])) (left : (b : Value) → f Null b ≡ Null) (right : (a : Value) → f a Null ≡ Null) where
  abbrev Made : Value → Value → Type 0
  Made a b = Answers o ty (λ a b v. v ≡ f a b) a b

  pub made_by : (t u : SqlType) → OnForms t (λ a. OnForms u (Made a)) → (a b : Value) → IsValueOf t a → IsValueOf u b → Made a b
  made_by t u g a b h k = by_types t u Made
      (λ b v e. null_answer o ty (Null ∷ b ∷ []) v (due Null b (first_null b)) (e ∙ left b))
      (λ a v e. null_answer o ty (a ∷ Null ∷ []) v (due a Null (second_null a)) (e ∙ right a)) g a b h k

truth_made : (o : Op) (a b : Value) (x : Bool) (v : Value) → v ≡ Truth x → IsAnswer o sql.Bool (a ∷ b ∷ []) v
truth_made o a b x v e = truth_answer o (a ∷ b ∷ []) v x e

module _ (c : Cmp) (r : Rel) where
  pub order_right : (a : Value) → ordered r a Null ≡ Null
  order_right Null = refl
  order_right (Truth x) = refl
  order_right _ = refl

  by_order : (t u : SqlType) → OnForms t (λ a. OnForms u (λ b. Answers (op.Test c) sql.Bool (λ a b v. v ≡ ordered r a b) a b)) → (a b : Value) → IsValueOf t a → IsValueOf u b → Answers (op.Test c) sql.Bool (λ a b v. v ≡ ordered r a b) a b
  by_order t u g a b h k = made_by (op.Test c) sql.Bool (ordered r) (λ a b n. n) (λ b. refl) order_right t u g a b h k

  pub order_answers : (t u : SqlType) → are_ordered t u ≡ true → (a b : Value) → IsValueOf t a → IsValueOf u b → Answers (op.Test c) sql.Bool (λ a b v. v ≡ ordered r a b) a b
  order_answers sql.Int sql.Int e = by_order sql.Int sql.Int (λ x i y j v g. truth_made (op.Test c) _ _ _ v g)
  order_answers sql.Int sql.Numeric e = by_order sql.Int sql.Numeric (λ x i y v g. truth_made (op.Test c) _ _ _ v g)
  order_answers sql.Numeric sql.Int e = by_order sql.Numeric sql.Int (λ x y j v g. truth_made (op.Test c) _ _ _ v g)
  order_answers sql.Numeric sql.Numeric e = by_order sql.Numeric sql.Numeric (λ x y v g. truth_made (op.Test c) _ _ _ v g)
  order_answers sql.Text sql.Text e = by_order sql.Text sql.Text (λ x y v g. truth_made (op.Test c) _ _ _ v g)
  order_answers sql.Moment sql.Moment e = by_order sql.Moment sql.Moment (λ x y v g. truth_made (op.Test c) _ _ _ v g)
  order_answers _ _ e = absurd (true≢false (sym e))

-- the types that a comparison takes
abbrev pub are_tested : Cmp → SqlType → SqlType → Bool
are_tested cmp.Eq t u = are_compared t u
are_tested cmp.Ne t u = are_compared t u
are_tested _ t u = are_ordered t u

pub test_answers : (c : Cmp) (t u : SqlType) → are_tested c t u ≡ true → (a b : Value) → IsValueOf t a → IsValueOf u b → Answers (op.Test c) sql.Bool (IsTest c) a b
test_answers cmp.Eq t u e a b h k v g = equality_answers cmp.Eq true t u e a b h k v g
test_answers cmp.Ne t u e a b h k v g = equality_answers cmp.Ne false t u e a b h k v g
test_answers cmp.Lt t u e a b h k v g = order_answers cmp.Lt (rel_of cmp.Lt) t u e a b h k v g
test_answers cmp.Le t u e a b h k v g = order_answers cmp.Le (rel_of cmp.Le) t u e a b h k v g
test_answers cmp.Gt t u e a b h k v g = order_answers cmp.Gt (rel_of cmp.Gt) t u e a b h k v g
test_answers cmp.Ge t u e a b h k v g = order_answers cmp.Ge (rel_of cmp.Ge) t u e a b h k v g

-- ---- plain numbers

pub number_right : (f : Ratio → Ratio → Ratio) (a : Value) → on_numbers f a Null ≡ Null
number_right f Null = refl
number_right f (Truth x) = refl
number_right f _ = refl

abbrev pub is_plain_number : SqlType → Bool
is_plain_number sql.Int = true
is_plain_number sql.Numeric = true
is_plain_number _ = false

-- the type of a result of two plain numbers: an int of two ints
abbrev pub is_plain_result : SqlType → SqlType → SqlType → Bool
is_plain_result sql.Int sql.Int sql.Int = true
is_plain_result sql.Numeric sql.Int sql.Numeric = true
is_plain_result sql.Numeric sql.Numeric sql.Int = true
is_plain_result sql.Numeric sql.Numeric sql.Numeric = true
is_plain_result _ _ _ = false

module _ (o : Op) (by : Calculation) (ty : SqlType) (due : (a b : Value) → HaveNull (a ∷ b ∷ []) → NullIsDue o ty (a ∷ b ∷ [])) where
  abbrev Calculated : Value → Value → Type 0
  Calculated a b = Answers o ty (λ a b v. v ≡ on_numbers (result_by by) a b) a b

  by_numbers : (t u : SqlType) → OnForms t (λ a. OnForms u (Calculated a)) → (a b : Value) → IsValueOf t a → IsValueOf u b → Calculated a b
  by_numbers t u g a b h k = made_by o ty (on_numbers (result_by by)) due (λ b. refl) (number_right (result_by by)) t u g a b h k

module _ (o : Op) where
  int_made : (a b : Value) (n : Ratio) → is_whole_number n ≡ true → (v : Value) → v ≡ Number n → IsAnswer o sql.Int (a ∷ b ∷ []) v
  int_made a b n w v e = made_answer o sql.Int (a ∷ b ∷ []) v (Number n) refl w (λ k. absurd (cc k)) e

  pub numeric_made : (a b : Value) (n : Ratio) (v : Value) → v ≡ Number n → IsAnswer o sql.Numeric (a ∷ b ∷ []) v
  numeric_made a b n v e = made_answer o sql.Numeric (a ∷ b ∷ []) v (Number n) refl tt (λ k. absurd (cc k)) e

module _ (o : Op) (by : Calculation) (due : (ty : SqlType) → is_plain_number ty ≡ true → (a b : Value) → HaveNull (a ∷ b ∷ []) → NullIsDue o ty (a ∷ b ∷ [])) where
  pub number_answers : (ty t u : SqlType) → is_plain_result ty t u ≡ true → (a b : Value) → IsValueOf t a → IsValueOf u b → Answers o ty (λ a b v. v ≡ on_numbers (result_by by) a b) a b
  number_answers sql.Int sql.Int sql.Int e = by_numbers o by sql.Int (due sql.Int refl) sql.Int sql.Int (λ x i y j v g. int_made o _ _ _ (int_by by x y i j) v g)
  number_answers sql.Numeric sql.Int sql.Numeric e = by_numbers o by sql.Numeric (due sql.Numeric refl) sql.Int sql.Numeric (λ x i y v g. numeric_made o _ _ _ v g)
  number_answers sql.Numeric sql.Numeric sql.Int e = by_numbers o by sql.Numeric (due sql.Numeric refl) sql.Numeric sql.Int (λ x y j v g. numeric_made o _ _ _ v g)
  number_answers sql.Numeric sql.Numeric sql.Numeric e = by_numbers o by sql.Numeric (due sql.Numeric refl) sql.Numeric sql.Numeric (λ x y v g. numeric_made o _ _ _ v g)
  number_answers _ _ _ e = absurd (true≢false (sym e))

-- ---- a text after a text

pub join_right : (a : Value) → concatenation a Null ≡ Null
join_right Null = refl
join_right (Truth x) = refl
join_right _ = refl

pub join_answers : (a b : Value) → IsValueOf sql.Text a → IsValueOf sql.Text b → Answers op.Join sql.Text (λ a b v. v ≡ concatenation a b) a b
join_answers a b h k = made_by op.Join sql.Text concatenation (λ a b n. n) (λ b. refl) join_right sql.Text sql.Text
    (λ x y v e. made_answer op.Join sql.Text _ v (Text _) refl tt (λ n. absurd (cc n)) e) a b h k

-- ---- one operand

abbrev pub AnswersOne : Op → SqlType → (Value → Value → Type 0) → Value → Type 0
AnswersOne o ty G a = (v : Value) → G a v → IsAnswer o ty (a ∷ []) v

pub null_test_answers : (wanted : Bool) (o : Op) (a : Value) (b : Bool) → AnswersOne o sql.Bool (λ a v. v ≡ Truth b) a
null_test_answers wanted o a b v e = truth_answer o (a ∷ []) v b e

pub not_answers : (a : Value) → IsValueOf sql.Bool a → AnswersOne op.Not sql.Bool (λ a v. v ≡ known (option_map not (truth_of a))) a
not_answers a h = by_type sql.Bool (AnswersOne op.Not sql.Bool (λ a v. v ≡ known (option_map not (truth_of a))))
    (λ v e. null_answer op.Not sql.Bool (Null ∷ []) v refl e) (λ x v e. truth_answer op.Not _ v _ e) a h

pub negative_int : (a : Value) → IsValueOf sql.Int a → AnswersOne op.Negate sql.Int (λ a v. v ≡ negated a) a
negative_int a h = by_type sql.Int (AnswersOne op.Negate sql.Int (λ a v. v ≡ negated a))
    (λ v e. null_answer op.Negate sql.Int (Null ∷ []) v refl e) (λ x i v e. made_answer op.Negate sql.Int _ v (Number (neg_ℚ x)) refl (int_neg x i) (λ n. absurd (cc n)) e) a h

pub negative_numeric : (a : Value) → IsValueOf sql.Numeric a → AnswersOne op.Negate sql.Numeric (λ a v. v ≡ negated a) a
negative_numeric a h = by_type sql.Numeric (AnswersOne op.Negate sql.Numeric (λ a v. v ≡ negated a))
    (λ v e. null_answer op.Negate sql.Numeric (Null ∷ []) v refl e) (λ x v e. made_answer op.Negate sql.Numeric _ v (Number (neg_ℚ x)) refl tt (λ n. absurd (cc n)) e) a h

pub same_int : (a : Value) → IsValueOf sql.Int a → AnswersOne op.Same sql.Int (λ a v. v ≡ unchanged a) a
same_int a h = by_type sql.Int (AnswersOne op.Same sql.Int (λ a v. v ≡ unchanged a))
    (λ v e. null_answer op.Same sql.Int (Null ∷ []) v refl e) (λ x i v e. made_answer op.Same sql.Int _ v (Number x) refl i (λ n. absurd (cc n)) e) a h

pub same_numeric : (a : Value) → IsValueOf sql.Numeric a → AnswersOne op.Same sql.Numeric (λ a v. v ≡ unchanged a) a
same_numeric a h = by_type sql.Numeric (AnswersOne op.Same sql.Numeric (λ a v. v ≡ unchanged a))
    (λ v e. null_answer op.Same sql.Numeric (Null ∷ []) v refl e) (λ x v e. made_answer op.Same sql.Numeric _ v (Number x) refl tt (λ n. absurd (cc n)) e) a h

pub box_answers : (a : Value) → IsValueOf sql.TPoint a → AnswersOne op.BoxOf sql.Box IsStBox a
box_answers a h = by_type sql.TPoint (AnswersOne op.BoxOf sql.Box IsStBox)
    (λ v e. null_answer op.BoxOf sql.Box (Null ∷ []) v refl e) (λ x v g. made_answer op.BoxOf sql.Box _ v (Box g.0) refl tt (λ n. absurd (cc n)) g.2) a h

-- the types that have a printed text
abbrev pub is_printed : SqlType → Bool
is_printed sql.Point = true
is_printed sql.Polygon = true
is_printed sql.Span = true
is_printed sql.SpanSet = true
is_printed sql.Box = true
is_printed sql.TBool = true
is_printed sql.TInt = true
is_printed sql.TFrac = true
is_printed sql.TText = true
is_printed sql.TPoint = true
is_printed _ = false

module _ (day : ℤ) where
  abbrev Printed : Value → Type 0
  Printed a = AnswersOne op.AsText sql.Text (λ a v. v ≡ printed_text day a) a

  text_made : (a v : Value) (x : List ℕ) → v ≡ Text x → IsAnswer op.AsText sql.Text (a ∷ []) v
  text_made a v x e = made_answer op.AsText sql.Text (a ∷ []) v (Text x) refl tt (λ n. absurd (cc n)) e

  by_printed : (t : SqlType) → OnForms t Printed → (a : Value) → IsValueOf t a → Printed a
  by_printed t f a h = by_type t Printed (λ v e. null_answer op.AsText sql.Text (Null ∷ []) v refl e) f a h

  pub print_answers : (t : SqlType) → is_printed t ≡ true → (a : Value) → IsValueOf t a → Printed a
  print_answers sql.Point e = by_printed sql.Point (λ x v g. text_made _ v _ g)
  print_answers sql.Polygon e = by_printed sql.Polygon (λ x v g. text_made _ v _ g)
  print_answers sql.Span e = by_printed sql.Span (λ x v g. text_made _ v _ g)
  print_answers sql.SpanSet e = by_printed sql.SpanSet (λ x v g. text_made _ v _ g)
  print_answers sql.Box e = by_printed sql.Box (λ x v g. text_made _ v _ g)
  print_answers sql.TBool e = by_printed sql.TBool (λ x v g. text_made _ v _ g)
  print_answers sql.TInt e = by_printed sql.TInt (λ x i v g. text_made _ v _ g)
  print_answers sql.TFrac e = by_printed sql.TFrac (λ x v g. text_made _ v _ g)
  print_answers sql.TText e = by_printed sql.TText (λ x v g. text_made _ v _ g)
  print_answers sql.TPoint e = by_printed sql.TPoint (λ x v g. text_made _ v _ g)
  print_answers _ e = absurd (true≢false (sym e))

-- ---- the logic of truth values

known_answer : (o : Op) (vs : List Value) → NullIsDue o sql.Bool vs → (x : Option Bool) (v : Value) → v ≡ known x → IsAnswer o sql.Bool vs v
known_answer o vs due None v e = null_answer o sql.Bool vs v due e
known_answer o vs due (Some b) v e = truth_answer o vs v b e

pub and_answers : (a b : Value) → IsValueOf sql.Bool a → IsValueOf sql.Bool b → Answers op.And sql.Bool (λ a b v. v ≡ known (conjunction (truth_of a) (truth_of b))) a b
and_answers a b h k = by_types sql.Bool sql.Bool (Answers op.And sql.Bool (λ a b v. v ≡ known (conjunction (truth_of a) (truth_of b))))
    (λ b v e. known_answer op.And _ (first_null b) _ v e) (λ a v e. known_answer op.And _ (second_null a) _ v e) (λ x y v e. truth_answer op.And _ v _ e) a b h k

pub or_answers : (a b : Value) → IsValueOf sql.Bool a → IsValueOf sql.Bool b → Answers op.Or sql.Bool (λ a b v. v ≡ known (disjunction (truth_of a) (truth_of b))) a b
or_answers a b h k = by_types sql.Bool sql.Bool (Answers op.Or sql.Bool (λ a b v. v ≡ known (disjunction (truth_of a) (truth_of b))))
    (λ b v e. known_answer op.Or _ (first_null b) _ v e) (λ a v e. known_answer op.Or _ (second_null a) _ v e) (λ x y v e. truth_answer op.Or _ v _ e) a b h k
