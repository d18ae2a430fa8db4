-- Arithmetic, on plain numbers and at each instant.
use Rattle.std.{specs.Prelude.{cond, is_some}, proofs.Common.{◌≡◌, ◌∙◌, Bool, true, false, true≢false, List, [], ◌∷◌, Option, Some, None, map, refl, sym, ap, subst}}
use Rattle.mob_ratio.{specs.Ratio.{Ratio, ◌/ℚ◌}, specs.Order.{same}}
use Rattle.mob_slice.{specs.CourseOf.{steady_course}, specs.Lines.{line_value_of}, specs.Operands.{steady_value, map_both, IsPointwise}, specs.Sides.{given_at}, specs.declared.line.Line.{Line}}
use Rattle.mob_slice.specs.declared.slice.Slice.{Slice}
use Rattle.mob_value.{specs.Lines.{level_line, as_line}, specs.declared.value.Value.{Value}, specs.declared.value.Value.TheVariants.{Null, Bool as Truth, Number, MovingInt, MovingFrac}}
use Rattle.mob_value.{specs.Moving.{OverTime}, specs.Pairs.{OnOperands, OnPair, number_pair}, specs.Lifted.{IsMovingInt, IsMovingFrac}}
use Rattle.mob_ast.specs.declared.types.SqlType.{SqlType}
use Rattle.mob_operators.specs.declared.operator.Op.{Op}
use Rattle.mob_arith.{specs.Sql.Arithmetic.{is_nil, IsArithmetic, IsLineQuotient, IsQuotientOf, IsDivided, quotient}, specs.declared.sql.calculation.Calculation.{Calculation}}
use Rattle.mob_arith.{specs.declared.sql.calculation.Calculation.TheVariants.{Sum, Difference, Product}, specs.Sql.Calculations.{result_by}, specs.Sql.Factors.{product_pair}}
use Rattle.mob_catalog.specs.OwnTypes.{IsValueOf}
use Rattle.mob_operands.specs.Rows.{is_there, HaveNull, NullByType, NullIsDue, IsAnswer, DividesByOther}
use Rattle.mob_operands.proofs.Forms.{OnForms, by_types, null_answer, made_answer, function_answer, first_null, second_null}
use Rattle.mob_operands.proofs.Plain.{is_plain_number, is_plain_result, number_answers, numeric_made}
use Rattle.mob_operands.proofs.Together.{are_ints, are_lines, common, level_there, frac_row, int_right, by_pair, line_pair_answers}
use Rattle.mob_operands.proofs.Whole.{HasInts, ints_there, ints_of_one, tint_of, int_both}
use Rattle.mob_ast.specs.declared.types.SqlType.TheVariants as sql
use Rattle.mob_operators.specs.declared.operator.Op.TheVariants as op

-- two types whose values have a linear product
abbrev pub are_factors : SqlType → SqlType → Bool
are_factors sql.Int sql.TFrac = true
are_factors sql.Numeric sql.TFrac = true
are_factors sql.Numeric sql.TInt = true
are_factors sql.TFrac sql.Int = true
are_factors sql.TFrac sql.Numeric = true
are_factors sql.TInt sql.Numeric = true
are_factors sql.TInt sql.TFrac = true
are_factors sql.TFrac sql.TInt = true
are_factors _ _ = false

-- the types of a result and of two operands of a sum, a difference or a product
abbrev pub is_calculated : Calculation → SqlType → SqlType → SqlType → Bool
is_calculated by sql.Int t u = is_plain_result sql.Int t u
is_calculated by sql.Numeric t u = is_plain_result sql.Numeric t u
is_calculated by sql.TInt t u = are_ints t u
is_calculated Sum sql.TFrac t u = are_lines t u
is_calculated Difference sql.TFrac t u = are_lines t u
is_calculated Product sql.TFrac t u = are_factors t u
is_calculated _ _ _ _ = false

plain_due : (ty : SqlType) → is_plain_number ty ≡ true → (vs : List Value) → HaveNull vs → NullByType ty vs
plain_due sql.Int e vs n = n
plain_due sql.Numeric e vs n = n
plain_due _ e vs n = absurd (true≢false (sym e))

never_both : {X Y Z : Type 0} (f : X → Y → Z) (x : Option X) (y : Option Y) → is_some x ≡ true → is_some y ≡ true → map_both f x y ≡ None → ⊥
never_both f None y h k n = true≢false (sym h)
never_both f (Some x) None h k n = true≢false (sym k)
never_both f (Some x) (Some y) h k n = absurd (cc n)

pub product_right : (a : Value) → product_pair a Null ≡ None
product_right Null = refl
product_right (Truth x) = refl
product_right _ = refl

module _ (o : Op) (due : (ty : SqlType) (vs : List Value) → NullByType ty vs → NullIsDue o ty vs) (by : Calculation) where
  abbrev Calculated : SqlType → Value → Value → Type 0
  Calculated ty a b = (v : Value) → IsArithmetic by ty a b v → IsAnswer o ty (a ∷ b ∷ []) v

  -- ---- of whole numbers over time

  abbrev Ints : Value → Value → Type 0
  Ints a b = (v : Value) → OnPair (number_pair a b) (IsMovingInt (result_by by)) v → IsAnswer o sql.TInt (a ∷ b ∷ []) v

  -- on two operands that are these functions of time
  ints_made : (a b : Value) (f g : OverTime Ratio) → HasInts f → HasInts g → ((t : Ratio) → is_there t a ≡ true → is_some (f t) ≡ true) → ((t : Ratio) → is_there t b ≡ true → is_some (g t) ≡ true) → (v : Value) → IsMovingInt (result_by by) f g v → IsAnswer o sql.TInt (a ∷ b ∷ []) v
  ints_made a b f g h k l r v e = function_answer (steady_course same) MovingInt (IsPointwise steady_value (result_by by) f g) o sql.TInt (a ∷ b ∷ []) v
      (λ m p n. tint_of m n (λ t x q. int_both by (f t) (g t) (h t) (k t) x (sym (p t) ∙ q)))
      (λ m n. absurd (cc n))
      (λ p. due sql.TInt (a ∷ b ∷ []) (λ t c. never_both (result_by by) (f t) (g t) (l t c.0) (r t c.1.0) (p t))) e

  by_ints : (t u : SqlType) → OnForms t (λ a. OnForms u (Ints a)) → (a b : Value) → IsValueOf t a → IsValueOf u b → Ints a b
  by_ints t u f a b h k = by_pair o sql.TInt (λ a b n. due sql.TInt (a ∷ b ∷ []) n) number_pair (λ p v. IsMovingInt (result_by by) (given_at steady_value p.0) (given_at steady_value p.1) v) (λ b. refl) int_right t u f a b h k

  int_answers : (t u : SqlType) → are_ints t u ≡ true → (a b : Value) → IsValueOf t a → IsValueOf u b → Ints a b
  int_answers sql.TInt sql.TInt e = by_ints sql.TInt sql.TInt (λ x i y j v g. ints_made _ _ _ _ (ints_there x i) (ints_there y j) (λ t h. h) (λ t h. h) v g)
  int_answers sql.TInt sql.Int e = by_ints sql.TInt sql.Int (λ x i y j v g. ints_made _ _ _ _ (ints_there x i) (ints_of_one y j) (λ t h. h) (λ t h. h) v g)
  int_answers sql.Int sql.TInt e = by_ints sql.Int sql.TInt (λ x i y j v g. ints_made _ _ _ _ (ints_of_one x i) (ints_there y j) (λ t h. h) (λ t h. h) v g)
  int_answers _ _ e = absurd (true≢false (sym e))

  -- ---- linear products

  abbrev Multiplied : Value → Value → Type 0
  Multiplied a b = (v : Value) → OnOperands line_value_of steady_value (product_pair a b) (IsMovingFrac (result_by Product)) v → IsAnswer o sql.TFrac (a ∷ b ∷ []) v

  product_made : (a b : Value) (f g : OverTime Ratio) → ((t : Ratio) → is_there t a ≡ true → is_there t b ≡ true → (is_some (f t) ≡ true) × (is_some (g t) ≡ true)) → (v : Value) → IsMovingFrac (result_by Product) f g v → IsAnswer o sql.TFrac (a ∷ b ∷ []) v
  product_made a b f g there v e = record {
    own = (frac_row (result_by Product)).own f g v e;
    null = λ n. due sql.TFrac (a ∷ b ∷ []) (λ t h. let c = there t h.0 h.1.0 in (frac_row (result_by Product)).null f g v e n (common f g t c.0 c.1));
  }

  by_factors : (t u : SqlType) → OnForms t (λ a. OnForms u (Multiplied a)) → (a b : Value) → IsValueOf t a → IsValueOf u b → Multiplied a b
  by_factors t u f a b h k = by_pair o sql.TFrac (λ a b n. due sql.TFrac (a ∷ b ∷ []) n) product_pair (λ p v. IsMovingFrac (result_by Product) (given_at line_value_of p.0) (given_at steady_value p.1) v) (λ b. refl) product_right t u f a b h k

  product_answers : (t u : SqlType) → are_factors t u ≡ true → (a b : Value) → IsValueOf t a → IsValueOf u b → Multiplied a b
  product_answers sql.Int sql.TFrac e = by_factors sql.Int sql.TFrac (λ x i y v g. product_made _ _ _ _ (λ t h k. (k, refl)) v g)
  product_answers sql.Numeric sql.TFrac e = by_factors sql.Numeric sql.TFrac (λ x y v g. product_made _ _ _ _ (λ t h k. (k, refl)) v g)
  product_answers sql.Numeric sql.TInt e = by_factors sql.Numeric sql.TInt (λ x y j v g. product_made _ _ _ _ (λ t h k. (level_there y t k, refl)) v g)
  product_answers sql.TFrac sql.Int e = by_factors sql.TFrac sql.Int (λ x y j v g. product_made _ _ _ _ (λ t h k. (h, refl)) v g)
  product_answers sql.TFrac sql.Numeric e = by_factors sql.TFrac sql.Numeric (λ x y v g. product_made _ _ _ _ (λ t h k. (h, refl)) v g)
  product_answers sql.TInt sql.Numeric e = by_factors sql.TInt sql.Numeric (λ x i y v g. product_made _ _ _ _ (λ t h k. (level_there x t h, refl)) v g)
  product_answers sql.TInt sql.TFrac e = by_factors sql.TInt sql.TFrac (λ x i y v g. product_made _ _ _ _ (λ t h k. (k, h)) v g)
  product_answers sql.TFrac sql.TInt e = by_factors sql.TFrac sql.TInt (λ x y j v g. product_made _ _ _ _ (λ t h k. (h, k)) v g)
  product_answers _ _ e = absurd (true≢false (sym e))

module _ (o : Op) (due : (ty : SqlType) (vs : List Value) → NullByType ty vs → NullIsDue o ty vs) where
  pub calculated_answers : (by : Calculation) (ty t u : SqlType) → is_calculated by ty t u ≡ true → (a b : Value) → IsValueOf t a → IsValueOf u b → Calculated o due by ty a b
  calculated_answers by sql.Int t u e = number_answers o by (λ ty p a b n. due ty (a ∷ b ∷ []) (plain_due ty p (a ∷ b ∷ []) n)) sql.Int t u e
  calculated_answers by sql.Numeric t u e = number_answers o by (λ ty p a b n. due ty (a ∷ b ∷ []) (plain_due ty p (a ∷ b ∷ []) n)) sql.Numeric t u e
  calculated_answers by sql.TInt t u e = int_answers o due by t u e
  calculated_answers Sum sql.TFrac t u e = line_pair_answers o sql.TFrac (λ a b n. due sql.TFrac (a ∷ b ∷ []) n) (IsMovingFrac (result_by Sum)) (frac_row (result_by Sum)) t u e
  calculated_answers Difference sql.TFrac t u e = line_pair_answers o sql.TFrac (λ a b n. due sql.TFrac (a ∷ b ∷ []) n) (IsMovingFrac (result_by Difference)) (frac_row (result_by Difference)) t u e
  calculated_answers Product sql.TFrac t u e = product_answers o due Product t u e
  calculated_answers _ _ _ _ e = absurd (true≢false (sym e))

-- ---- quotients

-- the types of a quotient, of its dividend and of its divisor
abbrev pub is_divided : SqlType → SqlType → SqlType → Bool
is_divided sql.Numeric sql.Int sql.Int = true
is_divided sql.Numeric sql.Int sql.Numeric = true
is_divided sql.Numeric sql.Numeric sql.Int = true
is_divided sql.Numeric sql.Numeric sql.Numeric = true
is_divided sql.TFrac sql.TInt sql.Int = true
is_divided sql.TFrac sql.TInt sql.Numeric = true
is_divided sql.TFrac sql.TFrac sql.Int = true
is_divided sql.TFrac sql.TFrac sql.Numeric = true
is_divided _ _ _ = false

abbrev Divided : SqlType → Value → Value → Type 0
Divided ty a b = DividesByOther op.Divide (a ∷ b ∷ []) → (v : Value) → IsDivided ty a b v → IsAnswer op.Divide ty (a ∷ b ∷ []) v

pub quotient_right : (a : Value) → quotient a Null ≡ Null
quotient_right Null = refl
quotient_right (Truth x) = refl
quotient_right _ = refl

by_plain : (t u : SqlType) → OnForms t (λ a. OnForms u (Divided sql.Numeric a)) → (a b : Value) → IsValueOf t a → IsValueOf u b → Divided sql.Numeric a b
by_plain t u f a b h k = by_types t u (Divided sql.Numeric)
    (λ b d v g. null_answer op.Divide sql.Numeric (Null ∷ b ∷ []) v (first_null b) g)
    (λ a d v g. null_answer op.Divide sql.Numeric (a ∷ Null ∷ []) v (second_null a) (g ∙ quotient_right a)) f a b h k

plain_divided : (x y : Ratio) → Divided sql.Numeric (Number x) (Number y)
plain_divided x y d v g = numeric_made op.Divide (Number x) (Number y) (x /ℚ y) v (g ∙ ap (λ c. cond c Null (Number (x /ℚ y))) d)

pub dividend_right : (a v : Value) → IsLineQuotient (as_line a) Null v → v ≡ Null
dividend_right Null v g = g
dividend_right (MovingInt m) v g = g
dividend_right (MovingFrac m) v g = g
dividend_right _ v g = g

by_line : (t u : SqlType) → OnForms t (λ a. OnForms u (Divided sql.TFrac a)) → (a b : Value) → IsValueOf t a → IsValueOf u b → Divided sql.TFrac a b
by_line t u f a b h k = by_types t u (Divided sql.TFrac)
    (λ b d v g. null_answer op.Divide sql.TFrac (Null ∷ b ∷ []) v (λ t h. true≢false (sym h.0)) g)
    (λ a d v g. null_answer op.Divide sql.TFrac (a ∷ Null ∷ []) v (λ t h. true≢false (sym h.1.0)) (dividend_right a v g)) f a b h k

line_divided : (a : Value) (m : List (Slice Line)) (y : Ratio) (v : Value) → DividesByOther op.Divide (a ∷ Number y ∷ []) → IsQuotientOf (is_nil y) m y v → IsAnswer op.Divide sql.TFrac (a ∷ Number y ∷ []) v
line_divided a m y v d g =
    let q : IsQuotientOf false m y v = subst (λ c. IsQuotientOf c m y v) d g in
    made_answer op.Divide sql.TFrac (a ∷ Number y ∷ []) v (MovingFrac q.0) refl tt (λ n. absurd (cc n)) q.3

pub divided_answers : (ty t u : SqlType) → is_divided ty t u ≡ true → (a b : Value) → IsValueOf t a → IsValueOf u b → Divided ty a b
divided_answers sql.Numeric sql.Int sql.Int e = by_plain sql.Int sql.Int (λ x i y j. plain_divided x y)
divided_answers sql.Numeric sql.Int sql.Numeric e = by_plain sql.Int sql.Numeric (λ x i y. plain_divided x y)
divided_answers sql.Numeric sql.Numeric sql.Int e = by_plain sql.Numeric sql.Int (λ x y j. plain_divided x y)
divided_answers sql.Numeric sql.Numeric sql.Numeric e = by_plain sql.Numeric sql.Numeric (λ x y. plain_divided x y)
divided_answers sql.TFrac sql.TInt sql.Int e = by_line sql.TInt sql.Int (λ m i y j d v g. line_divided (MovingInt m) (map level_line m) y v d g)
divided_answers sql.TFrac sql.TInt sql.Numeric e = by_line sql.TInt sql.Numeric (λ m i y d v g. line_divided (MovingInt m) (map level_line m) y v d g)
divided_answers sql.TFrac sql.TFrac sql.Int e = by_line sql.TFrac sql.Int (λ m y j d v g. line_divided (MovingFrac m) m y v d g)
divided_answers sql.TFrac sql.TFrac sql.Numeric e = by_line sql.TFrac sql.Numeric (λ m y d v g. line_divided (MovingFrac m) m y v d g)
divided_answers _ _ _ e = absurd (true≢false (sym e))
