-- The signs that compare over time use the pair of their operands.
use Rattle.std.proofs.Common.{◌≡◌, ◌||◌, Bool, true, true≢false, [], ◌∷◌, sym, refl}
use Rattle.mob_slice.{specs.LineComparison.{point_relates, number_relates}, specs.declared.comparison.Rel.{Rel}}
use Rattle.mob_ast.{specs.declared.types.Cmp.{Cmp}, specs.declared.types.SqlType.{SqlType}}
use Rattle.mob_operators.specs.declared.operator.Op.{Op}
use Rattle.mob_value.{specs.declared.value.Value.{Value}, specs.Relations.{rel_of, text_relates, truth_relates}}
use Rattle.mob_compare.{specs.declared.sql.when.When.{When}, specs.Sql.Signs.{IsAsked, IsOrderTest, IsAnyTest, IsSignTest}}
use Rattle.mob_meaning.specs.Types.{common_type}
use Rattle.mob_catalog.specs.OwnTypes.{IsValueOf}
use Rattle.mob_operands.specs.Rows.{AreNeverTogether, NullIsDue, IsAnswer}
use Rattle.mob_operands.proofs.Together.{are_truths, are_texts, are_points, are_ints, are_lines, asked_type, asked_row, truth_pair_answers, text_pair_answers, point_pair_answers, int_pair_answers, line_pair_answers}
use Rattle.mob_ast.specs.declared.types.Cmp.TheVariants as cmp
use Rattle.mob_ast.specs.declared.types.SqlType.TheVariants as sql

-- two types whose values are ordered over time: numbers and texts, at least one of which is
-- temporal
abbrev pub are_signed : SqlType → SqlType → Bool
are_signed t u = are_ints t u || (are_lines t u || are_texts t u)

-- or compared over time: truth values and points too
abbrev pub are_any : SqlType → SqlType → Bool
are_any t u = are_truths t u || (are_points t u || are_signed t u)

abbrev pub are_compared_by : Cmp → SqlType → SqlType → Bool
are_compared_by cmp.Eq t u = are_any t u
are_compared_by cmp.Ne t u = are_any t u
are_compared_by _ t u = are_signed t u

module _ (o : Op) (scope : When) (due : (a b : Value) → AreNeverTogether (a ∷ b ∷ []) → NullIsDue o (asked_type scope) (a ∷ b ∷ [])) where
  abbrev Compared : (Value → Value → Value → Type 0) → Value → Value → Type 0
  Compared G a b = (v : Value) → G a b v → IsAnswer o (asked_type scope) (a ∷ b ∷ []) v

  module _ (r : Rel) where
    order_sign : (t u : SqlType) → are_signed t u ≡ true → (a b : Value) → IsValueOf t a → IsValueOf u b → Compared (IsOrderTest scope r (common_type t u)) a b
    order_sign sql.TInt sql.TInt e = int_pair_answers o (asked_type scope) due (IsAsked scope (number_relates r)) (asked_row scope (number_relates r)) sql.TInt sql.TInt refl
    order_sign sql.TInt sql.Int e = int_pair_answers o (asked_type scope) due (IsAsked scope (number_relates r)) (asked_row scope (number_relates r)) sql.TInt sql.Int refl
    order_sign sql.Int sql.TInt e = int_pair_answers o (asked_type scope) due (IsAsked scope (number_relates r)) (asked_row scope (number_relates r)) sql.Int sql.TInt refl
    order_sign sql.TFrac sql.TFrac e = line_pair_answers o (asked_type scope) due (IsAsked scope (number_relates r)) (asked_row scope (number_relates r)) sql.TFrac sql.TFrac refl
    order_sign sql.TFrac sql.TInt e = line_pair_answers o (asked_type scope) due (IsAsked scope (number_relates r)) (asked_row scope (number_relates r)) sql.TFrac sql.TInt refl
    order_sign sql.TInt sql.TFrac e = line_pair_answers o (asked_type scope) due (IsAsked scope (number_relates r)) (asked_row scope (number_relates r)) sql.TInt sql.TFrac refl
    order_sign sql.TFrac sql.Int e = line_pair_answers o (asked_type scope) due (IsAsked scope (number_relates r)) (asked_row scope (number_relates r)) sql.TFrac sql.Int refl
    order_sign sql.Int sql.TFrac e = line_pair_answers o (asked_type scope) due (IsAsked scope (number_relates r)) (asked_row scope (number_relates r)) sql.Int sql.TFrac refl
    order_sign sql.TFrac sql.Numeric e = line_pair_answers o (asked_type scope) due (IsAsked scope (number_relates r)) (asked_row scope (number_relates r)) sql.TFrac sql.Numeric refl
    order_sign sql.Numeric sql.TFrac e = line_pair_answers o (asked_type scope) due (IsAsked scope (number_relates r)) (asked_row scope (number_relates r)) sql.Numeric sql.TFrac refl
    order_sign sql.TInt sql.Numeric e = line_pair_answers o (asked_type scope) due (IsAsked scope (number_relates r)) (asked_row scope (number_relates r)) sql.TInt sql.Numeric refl
    order_sign sql.Numeric sql.TInt e = line_pair_answers o (asked_type scope) due (IsAsked scope (number_relates r)) (asked_row scope (number_relates r)) sql.Numeric sql.TInt refl
    order_sign sql.TText sql.TText e = text_pair_answers o (asked_type scope) due (IsAsked scope (text_relates r)) (asked_row scope (text_relates r)) sql.TText sql.TText refl
    order_sign sql.TText sql.Text e = text_pair_answers o (asked_type scope) due (IsAsked scope (text_relates r)) (asked_row scope (text_relates r)) sql.TText sql.Text refl
    order_sign sql.Text sql.TText e = text_pair_answers o (asked_type scope) due (IsAsked scope (text_relates r)) (asked_row scope (text_relates r)) sql.Text sql.TText refl
    order_sign _ _ e = absurd (true≢false (sym e))

    any_sign : (t u : SqlType) → are_any t u ≡ true → (a b : Value) → IsValueOf t a → IsValueOf u b → Compared (IsAnyTest scope r (common_type t u)) a b
    any_sign sql.TBool sql.TBool e = truth_pair_answers o (asked_type scope) due (IsAsked scope (truth_relates r)) (asked_row scope (truth_relates r)) sql.TBool sql.TBool refl
    any_sign sql.TBool sql.Bool e = truth_pair_answers o (asked_type scope) due (IsAsked scope (truth_relates r)) (asked_row scope (truth_relates r)) sql.TBool sql.Bool refl
    any_sign sql.Bool sql.TBool e = truth_pair_answers o (asked_type scope) due (IsAsked scope (truth_relates r)) (asked_row scope (truth_relates r)) sql.Bool sql.TBool refl
    any_sign sql.TPoint sql.TPoint e = point_pair_answers o (asked_type scope) due (IsAsked scope (point_relates r)) (asked_row scope (point_relates r)) sql.TPoint sql.TPoint refl
    any_sign sql.TPoint sql.Point e = point_pair_answers o (asked_type scope) due (IsAsked scope (point_relates r)) (asked_row scope (point_relates r)) sql.TPoint sql.Point refl
    any_sign sql.Point sql.TPoint e = point_pair_answers o (asked_type scope) due (IsAsked scope (point_relates r)) (asked_row scope (point_relates r)) sql.Point sql.TPoint refl
    any_sign sql.TInt sql.TInt e = order_sign sql.TInt sql.TInt refl
    any_sign sql.TInt sql.Int e = order_sign sql.TInt sql.Int refl
    any_sign sql.Int sql.TInt e = order_sign sql.Int sql.TInt refl
    any_sign sql.TFrac sql.TFrac e = order_sign sql.TFrac sql.TFrac refl
    any_sign sql.TFrac sql.TInt e = order_sign sql.TFrac sql.TInt refl
    any_sign sql.TInt sql.TFrac e = order_sign sql.TInt sql.TFrac refl
    any_sign sql.TFrac sql.Int e = order_sign sql.TFrac sql.Int refl
    any_sign sql.Int sql.TFrac e = order_sign sql.Int sql.TFrac refl
    any_sign sql.TFrac sql.Numeric e = order_sign sql.TFrac sql.Numeric refl
    any_sign sql.Numeric sql.TFrac e = order_sign sql.Numeric sql.TFrac refl
    any_sign sql.TInt sql.Numeric e = order_sign sql.TInt sql.Numeric refl
    any_sign sql.Numeric sql.TInt e = order_sign sql.Numeric sql.TInt refl
    any_sign sql.TText sql.TText e = order_sign sql.TText sql.TText refl
    any_sign sql.TText sql.Text e = order_sign sql.TText sql.Text refl
    any_sign sql.Text sql.TText e = order_sign sql.Text sql.TText refl
    any_sign _ _ e = absurd (true≢false (sym e))

  pub sign_answers : (c : Cmp) (t u : SqlType) → are_compared_by c t u ≡ true → (a b : Value) → IsValueOf t a → IsValueOf u b → Compared (IsSignTest scope c (common_type t u)) a b
  sign_answers cmp.Eq t u e = any_sign (rel_of cmp.Eq) t u e
  sign_answers cmp.Ne t u e = any_sign (rel_of cmp.Ne) t u e
  sign_answers cmp.Lt t u e = order_sign (rel_of cmp.Lt) t u e
  sign_answers cmp.Le t u e = order_sign (rel_of cmp.Le) t u e
  sign_answers cmp.Gt t u e = order_sign (rel_of cmp.Gt) t u e
  sign_answers cmp.Ge t u e = order_sign (rel_of cmp.Ge) t u e
