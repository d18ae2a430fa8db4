-- A cast that typing accepts gives a value of the requested type.
use Rattle.std.proofs.Common.{◌≡◌, ◌∙◌, true≢false, [], ◌∷◌, refl, sym, subst}
use Rattle.mob_ast.specs.declared.types.SqlType.{SqlType}
use Rattle.mob_value.{specs.declared.value.Value.{Value}, specs.declared.value.Value.TheVariants.{Null, Number, MovingFrac}, specs.Lines.{IsWidened}}
use Rattle.mob_ordinary.specs.Ordinary.{unchanged}
use Rattle.mob_catalog.specs.OwnTypes.{IsValueOf}
use Rattle.mob_operands.{specs.Rows.{HaveNull, IsAnswer, CastsHaveMeanings}, proofs.Forms.{by_type, null_answer, made_answer, of_one}, proofs.Plain.{AnswersOne}}
use Rattle.mob_ast.specs.declared.types.SqlType.TheVariants as sql
use Rattle.mob_operators.specs.declared.operator.Op.TheVariants as op

-- to its own type
same_cast : (t : SqlType) (a v : Value) → IsValueOf t a → v ≡ a → IsAnswer op.Cast t (a ∷ []) v
same_cast t a v h e = record {
  own = subst (IsValueOf t) (sym e) h;
  null = λ n. subst (λ z. HaveNull (z ∷ [])) (sym (sym e ∙ n)) refl;
}

number_cast : (a : Value) → IsValueOf sql.Int a → AnswersOne op.Cast sql.Numeric (λ a v. v ≡ unchanged a) a
number_cast a h = by_type sql.Int (AnswersOne op.Cast sql.Numeric (λ a v. v ≡ unchanged a))
    (λ v e. null_answer op.Cast sql.Numeric (Null ∷ []) v refl e) (λ x i v e. made_answer op.Cast sql.Numeric _ v (Number x) refl tt (λ n. absurd (cc n)) e) a h

line_cast : (a : Value) → IsValueOf sql.TInt a → AnswersOne op.Cast sql.TFrac IsWidened a
line_cast a h = by_type sql.TInt (AnswersOne op.Cast sql.TFrac IsWidened)
    (λ v e. null_answer op.Cast sql.TFrac (Null ∷ []) v refl e) (λ m i v g. made_answer op.Cast sql.TFrac _ v (MovingFrac g.0) refl tt (λ n. absurd (cc n)) g.3) a h

pub casts_have_meanings : CastsHaveMeanings
casts_have_meanings sql.Int sql.Numeric e = of_one op.Cast sql.Numeric sql.Int (λ s a v h g. number_cast a h v g)
casts_have_meanings sql.TInt sql.TFrac e = of_one op.Cast sql.TFrac sql.TInt (λ s a v h g. line_cast a h v g)
casts_have_meanings sql.Bool sql.Bool e = of_one op.Cast sql.Bool sql.Bool (λ s a v h g. same_cast sql.Bool a v h g)
casts_have_meanings sql.Int sql.Int e = of_one op.Cast sql.Int sql.Int (λ s a v h g. same_cast sql.Int a v h g)
casts_have_meanings sql.Numeric sql.Numeric e = of_one op.Cast sql.Numeric sql.Numeric (λ s a v h g. same_cast sql.Numeric a v h g)
casts_have_meanings sql.Text sql.Text e = of_one op.Cast sql.Text sql.Text (λ s a v h g. same_cast sql.Text a v h g)
casts_have_meanings sql.Moment sql.Moment e = of_one op.Cast sql.Moment sql.Moment (λ s a v h g. same_cast sql.Moment a v h g)
casts_have_meanings sql.Point sql.Point e = of_one op.Cast sql.Point sql.Point (λ s a v h g. same_cast sql.Point a v h g)
casts_have_meanings sql.Polygon sql.Polygon e = of_one op.Cast sql.Polygon sql.Polygon (λ s a v h g. same_cast sql.Polygon a v h g)
casts_have_meanings sql.Span sql.Span e = of_one op.Cast sql.Span sql.Span (λ s a v h g. same_cast sql.Span a v h g)
casts_have_meanings sql.SpanSet sql.SpanSet e = of_one op.Cast sql.SpanSet sql.SpanSet (λ s a v h g. same_cast sql.SpanSet a v h g)
casts_have_meanings sql.Box sql.Box e = of_one op.Cast sql.Box sql.Box (λ s a v h g. same_cast sql.Box a v h g)
casts_have_meanings sql.TBool sql.TBool e = of_one op.Cast sql.TBool sql.TBool (λ s a v h g. same_cast sql.TBool a v h g)
casts_have_meanings sql.TInt sql.TInt e = of_one op.Cast sql.TInt sql.TInt (λ s a v h g. same_cast sql.TInt a v h g)
casts_have_meanings sql.TFrac sql.TFrac e = of_one op.Cast sql.TFrac sql.TFrac (λ s a v h g. same_cast sql.TFrac a v h g)
casts_have_meanings sql.TText sql.TText e = of_one op.Cast sql.TText sql.TText (λ s a v h g. same_cast sql.TText a v h g)
casts_have_meanings sql.TPoint sql.TPoint e = of_one op.Cast sql.TPoint sql.TPoint (λ s a v h g. same_cast sql.TPoint a v h g)
casts_have_meanings _ _ e = absurd (true≢false (sym e))
