-- Each operator of the table has a meaning on the types that its lines take.
use Rattle.std.{specs.List.{list_all}, proofs.Common.{◌≡◌, ℕ, Bool, true, false, not, true≢false, List, [], ◌∷◌, refl, sym}}
use Rattle.mob_list.proofs.Each.{each_on}
use Rattle.mob_arith.{specs.Operations.{both_hold, one_holds, text_of}, specs.declared.sql.calculation.Calculation.TheVariants.{Sum, Difference, Product}}
use Rattle.mob_ast.specs.declared.types.SqlType.{SqlType}
use Rattle.mob_operators.{specs.Lookup.{Line, is_temporal}, specs.Table.{table}, specs.declared.operator.Op.{Op}}
use Rattle.mob_value.{specs.declared.value.Value.TheVariants.{Bool as Truth}, specs.Lifted.{IsMovingBool, IsMovingText}}
use Rattle.mob_ordinary.specs.Ordinary.{is_null}
use Rattle.mob_compare.specs.declared.sql.when.When.TheVariants.{Each, Ever, Always}
use Rattle.mob_near.specs.Sql.Nearness.{IsApproachValue}
use Rattle.mob_operands.{specs.Rows.{HasMeaning, LineHasMeaning, RowsHaveMeanings, SettledIsTheValue}, proofs.Distances.{are_near, within_answers, are_widened, expansion_answers}}
use Rattle.mob_operands.{proofs.Forms.{of_one, of_two, of_three}, proofs.Numbers.{is_calculated, calculated_answers, is_divided, divided_answers}}
use Rattle.mob_operands.proofs.Plain.{are_tested, test_answers, null_test_answers, not_answers, negative_int, negative_numeric, same_int, same_numeric, box_answers, is_printed, print_answers}
use Rattle.mob_operands.proofs.Plain.{join_answers, and_answers, or_answers}
use Rattle.mob_operands.proofs.Restricted.{are_timed, time_restricted, are_valued, value_restricted, box_restricted, polygon_restricted, are_looked_up, look_answers}
use Rattle.mob_operands.proofs.Signs.{are_compared_by, sign_answers}
use Rattle.mob_operands.proofs.Single.{not_each_answers, coordinate_answers, time_answers, true_time_answers, are_boxed, overlap_answers, intersecting_answers}
use Rattle.mob_operands.proofs.Table.{line_passes, passes_on, each_line}
use Rattle.mob_operands.proofs.Together.{are_truths, are_texts, are_points, truth_row, text_row, near_row, truth_pair_answers, text_pair_answers, point_pair_answers}
use Rattle.mob_ast.specs.declared.types.SqlType.TheVariants as sql
use Rattle.mob_operators.specs.declared.operator.Op.TheVariants as op

-- the types on which these operators have a meaning, with the type of the result
abbrev pub is_meant : Op → SqlType → List SqlType → Bool
is_meant (op.Test c) sql.Bool (t ∷ u ∷ []) = are_tested c t u
is_meant (op.Lifted c) sql.TBool (t ∷ u ∷ []) = are_compared_by c t u
is_meant (op.Ever c) sql.Bool (t ∷ u ∷ []) = are_compared_by c t u
is_meant (op.Always c) sql.Bool (t ∷ u ∷ []) = are_compared_by c t u
is_meant op.LiftedAnd sql.TBool (t ∷ u ∷ []) = are_truths t u
is_meant op.LiftedOr sql.TBool (t ∷ u ∷ []) = are_truths t u
is_meant op.NearestApproachSquared sql.Numeric (t ∷ u ∷ []) = are_points t u
is_meant op.Join sql.Text (sql.Text ∷ sql.Text ∷ []) = true
is_meant op.Join sql.TText (t ∷ u ∷ []) = are_texts t u
is_meant op.Not sql.Bool (sql.Bool ∷ []) = true
is_meant op.IsNull sql.Bool (t ∷ []) = true
is_meant op.IsNotNull sql.Bool (t ∷ []) = true
is_meant op.Negate sql.Int (sql.Int ∷ []) = true
is_meant op.Negate sql.Numeric (sql.Numeric ∷ []) = true
is_meant op.Same sql.Int (sql.Int ∷ []) = true
is_meant op.Same sql.Numeric (sql.Numeric ∷ []) = true
is_meant op.BoxOf sql.Box (sql.TPoint ∷ []) = true
is_meant op.AsText sql.Text (t ∷ []) = is_printed t
is_meant op.LiftedNot sql.TBool (sql.TBool ∷ []) = true
is_meant op.GetX sql.TFrac (sql.TPoint ∷ []) = true
is_meant op.GetY sql.TFrac (sql.TPoint ∷ []) = true
is_meant op.GetTime sql.SpanSet (t ∷ []) = is_temporal t
is_meant op.WhenTrue sql.SpanSet (sql.TBool ∷ []) = true
is_meant op.Overlap sql.Bool (t ∷ u ∷ []) = are_boxed t u
is_meant op.EIntersects sql.Bool (sql.TPoint ∷ sql.Polygon ∷ []) = true
is_meant op.And sql.Bool (sql.Bool ∷ sql.Bool ∷ []) = true
is_meant op.Or sql.Bool (sql.Bool ∷ sql.Bool ∷ []) = true
is_meant op.Add ty (t ∷ u ∷ []) = is_calculated Sum ty t u
is_meant op.Subtract ty (t ∷ u ∷ []) = is_calculated Difference ty t u
is_meant op.Multiply ty (t ∷ u ∷ []) = is_calculated Product ty t u
is_meant op.Divide ty (t ∷ u ∷ []) = is_divided ty t u
is_meant op.AtTime ty (t ∷ u ∷ []) = are_timed ty t u
is_meant op.MinusTime ty (t ∷ u ∷ []) = are_timed ty t u
is_meant op.AtValues ty (t ∷ u ∷ []) = are_valued ty t u
is_meant op.MinusValues ty (t ∷ u ∷ []) = are_valued ty t u
is_meant op.AtStbox sql.TPoint (sql.TPoint ∷ sql.Box ∷ []) = true
is_meant op.MinusStbox sql.TPoint (sql.TPoint ∷ sql.Box ∷ []) = true
is_meant op.AtGeometry sql.TPoint (sql.TPoint ∷ sql.Polygon ∷ []) = true
is_meant op.MinusGeometry sql.TPoint (sql.TPoint ∷ sql.Polygon ∷ []) = true
is_meant op.ValueAtTimestamp ty (t ∷ u ∷ []) = are_looked_up ty t u
is_meant op.ExpandSpace sql.Box (t ∷ u ∷ []) = are_widened t u
is_meant op.EDwithin sql.Bool (t ∷ u ∷ w ∷ []) = are_near t u w
is_meant _ _ _ = false

meant : (o : Op) (ty : SqlType) (ts : List SqlType) → is_meant o ty ts ≡ true → HasMeaning o ty ts
meant (op.Test c) sql.Bool (t ∷ u ∷ []) e = of_two (op.Test c) sql.Bool t u (λ a b v h k d g. test_answers c t u e a b h k v g)
meant (op.Lifted c) sql.TBool (t ∷ u ∷ []) e = of_two (op.Lifted c) sql.TBool t u (λ a b v h k d g. sign_answers (op.Lifted c) Each (λ a b n. n) c t u e a b h k v g)
meant (op.Ever c) sql.Bool (t ∷ u ∷ []) e = of_two (op.Ever c) sql.Bool t u (λ a b v h k d g. sign_answers (op.Ever c) Ever (λ a b n. n) c t u e a b h k v g)
meant (op.Always c) sql.Bool (t ∷ u ∷ []) e = of_two (op.Always c) sql.Bool t u (λ a b v h k d g. sign_answers (op.Always c) Always (λ a b n. n) c t u e a b h k v g)
meant op.LiftedAnd sql.TBool (t ∷ u ∷ []) e = of_two op.LiftedAnd sql.TBool t u (λ a b v h k d g. truth_pair_answers op.LiftedAnd sql.TBool (λ a b n. n) (IsMovingBool both_hold) (truth_row both_hold) t u e a b h k v g)
meant op.LiftedOr sql.TBool (t ∷ u ∷ []) e = of_two op.LiftedOr sql.TBool t u (λ a b v h k d g. truth_pair_answers op.LiftedOr sql.TBool (λ a b n. n) (IsMovingBool one_holds) (truth_row one_holds) t u e a b h k v g)
meant op.NearestApproachSquared sql.Numeric (t ∷ u ∷ []) e = of_two op.NearestApproachSquared sql.Numeric t u (λ a b v h k d g. point_pair_answers op.NearestApproachSquared sql.Numeric (λ a b n. n) IsApproachValue near_row t u e a b h k v g)
meant op.Join sql.Text (sql.Text ∷ sql.Text ∷ []) e = of_two op.Join sql.Text sql.Text sql.Text (λ a b v h k d g. join_answers a b h k v g)
meant op.Join sql.TText (t ∷ u ∷ []) e = of_two op.Join sql.TText t u (λ a b v h k d g. text_pair_answers op.Join sql.TText (λ a b n. n) (IsMovingText text_of) (text_row text_of) t u e a b h k v g)
meant op.Not sql.Bool (sql.Bool ∷ []) e = of_one op.Not sql.Bool sql.Bool (λ s a v h g. not_answers a h v g)
meant op.IsNull sql.Bool (t ∷ []) e = of_one op.IsNull sql.Bool t (λ s a v h g. null_test_answers true op.IsNull a (is_null a) v g)
meant op.IsNotNull sql.Bool (t ∷ []) e = of_one op.IsNotNull sql.Bool t (λ s a v h g. null_test_answers false op.IsNotNull a (not (is_null a)) v g)
meant op.Negate sql.Int (sql.Int ∷ []) e = of_one op.Negate sql.Int sql.Int (λ s a v h g. negative_int a h v g)
meant op.Negate sql.Numeric (sql.Numeric ∷ []) e = of_one op.Negate sql.Numeric sql.Numeric (λ s a v h g. negative_numeric a h v g)
meant op.Same sql.Int (sql.Int ∷ []) e = of_one op.Same sql.Int sql.Int (λ s a v h g. same_int a h v g)
meant op.Same sql.Numeric (sql.Numeric ∷ []) e = of_one op.Same sql.Numeric sql.Numeric (λ s a v h g. same_numeric a h v g)
meant op.BoxOf sql.Box (sql.TPoint ∷ []) e = of_one op.BoxOf sql.Box sql.TPoint (λ s a v h g. box_answers a h v g)
meant op.AsText sql.Text (t ∷ []) e = of_one op.AsText sql.Text t (λ s a v h g. print_answers s.terms.epoch t e a h v g)
meant op.LiftedNot sql.TBool (sql.TBool ∷ []) e = of_one op.LiftedNot sql.TBool sql.TBool (λ s a v h g. not_each_answers a h v g)
meant op.GetX sql.TFrac (sql.TPoint ∷ []) e = of_one op.GetX sql.TFrac sql.TPoint (λ s a v h g. coordinate_answers op.GetX (λ p. p.x) refl a h v g)
meant op.GetY sql.TFrac (sql.TPoint ∷ []) e = of_one op.GetY sql.TFrac sql.TPoint (λ s a v h g. coordinate_answers op.GetY (λ p. p.y) refl a h v g)
meant op.GetTime sql.SpanSet (t ∷ []) e = of_one op.GetTime sql.SpanSet t (λ s a v h g. time_answers t e a h v g)
meant op.WhenTrue sql.SpanSet (sql.TBool ∷ []) e = of_one op.WhenTrue sql.SpanSet sql.TBool (λ s a v h g. true_time_answers a h v g)
meant op.Overlap sql.Bool (t ∷ u ∷ []) e = of_two op.Overlap sql.Bool t u (λ a b v h k d g. overlap_answers t u e a b h k v g)
meant op.EIntersects sql.Bool (sql.TPoint ∷ sql.Polygon ∷ []) e = of_two op.EIntersects sql.Bool sql.TPoint sql.Polygon (λ a b v h k d g. intersecting_answers a b h k v g)
meant op.And sql.Bool (sql.Bool ∷ sql.Bool ∷ []) e = of_two op.And sql.Bool sql.Bool sql.Bool (λ a b v h k d g. and_answers a b h k v g)
meant op.Or sql.Bool (sql.Bool ∷ sql.Bool ∷ []) e = of_two op.Or sql.Bool sql.Bool sql.Bool (λ a b v h k d g. or_answers a b h k v g)
meant op.Add ty (t ∷ u ∷ []) e = of_two op.Add ty t u (λ a b v h k d g. calculated_answers op.Add (λ ty vs n. n) Sum ty t u e a b h k v g)
meant op.Subtract ty (t ∷ u ∷ []) e = of_two op.Subtract ty t u (λ a b v h k d g. calculated_answers op.Subtract (λ ty vs n. n) Difference ty t u e a b h k v g)
meant op.Multiply ty (t ∷ u ∷ []) e = of_two op.Multiply ty t u (λ a b v h k d g. calculated_answers op.Multiply (λ ty vs n. n) Product ty t u e a b h k v g)
meant op.Divide ty (t ∷ u ∷ []) e = of_two op.Divide ty t u (λ a b v h k d g. divided_answers ty t u e a b h k d v g)
meant op.AtTime ty (t ∷ u ∷ []) e = of_two op.AtTime ty t u (λ a b v h k d g. time_restricted op.AtTime true (λ ty vs n. n) ty t u e a b h k v g)
meant op.MinusTime ty (t ∷ u ∷ []) e = of_two op.MinusTime ty t u (λ a b v h k d g. time_restricted op.MinusTime false (λ ty vs n. n) ty t u e a b h k v g)
meant op.AtValues ty (t ∷ u ∷ []) e = of_two op.AtValues ty t u (λ a b v h k d g. value_restricted op.AtValues true (λ ty vs n. n) ty t u e a b h k v g)
meant op.MinusValues ty (t ∷ u ∷ []) e = of_two op.MinusValues ty t u (λ a b v h k d g. value_restricted op.MinusValues false (λ ty vs n. n) ty t u e a b h k v g)
meant op.AtStbox sql.TPoint (sql.TPoint ∷ sql.Box ∷ []) e = of_two op.AtStbox sql.TPoint sql.TPoint sql.Box (λ a b v h k d g. box_restricted op.AtStbox true (λ vs n. n) a b h k v g)
meant op.MinusStbox sql.TPoint (sql.TPoint ∷ sql.Box ∷ []) e = of_two op.MinusStbox sql.TPoint sql.TPoint sql.Box (λ a b v h k d g. box_restricted op.MinusStbox false (λ vs n. n) a b h k v g)
meant op.AtGeometry sql.TPoint (sql.TPoint ∷ sql.Polygon ∷ []) e = of_two op.AtGeometry sql.TPoint sql.TPoint sql.Polygon (λ a b v h k d g. polygon_restricted op.AtGeometry true (λ vs n. n) a b h k v g)
meant op.MinusGeometry sql.TPoint (sql.TPoint ∷ sql.Polygon ∷ []) e = of_two op.MinusGeometry sql.TPoint sql.TPoint sql.Polygon (λ a b v h k d g. polygon_restricted op.MinusGeometry false (λ vs n. n) a b h k v g)
meant op.ValueAtTimestamp ty (t ∷ u ∷ []) e = of_two op.ValueAtTimestamp ty t u (λ a b v h k d g. look_answers ty t u e a b h k v g)
meant op.ExpandSpace sql.Box (t ∷ u ∷ []) e = of_two op.ExpandSpace sql.Box t u (λ a b v h k d g. expansion_answers t u e a b h k v g)
meant op.EDwithin sql.Bool (t ∷ u ∷ w ∷ []) e = of_three op.EDwithin sql.Bool t u w (λ a b c v h k l g. within_answers t u w e a b c h k l v g)
meant _ _ _ e = absurd (true≢false (sym e))

table_passes : list_all (line_passes is_meant) table ≡ true
unfolding table
table_passes = refl

line_meant : (l : Line) → line_passes is_meant l ≡ true → LineHasMeaning l
line_meant l h ts literal ty e g = each_on (λ (n : List ℕ × Op). is_meant n.1 ty ts ≡ true) (λ (n : List ℕ × Op). HasMeaning n.1 ty ts) (λ n p. meant n.1 ty ts p) l.names (passes_on is_meant l h ts literal ty e g)

pub rows_have_meanings : RowsHaveMeanings
rows_have_meanings = each_on (λ l. line_passes is_meant l ≡ true) LineHasMeaning line_meant table (each_line is_meant table table_passes)

pub settled_is_the_value : SettledIsTheValue
settled_is_the_value s op.And ty ts (Truth false) v h g = g
settled_is_the_value s op.Or ty ts (Truth true) v h g = g
settled_is_the_value s _ ty ts _ v h g = absurd (true≢false (sym h))
