-- A grouped query has one first fault or none, and one row for each group.
use Rattle.std.{specs.Prelude.{option_map}, specs.List.{AllZip}, proofs.Common.{◌≡◌, ℕ, Bool, true, false, List, [], ◌∷◌, Option, Some, None, Ok, refl, sym, ap, ap₂, subst, ◌∙◌, map}}
use Rattle.mob_ratio.{specs.Ratio.{Ratio}, specs.Order.{same}, proofs.Order.{same_exact}}
use Rattle.mob_span.specs.Flags.{same_bool, same_bool_exact}
use Rattle.mob_slice.{specs.CourseOf.{CourseOf, steady_course, line_course}, specs.Entries.{IsFirst}, specs.declared.slice.Slice.{Slice}, specs.declared.formula.Formula.{Formula}}
use Rattle.mob_slice.proofs.Firsts.{one_first}
use Rattle.mob_lift.{proofs.Unique.{OneList}, proofs.ByCourse.{one_of_steps, one_of_lines}}
use Rattle.mob_ast.specs.declared.types.SqlType.{SqlType}
use Rattle.mob_operators.{specs.declared.aggregate.AggKind.{AggKind}, specs.declared.aggregate.AggKind.TheVariants.{CountAll, Count, Sum, TCount, TSum, TAnd, TOr}}
use Rattle.mob_typed.{specs.Trees.{TypedTree}, specs.Selects.{TypedSelectParts}}
use Rattle.mob_value.{specs.declared.value.Value.{Value}, specs.declared.value.Value.TheVariants.{MovingBool, MovingInt, MovingFrac}, specs.declared.store.Store.{Store}, specs.Moving.{or_nothing}}
use Rattle.mob_literal.specs.Fields.{field_text}
use Rattle.mob_meaning.{specs.Scene.{Scene, scene}, specs.Outcomes.{HasOneOutcome, IsOne}, specs.Evaluation.{PlacedFormula}}
use Rattle.mob_eval.specs.QueryFaults.{TupleFault}
use Rattle.mob_tagg.{specs.Aggregates.{total, count, all_hold, some_holds}, proofs.Joining.{one_aggregate}, proofs.OneRow.{one_row_fault}}
use Rattle.mob_arrange.specs.Keyed.{Keyed}
use Rattle.mob_tail.{specs.Aggregated.{IsOverTime, IsAggregated, leaves_out, adding_entries, AddingPasses, one_there, step_there, line_there, truth_there}, specs.Groups.{same_group}}
use Rattle.mob_tail.specs.GroupedAnswers.{AnswerColumn, columns_of, IsArgumentOf, IsArgument, IsArgumentOn, IsAddingTo, IsColumnValue, keys_from, IsGroupRow, IsGroupedFault}
use Rattle.mob_ast.specs.declared.types.SqlType.TheVariants as sql
use Rattle.mob_meaning.specs.declared.terms.Terms.{Terms}
use Rattle.mob_slice.specs.declared.mode.Mode.{Mode}

over_once : {C B Z : Type 0} (course : CourseOf C Z) (one : OneList course) (make : List (Slice C) → Value) (f : List B → Z) (there : Value → Ratio → Option B) (vs : List Value) (v w : Value) → IsOverTime course make f there vs v → IsOverTime course make f there vs w → v ≡ w
over_once course one make f there vs v w h k =
    h.2 ∙ ap (or_nothing make) (one_aggregate there course.value course.start course.end course.continues f (λ a b n m e. one a b n.chained m.chained e) vs h.0 k.0 h.1 k.1) ∙ sym k.2

sum_once : (ty : SqlType) (vs : List Value) (v w : Value) → IsAggregated TSum ty vs v → IsAggregated TSum ty vs w → v ≡ w
sum_once sql.TInt vs v w h k = over_once (steady_course same) (one_of_steps same same_exact) MovingInt total step_there vs v w h k
sum_once sql.TFrac vs v w h k = over_once line_course one_of_lines MovingFrac total line_there vs v w h k
sum_once sql.Bool vs v w h k = h ∙ sym k
sum_once sql.Int vs v w h k = h ∙ sym k
sum_once sql.Numeric vs v w h k = h ∙ sym k
sum_once sql.Text vs v w h k = h ∙ sym k
sum_once sql.Moment vs v w h k = h ∙ sym k
sum_once sql.Point vs v w h k = h ∙ sym k
sum_once sql.Polygon vs v w h k = h ∙ sym k
sum_once sql.Span vs v w h k = h ∙ sym k
sum_once sql.SpanSet vs v w h k = h ∙ sym k
sum_once sql.Box vs v w h k = h ∙ sym k
sum_once sql.TBool vs v w h k = h ∙ sym k
sum_once sql.TText vs v w h k = h ∙ sym k
sum_once sql.TPoint vs v w h k = h ∙ sym k

pub aggregated_once : (kind : AggKind) (ty : SqlType) (vs : List Value) (v w : Value) → IsAggregated kind ty vs v → IsAggregated kind ty vs w → v ≡ w
aggregated_once CountAll ty vs v w h k = h ∙ sym k
aggregated_once Count ty vs v w h k = h ∙ sym k
aggregated_once Sum ty vs v w h k = h ∙ sym k
aggregated_once TCount ty vs v w h k = over_once (steady_course same) (one_of_steps same same_exact) MovingInt count one_there vs v w h k
aggregated_once TSum ty vs v w h k = sum_once ty vs v w h k
aggregated_once TAnd ty vs v w h k = over_once (steady_course same_bool) (one_of_steps same_bool same_bool_exact) MovingBool all_hold truth_there vs v w h k
aggregated_once TOr ty vs v w h k = over_once (steady_course same_bool) (one_of_steps same_bool same_bool_exact) MovingBool some_holds truth_there vs v w h k

passes_once : (b : Bool) (kind : AggKind) (ty : SqlType) (vs : List Value) (v : Value) (f g : Option Formula) → AddingPasses b kind ty vs v f → AddingPasses b kind ty vs v g → f ≡ g
passes_once true kind ty vs v f g h k = h ∙ sym k
passes_once false kind ty vs v f g h k =
    let r = aggregated_once kind ty vs h.0 k.0 h.1 k.1 in
    let a = aggregated_once kind ty (v ∷ []) h.2.0 k.2.0 h.2.1 k.2.1 in
    one_first (adding_entries kind ty k.0 k.2.0) f g (subst (λ z. IsFirst (adding_entries kind ty z k.2.0) f) r (subst (λ z. IsFirst (adding_entries kind ty h.0 z) f) a h.2.2)) k.2.2

adding_once : (mode : Mode) (c : AnswerColumn) (vs : List Value) (v : Value) (f g : Option PlacedFormula) → IsAddingTo mode c vs v f → IsAddingTo mode c vs v g → f ≡ g
adding_once mode (e, None) vs v f g h k = h ∙ sym k
adding_once mode (e, Some agg) vs v f g h k = h.2 ∙ ap (option_map (λ formula. (agg.place, formula))) (passes_once (leaves_out agg.kind v) agg.kind agg.ty vs v h.0 k.0 h.1 k.1) ∙ sym k.2

module _ (one : HasOneOutcome) where
  argument_of_once : (kind : AggKind) (s : Scene) (e : TypedTree) → IsOne (IsArgumentOf kind s e)
  argument_of_once CountAll s e r q h k = h ∙ sym k
  argument_of_once Count s e r q h k = one s e r q h k
  argument_of_once Sum s e r q h k = one s e r q h k
  argument_of_once TCount s e r q h k = one s e r q h k
  argument_of_once TSum s e r q h k = one s e r q h k
  argument_of_once TAnd s e r q h k = one s e r q h k
  argument_of_once TOr s e r q h k = one s e r q h k

  argument_once : (s : Scene) (c : AnswerColumn) → IsOne (IsArgument s c)
  argument_once s (e, None) r q h k = h ∙ sym k
  argument_once s (e, Some agg) r q h k = argument_of_once agg.kind s e r q h k

  module _ (select : TypedSelectParts) (store : Store) (terms : Terms) where
    pub fault_once : (kept : List (List ℕ)) (f g : Option TupleFault) → IsGroupedFault select store terms kept f → IsGroupedFault select store terms kept g → f ≡ g
    fault_once kept f g h k = one_row_fault (IsArgumentOn select store terms) (IsAddingTo terms.mode) (λ t c r q h k. argument_once (scene store select.from t terms) c r q h k) (adding_once terms.mode) (same_group select store terms) (columns_of select) [] kept f g h k

    arguments_once : (c : AnswerColumn) (ts : List (List ℕ)) (vs ws : List Value) → AllZip (λ t w. IsArgumentOn select store terms t c (Ok w)) ts vs → AllZip (λ t w. IsArgumentOn select store terms t c (Ok w)) ts ws → vs ≡ ws
    arguments_once c [] [] [] h k = refl
    arguments_once c [] [] (w ∷ ws) h k = absurd k
    arguments_once c [] (v ∷ vs) ws h k = absurd h
    arguments_once c (t ∷ ts) [] ws h k = absurd h
    arguments_once c (t ∷ ts) (v ∷ vs) [] h k = absurd k
    arguments_once c (t ∷ ts) (v ∷ vs) (w ∷ ws) h k = let e = argument_once (scene store select.from t terms) c (Ok v) (Ok w) h.0 k.0 in let same : v ≡ w = cc e in ap₂ (λ a b. a ∷ b) same (arguments_once c ts vs ws h.1 k.1)

    value_once : (group : List (List ℕ)) (c : AnswerColumn) (v w : Value) → IsColumnValue select store terms group c v → IsColumnValue select store terms group c w → v ≡ w
    value_once group (e, None) v w h k = h ∙ sym k
    value_once group (e, Some agg) v w h k = aggregated_once agg.kind agg.ty k.0 v w (subst (λ z. IsAggregated agg.kind agg.ty z v) (arguments_once (e, Some agg) group h.0 k.0 h.1 k.1) h.2) k.2

    values_once : (group : List (List ℕ)) (cs : List AnswerColumn) (vs ws : List Value) → AllZip (IsColumnValue select store terms group) cs vs → AllZip (IsColumnValue select store terms group) cs ws → vs ≡ ws
    values_once group [] [] [] h k = refl
    values_once group [] [] (w ∷ ws) h k = absurd k
    values_once group [] (v ∷ vs) ws h k = absurd h
    values_once group (c ∷ cs) [] ws h k = absurd h
    values_once group (c ∷ cs) (v ∷ vs) [] h k = absurd k
    values_once group (c ∷ cs) (v ∷ vs) (w ∷ ws) h k = ap₂ (λ a b. a ∷ b) (value_once group c v w h.0 k.0) (values_once group cs vs ws h.1 k.1)

    row_once : (group : List (List ℕ)) (a b : Keyed) → IsGroupRow select store terms group a → IsGroupRow select store terms group b → a ≡ b
    row_once group a b h k =
        let values : h.values ≡ k.values = values_once group (columns_of select) h.values k.values h.made k.made in
        let fields : a.fields ≡ b.fields = h.fields ∙ ap (map (field_text terms.epoch)) values ∙ sym k.fields in
        let keys : a.keys ≡ b.keys = h.keys ∙ ap (λ z. keys_from select store terms group z 0 select.keys) values ∙ sym k.keys in
        λ i. record { fields = fields i; keys = keys i }

    pub rows_once : (groups : List (List (List ℕ))) (a b : List Keyed) → AllZip (IsGroupRow select store terms) groups a → AllZip (IsGroupRow select store terms) groups b → a ≡ b
    rows_once [] [] [] h k = refl
    rows_once [] [] (y ∷ b) h k = absurd k
    rows_once [] (x ∷ a) b h k = absurd h
    rows_once (g ∷ groups) [] b h k = absurd h
    rows_once (g ∷ groups) (x ∷ a) [] h k = absurd k
    rows_once (g ∷ groups) (x ∷ a) (y ∷ b) h k = ap₂ (λ u v. u ∷ v) (row_once g x y h.0 k.0) (rows_once groups a b h.1 k.1)
