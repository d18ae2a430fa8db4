-- Aggregates as groups hold them, with one more value.
use Rattle.std.specs.Prelude.{◌≡◌, ◌↔◌, Bool, true, false, cond, IsTrue, refl, List, [], ◌∷◌, ◌++◌, Option, Some, None, MatchOption, Result, Ok, Err, OnOk, IfErr}
use Rattle.std.{proofs.Common.{ap, sym, ◌∙◌, subst}, proofs.lemmas.Option.{none-some}}
use Rattle.mob_ratio.{specs.Ratio.{Ratio}, specs.Order.{same}, proofs.Order.{same_exact}}
use Rattle.mob_arith.specs.Operations.{sum_of, both_hold, one_holds}
use Rattle.mob_span.{specs.Flags.{same_bool, same_bool_exact}, proofs.SpanLemmas.{some_instant}}
use Rattle.mob_slice.{specs.CourseOf.{steady_course}, specs.Operands.{steady_value, steady_limit}, specs.Slices.{value_at}, specs.declared.steady.Steady.{Steady}}
use Rattle.mob_slice.specs.declared.formula.Formula.{Formula}
use Rattle.mob_list.{specs.declared.fault.Fault.{Fault}, specs.declared.fault.Fault.TheVariants.{Because, NoMemory}}
use Rattle.mob_ast.specs.declared.types.SqlType.{SqlType}
use Rattle.mob_operators.{specs.declared.aggregate.AggKind.{AggKind}, specs.declared.aggregate.AggKind.TheVariants.{CountAll, Count, Sum, TCount, TSum, TAnd, TOr}}
use Rattle.mob_value.{specs.declared.value.Value.{Value}, specs.declared.value.Value.TheVariants.{Null, MovingBool, MovingInt}, specs.Moving.{AreNormalBy, SteadySlices, or_nothing}}
use Rattle.mob_lift.proofs.ByCourse.{one_of_steps}
use Rattle.mob_tagg.{specs.Gathered.{united_all, gathered_parts, whole_at}, specs.United.{united_by}, specs.declared.parts.Part.{Part}}
use Rattle.mob_tagg.{specs.Aggregates.{IsAggregate, JoinsBy, count, all_hold, some_holds}, proofs.Unions.{normal_union}, proofs.Joining.{count_joins, all_joins, some_joins}}
use Rattle.mob_tail.{specs.declared.state.State.{State}, specs.declared.state.State.TheVariants.{Whole, Counts, All, Any}}
use Rattle.mob_tail.{specs.Aggregated.{IsOverTime, IsAggregated, IsUnion, IsAggregateWith, leaves_out, one_there, truth_there, slices_there, steps_of, truths_of}, specs.Made.{made_in}}
use Rattle.mob_tail.specs.States.{AreTogether, AreTruthsWith, IsOneMore, is_in_parts, IsKeptIn, IsStartState, IsStateWith}
use Rattle.mob_tail.{proofs.Aggregating.{over_more, seen_steps, seen_truths, all_alone, some_alone, left_out_with}, proofs.CountsFit.{count_fits}}

-- ---- parts that together are a value

module _ {B : Type 0} (is_same : B → B → Bool) (exact : (a b : B) → IsTrue (is_same a b) ↔ (a ≡ b)) (make : SteadySlices B → Value) (see : Value → Option (SteadySlices B)) (seen : (r : Option (SteadySlices B)) → see (or_nothing make r) ≡ r) (op : B → B → B) where
  kept_as : (parts : List (Part (Steady B) B)) (o : Option (SteadySlices B)) → MatchOption o (Unit {0}) (AreNormalBy (steady_course is_same)) → ((t : Ratio) → united_all op (gathered_parts steady_value parts t) ≡ slices_there steady_value o t) → AreTogether is_same make see op parts (or_nothing make o)
  kept_as parts o n e = record {
    seen = ap (or_nothing make) (sym (seen o));
    normal = subst (λ z. MatchOption z (Unit {0}) (AreNormalBy (steady_course is_same))) (sym (seen o)) n;
    at_each = λ t. e t ∙ ap (λ z. slices_there steady_value z t) (sym (seen o));
  }

  -- no parts
  pub none_together : (parts : List (Part (Steady B) B)) → parts ≡ [] → AreTogether is_same make see op parts Null
  none_together parts e = kept_as parts None tt (λ t. ap (λ z. united_all op (gathered_parts steady_value z t)) e)

  -- one more value among the parts
  kept_more : (parts new : List (Part (Steady B) B)) (r : Value) (w : SteadySlices B) → AreTogether is_same make see op parts r → AreNormalBy (steady_course is_same) w
      → ((t : Ratio) → united_all op (gathered_parts steady_value new t) ≡ united_by op (united_all op (gathered_parts steady_value parts t)) (value_at steady_value w t)) → (u : Value) × AreTogether is_same make see op new u × IsUnion (steady_course is_same) make op (see r) (Some w) r u
  kept_more parts new r w h n e = by (see r) h.normal (λ t. e t ∙ ap (λ z. united_by op z (value_at steady_value w t)) (h.at_each t))
    where
      by : (o : Option (SteadySlices B)) → MatchOption o (Unit {0}) (AreNormalBy (steady_course is_same)) → ((t : Ratio) → united_all op (gathered_parts steady_value new t) ≡ united_by op (slices_there steady_value o t) (value_at steady_value w t))
          → (u : Value) × AreTogether is_same make see op new u × IsUnion (steady_course is_same) make op o (Some w) r u
      by None m f = (make w, kept_as new (Some w) n f, refl)
      by (Some v) m f = let x = normal_union is_same exact op v w m n in (make x.0, kept_as new (Some x.0) x.1 (λ t. f t ∙ sym (x.2 t)), (x.0, refl, x.1, x.2))

  union_none : (o : Option (SteadySlices B)) (r : Value) → IsUnion (steady_course is_same) make op o None r r
  union_none None r = refl
  union_none (Some t) r = refl

  module _ {A : Type 0} (f : List A → B) (joins : JoinsBy op f) (there : Value → Ratio → Option A) where
    pub more_together : (parts new : List (Part (Steady B) B)) (vs : List Value) (r v : Value) (w : SteadySlices B) → AreTogether is_same make see op parts r → IsOverTime (steady_course is_same) make f there vs r → IsAggregate there steady_value steady_limit steady_limit (steady_course is_same).continues f (v ∷ []) (Some w)
        → ((t : Ratio) → united_all op (gathered_parts steady_value new t) ≡ united_by op (united_all op (gathered_parts steady_value parts t)) (value_at steady_value w t)) → (u : Value) × AreTogether is_same make see op new u × IsOverTime (steady_course is_same) make f there (vs ++ v ∷ []) u
    more_together parts new vs r v w kept h one e =
        let more = kept_more parts new r w kept one.0 e in
        (more.0, more.1, over_more (steady_course is_same) make see seen op f joins there vs r v more.0 (Some w) h one more.2)

    pub same_together : (vs : List Value) (r v : Value) → IsOverTime (steady_course is_same) make f there vs r → IsAggregate there steady_value steady_limit steady_limit (steady_course is_same).continues f (v ∷ []) None → IsOverTime (steady_course is_same) make f there (vs ++ v ∷ []) r
    same_together vs r v h one = over_more (steady_course is_same) make see seen op f joins there vs r v r None h one (union_none (see r) r)

  -- ---- the value of parts

  no_value : (w : SteadySlices B) → AreNormalBy (steady_course is_same) w → ((t : Ratio) → None ≡ value_at steady_value w t) → {R : Type 0} → R
  no_value [] n e = absurd (n.some refl)
  no_value (s ∷ w) n e = let i = some_instant s.span n.chained.0.some in absurd (none-some s.course.value (e i.0 ∙ ap (λ b. cond b (Some s.course.value) (value_at steady_value w i.0)) i.1))

  one_option : (o p : Option (SteadySlices B)) → MatchOption o (Unit {0}) (AreNormalBy (steady_course is_same)) → MatchOption p (Unit {0}) (AreNormalBy (steady_course is_same)) → ((t : Ratio) → whole_at steady_value o t ≡ slices_there steady_value p t) → o ≡ p
  one_option None None n m e = refl
  one_option None (Some w) n m e = no_value w m e
  one_option (Some v) None n m e = no_value v n (λ t. sym (e t))
  one_option (Some v) (Some w) n m e = ap Some (one_of_steps is_same exact v w n.chained m.chained e)

  left_alone : (x : Option B) → united_by op x None ≡ x
  left_alone None = refl
  left_alone (Some x) = refl

  -- the parts together are that value
  pub together_is : (parts : List (Part (Steady B) B)) (r : Value) (o : Option (SteadySlices B)) → AreTogether is_same make see op parts r → MatchOption o (Unit {0}) (AreNormalBy (steady_course is_same))
      → ((t : Ratio) → whole_at steady_value o t ≡ united_by op (united_all op (gathered_parts steady_value parts t)) None) → or_nothing make o ≡ r
  together_is parts r o h n e = ap (or_nothing make) (one_option o (see r) n h.normal (λ t. e t ∙ left_alone (united_all op (gathered_parts steady_value parts t)) ∙ h.at_each t)) ∙ sym h.seen

-- ---- an aggregate kept as one value

kept_whole : (kind : AggKind) (v r : Value) → IsKeptIn kind (Whole v) r → (is_in_parts kind ≡ false) × (v ≡ r)
kept_whole CountAll v r h = (refl, h)
kept_whole Count v r h = (refl, h)
kept_whole Sum v r h = (refl, h)
kept_whole TSum v r h = (refl, h)
kept_whole TCount v r h = absurd h
kept_whole TAnd v r h = absurd h
kept_whole TOr v r h = absurd h

whole_kept : (kind : AggKind) (v : Value) → is_in_parts kind ≡ false → IsKeptIn kind (Whole v) v
whole_kept CountAll v h = refl
whole_kept Count v h = refl
whole_kept Sum v h = refl
whole_kept TSum v h = refl
whole_kept TCount v h = absurd cc
whole_kept TAnd v h = absurd cc
whole_kept TOr v h = absurd cc

pub whole_is : (kind : AggKind) (v r : Value) → IsKeptIn kind (Whole v) r → v ≡ r
whole_is kind v r h = (kept_whole kind v r h).1

pub start_whole : (kind : AggKind) (v : Value) → is_in_parts kind ≡ false → ((ty : SqlType) → IsAggregated kind ty [] v) → IsStartState kind (Whole v)
start_whole kind v p h = λ ty. (v, whole_kept kind v p, h ty)

whole_ok : (left_out : Bool) (kind : AggKind) (ty : SqlType) (before v w : Value) → (is_in_parts kind ≡ false → IsAggregateWith left_out kind ty before v (Ok w)) → IsStateWith left_out kind ty (Whole before) v (Ok (Whole w))
whole_ok left_out kind ty before v w f = λ r kept vs h few.
    let is = kept_whole kind before r kept in
    let both = f is.0 vs (subst (λ z. IsAggregated kind ty vs z) (sym is.1) h) in
    (w, whole_kept kind w is.0, both.0, both.1)

whole_err : (left_out : Bool) (kind : AggKind) (ty : SqlType) (before v : Value) (e : Fault Formula) → (is_in_parts kind ≡ false → IsAggregateWith left_out kind ty before v (Err e)) → IsStateWith left_out kind ty (Whole before) v (Err e)
whole_err left_out kind ty before v (Because g) f = λ r kept vs h.
    let is = kept_whole kind before r kept in
    f is.0 vs (subst (λ z. IsAggregated kind ty vs z) (sym is.1) h)
whole_err left_out kind ty before v NoMemory f = tt

-- one more value in an aggregate that is kept as one value
pub whole_in : (left_out : Bool) (kind : AggKind) (ty : SqlType) (before new v : Value) (r : Result (Unit {0}) (Fault Formula)) → (is_in_parts kind ≡ false → IsAggregateWith left_out kind ty before v (made_in r new)) → IsStateWith left_out kind ty (Whole before) v (made_in r (Whole new))
whole_in left_out kind ty before new v (Ok u) f = whole_ok left_out kind ty before v new f
whole_in left_out kind ty before new v (Err e) f = whole_err left_out kind ty before v e f

-- a value that is ignored
pub left_out_state : (kind : AggKind) (ty : SqlType) (s : State) (v : Value) → true ≡ leaves_out kind v → IsStateWith (leaves_out kind v) kind ty s v (Ok s)
left_out_state kind ty s v e = λ r kept vs h few. let both = left_out_with kind ty r v e vs h in (r, kept, both.0, both.1)

-- ---- an aggregate kept in parts

not_kept : (left_out : Bool) (kind : AggKind) (ty : SqlType) (s : State) (v : Value) (r : Result State (Fault Formula)) → ((x : Value) → IsKeptIn kind s x → ⊥) → IsStateWith left_out kind ty s v r
not_kept left_out kind ty s v (Ok x) never = λ r kept. absurd (never r kept)
not_kept left_out kind ty s v (Err (Because f)) never = λ r kept. absurd (never r kept)
not_kept left_out kind ty s v (Err NoMemory) never = tt

abbrev CountParts : Type 0
CountParts = List (Part (Steady Ratio) Ratio)

abbrev TruthParts : Type 0
TruthParts = List (Part (Steady Bool) Bool)

counts_kept : (kind : AggKind) (parts : CountParts) (r : Value) → IsKeptIn kind (Counts parts) r → AreTogether same MovingInt steps_of sum_of parts r
counts_kept TCount parts r h = h
counts_kept CountAll parts r h = absurd h
counts_kept Count parts r h = absurd h
counts_kept Sum parts r h = absurd h
counts_kept TSum parts r h = absurd h
counts_kept TAnd parts r h = absurd h
counts_kept TOr parts r h = absurd h

all_kept : (kind : AggKind) (parts : TruthParts) (r : Value) → IsKeptIn kind (All parts) r → AreTogether same_bool MovingBool truths_of both_hold parts r
all_kept TAnd parts r h = h
all_kept CountAll parts r h = absurd h
all_kept Count parts r h = absurd h
all_kept Sum parts r h = absurd h
all_kept TSum parts r h = absurd h
all_kept TCount parts r h = absurd h
all_kept TOr parts r h = absurd h

any_kept : (kind : AggKind) (parts : TruthParts) (r : Value) → IsKeptIn kind (Any parts) r → AreTogether same_bool MovingBool truths_of one_holds parts r
any_kept TOr parts r h = h
any_kept CountAll parts r h = absurd h
any_kept Count parts r h = absurd h
any_kept Sum parts r h = absurd h
any_kept TSum parts r h = absurd h
any_kept TCount parts r h = absurd h
any_kept TAnd parts r h = absurd h

-- what holds of the one kind that is kept like this holds of every kind
pub counts_at : (kind : AggKind) (ty : SqlType) (parts : CountParts) (v : Value) (r : Result State (Fault Formula)) → false ≡ leaves_out kind v → IsStateWith false TCount ty (Counts parts) v r → IsStateWith (leaves_out kind v) kind ty (Counts parts) v r
counts_at TCount ty parts v r e h = subst (λ b. IsStateWith b TCount ty (Counts parts) v r) e h
counts_at CountAll ty parts v r e h = not_kept (leaves_out CountAll v) CountAll ty (Counts parts) v r (λ x k. k)
counts_at Count ty parts v r e h = not_kept (leaves_out Count v) Count ty (Counts parts) v r (λ x k. k)
counts_at Sum ty parts v r e h = not_kept (leaves_out Sum v) Sum ty (Counts parts) v r (λ x k. k)
counts_at TSum ty parts v r e h = not_kept (leaves_out TSum v) TSum ty (Counts parts) v r (λ x k. k)
counts_at TAnd ty parts v r e h = not_kept (leaves_out TAnd v) TAnd ty (Counts parts) v r (λ x k. k)
counts_at TOr ty parts v r e h = not_kept (leaves_out TOr v) TOr ty (Counts parts) v r (λ x k. k)

all_at : (kind : AggKind) (ty : SqlType) (parts : TruthParts) (v : Value) (r : Result State (Fault Formula)) → false ≡ leaves_out kind v → IsStateWith false TAnd ty (All parts) v r → IsStateWith (leaves_out kind v) kind ty (All parts) v r
all_at TAnd ty parts v r e h = subst (λ b. IsStateWith b TAnd ty (All parts) v r) e h
all_at CountAll ty parts v r e h = not_kept (leaves_out CountAll v) CountAll ty (All parts) v r (λ x k. k)
all_at Count ty parts v r e h = not_kept (leaves_out Count v) Count ty (All parts) v r (λ x k. k)
all_at Sum ty parts v r e h = not_kept (leaves_out Sum v) Sum ty (All parts) v r (λ x k. k)
all_at TSum ty parts v r e h = not_kept (leaves_out TSum v) TSum ty (All parts) v r (λ x k. k)
all_at TCount ty parts v r e h = not_kept (leaves_out TCount v) TCount ty (All parts) v r (λ x k. k)
all_at TOr ty parts v r e h = not_kept (leaves_out TOr v) TOr ty (All parts) v r (λ x k. k)

any_at : (kind : AggKind) (ty : SqlType) (parts : TruthParts) (v : Value) (r : Result State (Fault Formula)) → false ≡ leaves_out kind v → IsStateWith false TOr ty (Any parts) v r → IsStateWith (leaves_out kind v) kind ty (Any parts) v r
any_at TOr ty parts v r e h = subst (λ b. IsStateWith b TOr ty (Any parts) v r) e h
any_at CountAll ty parts v r e h = not_kept (leaves_out CountAll v) CountAll ty (Any parts) v r (λ x k. k)
any_at Count ty parts v r e h = not_kept (leaves_out Count v) Count ty (Any parts) v r (λ x k. k)
any_at Sum ty parts v r e h = not_kept (leaves_out Sum v) Sum ty (Any parts) v r (λ x k. k)
any_at TSum ty parts v r e h = not_kept (leaves_out TSum v) TSum ty (Any parts) v r (λ x k. k)
any_at TCount ty parts v r e h = not_kept (leaves_out TCount v) TCount ty (Any parts) v r (λ x k. k)
any_at TAnd ty parts v r e h = not_kept (leaves_out TAnd v) TAnd ty (Any parts) v r (λ x k. k)

-- ---- one more value

-- what is counted of one value
counted_as : (ty : SqlType) (v : Value) (o : Option (SteadySlices Ratio)) → IsAggregated TCount ty (v ∷ []) (or_nothing MovingInt o) → IsAggregate one_there steady_value steady_limit steady_limit (steady_course same).continues count (v ∷ []) o
counted_as ty v o a = subst (λ z. IsAggregate one_there steady_value steady_limit steady_limit (steady_course same).continues count (v ∷ []) z) (sym (sym (seen_steps o) ∙ ap steps_of a.2 ∙ seen_steps a.0)) a.1

counts_more : (ty : SqlType) (parts new : CountParts) (v : Value) (w : SteadySlices Ratio) → IsAggregated TCount ty (v ∷ []) (MovingInt w) → IsOneMore sum_of parts new w → IsStateWith false TCount ty (Counts parts) v (Ok (Counts new))
counts_more ty parts new v w a e = λ r kept vs h few.
    let more = more_together same same_exact MovingInt steps_of seen_steps sum_of count count_joins one_there parts new vs r v w kept h (counted_as ty v (Some w) a) e in
    (more.0, more.1, more.2, (r, h, (MovingInt w, a, count_fits TCount ty vs v r (MovingInt w) refl few h a)))

pub counts_same : (ty : SqlType) (parts : CountParts) (v : Value) → IsAggregated TCount ty (v ∷ []) Null → IsStateWith false TCount ty (Counts parts) v (Ok (Counts parts))
counts_same ty parts v a = λ r kept vs h few.
    (r, kept, same_together same same_exact MovingInt steps_of seen_steps sum_of count count_joins one_there vs r v h (counted_as ty v None a), (r, h, (Null, a, count_fits TCount ty vs v r Null refl few h a)))

all_more : (ty : SqlType) (parts new : TruthParts) (v : Value) (w : SteadySlices Bool) → truths_of v ≡ Some w → AreNormalBy (steady_course same_bool) w → IsOneMore both_hold parts new w → IsStateWith false TAnd ty (All parts) v (Ok (All new))
all_more ty parts new v w is n e = λ r kept vs h few.
    let one = all_alone v (subst (λ z. MatchOption z (Unit {0}) (AreNormalBy (steady_course same_bool))) (sym is) n) in
    let more = more_together same_bool same_bool_exact MovingBool truths_of seen_truths both_hold all_hold all_joins truth_there parts new vs r v w kept h (subst (λ z. IsAggregate truth_there steady_value steady_limit steady_limit (steady_course same_bool).continues all_hold (v ∷ []) z) is one) e in
    (more.0, more.1, more.2, (r, h, (or_nothing MovingBool (truths_of v), (truths_of v, one, refl), refl)))

all_same : (ty : SqlType) (parts : TruthParts) (v : Value) → truths_of v ≡ None → IsStateWith false TAnd ty (All parts) v (Ok (All parts))
all_same ty parts v is = λ r kept vs h few.
    let one = all_alone v (subst (λ z. MatchOption z (Unit {0}) (AreNormalBy (steady_course same_bool))) (sym is) tt) in
    (r, kept, same_together same_bool same_bool_exact MovingBool truths_of seen_truths both_hold all_hold all_joins truth_there vs r v h (subst (λ z. IsAggregate truth_there steady_value steady_limit steady_limit (steady_course same_bool).continues all_hold (v ∷ []) z) is one), (r, h, (or_nothing MovingBool (truths_of v), (truths_of v, one, refl), refl)))

any_more : (ty : SqlType) (parts new : TruthParts) (v : Value) (w : SteadySlices Bool) → truths_of v ≡ Some w → AreNormalBy (steady_course same_bool) w → IsOneMore one_holds parts new w → IsStateWith false TOr ty (Any parts) v (Ok (Any new))
any_more ty parts new v w is n e = λ r kept vs h few.
    let one = some_alone v (subst (λ z. MatchOption z (Unit {0}) (AreNormalBy (steady_course same_bool))) (sym is) n) in
    let more = more_together same_bool same_bool_exact MovingBool truths_of seen_truths one_holds some_holds some_joins truth_there parts new vs r v w kept h (subst (λ z. IsAggregate truth_there steady_value steady_limit steady_limit (steady_course same_bool).continues some_holds (v ∷ []) z) is one) e in
    (more.0, more.1, more.2, (r, h, (or_nothing MovingBool (truths_of v), (truths_of v, one, refl), refl)))

any_same : (ty : SqlType) (parts : TruthParts) (v : Value) → truths_of v ≡ None → IsStateWith false TOr ty (Any parts) v (Ok (Any parts))
any_same ty parts v is = λ r kept vs h few.
    let one = some_alone v (subst (λ z. MatchOption z (Unit {0}) (AreNormalBy (steady_course same_bool))) (sym is) tt) in
    (r, kept, same_together same_bool same_bool_exact MovingBool truths_of seen_truths one_holds some_holds some_joins truth_there vs r v h (subst (λ z. IsAggregate truth_there steady_value steady_limit steady_limit (steady_course same_bool).continues some_holds (v ∷ []) z) is one), (r, h, (or_nothing MovingBool (truths_of v), (truths_of v, one, refl), refl)))

-- what a step of each of these makes of the parts
pub counts_step : (ty : SqlType) (parts new : CountParts) (v : Value) (w : SteadySlices Ratio) (r : Result (Unit {0}) (Fault Formula)) → IsAggregated TCount ty (v ∷ []) (MovingInt w) → OnOk r (IsOneMore sum_of parts new w) → IfErr r (λ e. e ≡ NoMemory) → IsStateWith false TCount ty (Counts parts) v (made_in r (Counts new))
counts_step ty parts new v w (Ok u) a h m = counts_more ty parts new v w a h
counts_step ty parts new v w (Err e) a h m = subst (λ z. IsStateWith false TCount ty (Counts parts) v (Err z)) (sym m) tt

pub all_step : (kind : AggKind) (ty : SqlType) (parts new : TruthParts) (v : Value) (r : Result (Unit {0}) (Fault Formula)) → false ≡ leaves_out kind v → OnOk r (AreTruthsWith both_hold parts (truths_of v) new) → IfErr r (λ e. e ≡ NoMemory) → IsStateWith (leaves_out kind v) kind ty (All parts) v (made_in r (All new))
all_step kind ty parts new v r e h m = all_at kind ty parts v (made_in r (All new)) e (by r (truths_of v) refl h m)
  where
    by : (r : Result (Unit {0}) (Fault Formula)) (o : Option (SteadySlices Bool)) → truths_of v ≡ o → OnOk r (AreTruthsWith both_hold parts o new) → IfErr r (λ e. e ≡ NoMemory) → IsStateWith false TAnd ty (All parts) v (made_in r (All new))
    by (Ok u) None is h m = subst (λ z. IsStateWith false TAnd ty (All parts) v (Ok (All z))) (sym h) (all_same ty parts v is)
    by (Ok u) (Some w) is h m = all_more ty parts new v w is h.0 h.1
    by (Err e) o is h m = subst (λ z. IsStateWith false TAnd ty (All parts) v (Err z)) (sym m) tt

pub any_step : (kind : AggKind) (ty : SqlType) (parts new : TruthParts) (v : Value) (r : Result (Unit {0}) (Fault Formula)) → false ≡ leaves_out kind v → OnOk r (AreTruthsWith one_holds parts (truths_of v) new) → IfErr r (λ e. e ≡ NoMemory) → IsStateWith (leaves_out kind v) kind ty (Any parts) v (made_in r (Any new))
any_step kind ty parts new v r e h m = any_at kind ty parts v (made_in r (Any new)) e (by r (truths_of v) refl h m)
  where
    by : (r : Result (Unit {0}) (Fault Formula)) (o : Option (SteadySlices Bool)) → truths_of v ≡ o → OnOk r (AreTruthsWith one_holds parts o new) → IfErr r (λ e. e ≡ NoMemory) → IsStateWith false TOr ty (Any parts) v (made_in r (Any new))
    by (Ok u) None is h m = subst (λ z. IsStateWith false TOr ty (Any parts) v (Ok (Any z))) (sym h) (any_same ty parts v is)
    by (Ok u) (Some w) is h m = any_more ty parts new v w is h.0 h.1
    by (Err e) o is h m = subst (λ z. IsStateWith false TOr ty (Any parts) v (Err z)) (sym m) tt

-- ---- no value

pub start_counts : (parts : CountParts) → parts ≡ [] → IsStartState TCount (Counts parts)
start_counts parts e = λ ty. (Null, none_together same same_exact MovingInt steps_of seen_steps sum_of parts e, (None, λ t. refl, refl))

pub start_all : (parts : TruthParts) → parts ≡ [] → IsStartState TAnd (All parts)
start_all parts e = λ ty. (Null, none_together same_bool same_bool_exact MovingBool truths_of seen_truths both_hold parts e, (None, λ t. refl, refl))

pub start_any : (parts : TruthParts) → parts ≡ [] → IsStartState TOr (Any parts)
start_any parts e = λ ty. (Null, none_together same_bool same_bool_exact MovingBool truths_of seen_truths one_holds parts e, (None, λ t. refl, refl))

-- ---- the value of a state

pub counts_is : (kind : AggKind) (parts : CountParts) (r : Value) (o : Option (SteadySlices Ratio)) → IsKeptIn kind (Counts parts) r → MatchOption o (Unit {0}) (AreNormalBy (steady_course same)) → ((t : Ratio) → whole_at steady_value o t ≡ united_by sum_of (united_all sum_of (gathered_parts steady_value parts t)) None) → or_nothing MovingInt o ≡ r
counts_is kind parts r o h n e = together_is same same_exact MovingInt steps_of seen_steps sum_of parts r o (counts_kept kind parts r h) n e

pub all_is : (kind : AggKind) (parts : TruthParts) (r : Value) (o : Option (SteadySlices Bool)) → IsKeptIn kind (All parts) r → MatchOption o (Unit {0}) (AreNormalBy (steady_course same_bool)) → ((t : Ratio) → whole_at steady_value o t ≡ united_by both_hold (united_all both_hold (gathered_parts steady_value parts t)) None) → or_nothing MovingBool o ≡ r
all_is kind parts r o h n e = together_is same_bool same_bool_exact MovingBool truths_of seen_truths both_hold parts r o (all_kept kind parts r h) n e

pub any_is : (kind : AggKind) (parts : TruthParts) (r : Value) (o : Option (SteadySlices Bool)) → IsKeptIn kind (Any parts) r → MatchOption o (Unit {0}) (AreNormalBy (steady_course same_bool)) → ((t : Ratio) → whole_at steady_value o t ≡ united_by one_holds (united_all one_holds (gathered_parts steady_value parts t)) None) → or_nothing MovingBool o ≡ r
any_is kind parts r o h n e = together_is same_bool same_bool_exact MovingBool truths_of seen_truths one_holds parts r o (any_kept kind parts r h) n e
