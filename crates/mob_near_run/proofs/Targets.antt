-- The meaning of the options of a command line.
use Rattle.std.{specs.Prelude.{◌≢◌, Result, IfOk, IfSome, IsNone, cond, codes}, proofs.Common.{List, ◌≡◌, ◌∙◌, ℕ, ℤ, Bool, Option, Some, None, Ok, Err, refl, sym, subst, arith}}
use Rattle.clap.specs.Words.{Text}
use Rattle.mob_ast.specs.declared.types.SqlType.{SqlType}
use Rattle.mob_value.specs.declared.value.Value.{Value}
use Rattle.mob_numeral.{specs.declared.fault.ReadText.{ReadText}, specs.declared.fault.ReadText.TheVariants.{NoMemory}}
use Rattle.mob_literal.{specs.SqlText.{SaysAs}, proofs.SqlReading.{one_sql_reading}}
use Rattle.mob_arguments.{specs.Arguments.{IsCount, IsRequired, option_value}, proofs.Readings.{one_count, one_day, one_flag, one_required}}
use Rattle.mob_near_run.{specs.CommandLine.{NearSays, near_command, target_type, target_value}, specs.declared.settings.NearSettings.{NearSettings}, specs.declared.settings.Target.{Target}}
use Rattle.mob_near_run.specs.declared.settings.Target.TheVariants.{Moving, Fixed}
use Rattle.mob_ast.specs.declared.types.SqlType.TheVariants as sql
use Rattle.mob_catalog.proofs.OneTable.{value_known}

fault_known : (f : ReadText) → f ≢ NoMemory → ◌≡◌ {A = Result Value ReadText} (Err f) (Err NoMemory) → ⊥
fault_known f ne e = ne cc

apart : (f : ReadText) (v : Value) → ◌≡◌ {A = Result Value ReadText} (Err f) (Ok v) → ⊥
apart f v e = absurd cc

pub refuses : {E : Type 0} (ty : SqlType) (day : ℤ) (text : Text) (fault : ReadText) (r : Result (Option Target) E) → SaysAs ty day text (Err fault) → IfOk r (λ o. (o ≡ None) × (fault ≢ NoMemory))
    → IfOk r (λ o. IsNone o → (t : Target) → SaysAs ty day text (Ok (target_value t)) → ⊥)
refuses ty day text fault (Ok o) h k = λ none t says. apart fault (target_value t) (one_sql_reading ty day text (Err fault) (Ok (target_value t)) (fault_known fault k.1) (value_known (target_value t)) h says)
refuses ty day text fault (Err e) h k = tt

pub says_none : {E : Type 0} (P : Target → Type 0) (Q : Type 0) (r : Result (Option Target) E) → IfOk r (λ o. (o ≡ None) × Q) → IfOk r (λ o. IfSome o P)
says_none P Q (Ok None) h = tt
says_none P Q (Ok (Some t)) h = absurd (none_some h.0)
  where
    none_some : ◌≡◌ {A = Option Target} (Some t) None → ⊥
    none_some e = absurd cc
says_none P Q (Err e) h = tt

pub by_type : {E : Type 0} (b : Bool) (t : Bool) (day : ℤ) (text : Text) (r : Result (Option Target) E) → b ≡ t → IfOk r (λ o. IsNone o → (t' : Target) → SaysAs (cond t sql.TPoint sql.Point) day text (Ok (target_value t')) → ⊥)
    → IfOk r (λ o. IsNone o → (t' : Target) → SaysAs (cond b sql.TPoint sql.Point) day text (Ok (target_value t')) → ⊥)
by_type b t day text r e h = subst (λ z. IfOk r (λ o. IsNone o → (t' : Target) → SaysAs (cond z sql.TPoint sql.Point) day text (Ok (target_value t')) → ⊥)) (sym e) h

-- ---- one

pub one_text : (o : Option Text) (a b : Text) → o ≡ Some a → o ≡ Some b → a ≡ b
one_text o a b h k = let e : ◌≡◌ {A = Option Text} (Some a) (Some b) = sym h ∙ k in cc

one_row_count : (o : Option Text) (m n : ℕ) → IsRequired (IsCount 1000) o m → IsRequired (IsCount 1000) o n → m ≡ n
one_row_count = one_required (IsCount 1000) (λ text m n h k. one_count 1000 text m n (omega arith) h k)

same_target : (a b : Target) → target_value a ≡ target_value b → a ≡ b
same_target (Moving v) (Moving w) e = cc
same_target (Moving v) (Fixed p) e = absurd cc
same_target (Fixed p) (Moving v) e = absurd cc
same_target (Fixed p) (Fixed q) e = cc

ok_same : (v w : Value) → ◌≡◌ {A = Result Value ReadText} (Ok v) (Ok w) → v ≡ w
ok_same v w e = cc

same_settings : (a b : NearSettings) → a.k ≡ b.k → a.epoch ≡ b.epoch → a.to ≡ b.to → a.wide ≡ b.wide → a ≡ b
same_settings a b k e t w = rw (k, e, t, w) refl

-- arguments give one record of settings
pub near_one : (words : List Text) (a b : NearSettings) → NearSays words a → NearSays words b → a ≡ b
near_one words a b h k =
    let e = one_day (option_value near_command (codes "epoch") words) a.epoch b.epoch h.day k.day in
    let t = one_text (option_value near_command (codes "to") words) h.text k.text h.to k.to in
    let s = subst (λ d. SaysAs (target_type h.text) d h.text (Ok (target_value a.to))) e h.says in
    let u = subst (λ x. SaysAs (target_type x) b.epoch x (Ok (target_value b.to))) (sym t) k.says in
    let v = ok_same (target_value a.to) (target_value b.to) (one_sql_reading (target_type h.text) b.epoch h.text (Ok (target_value a.to)) (Ok (target_value b.to)) (value_known (target_value a.to)) (value_known (target_value b.to)) s u) in
    same_settings a b (one_row_count (option_value near_command (codes "k") words) a.k b.k h.count k.count) e (same_target a.to b.to v) (one_flag (option_value near_command (codes "wide") words) a.wide b.wide h.wide k.wide)
