-- A literal has at most one reading, and so has the text of an SQL value.
use Rattle.std.{specs.Prelude.{◌↔◌, MatchOption}, proofs.Common.{◌≡◌, ℕ, ℤ, List, Bool, Option, Some, None, refl, sym}}
use Rattle.mob_language.{specs.Readers.{TextReader}, proofs.Exact.{one_value}}
use Rattle.mob_lift.proofs.Unique.{unique, OneList}
use Rattle.mob_numeral.{specs.Verdict.{HasOneReading}, proofs.Settled.{settled}}
use Rattle.mob_slice.{specs.declared.slice.Slice.{Slice}, specs.CourseOf.{CourseOf, plain_course}, specs.Slices.{value_at}, specs.Course.{IsCourse}}
use Rattle.mob_ratio.specs.Ratio.{Ratio}
use Rattle.mob_written.{specs.declared.written.Written.{Written}, specs.declared.written.Sequence.{Sequence}, specs.ValueText.{IsValueText}, specs.Prefix.{admitted}}
use Rattle.mob_written.proofs.LiteralExact.{noted_entry, temporal_exact}
use Rattle.mob_literal.{specs.Sequences.{is_step}, specs.Sound.{fitting_all, Defines, literals}}

-- two options with the same values are equal
pub one_option : {B : Type 0} (o p : Option B) → ((x : B) → (o ≡ Some x) ↔ (p ≡ Some x)) → o ≡ p
one_option None None h = refl
one_option None (Some y) h = (h y).1 refl
one_option (Some x) p h = sym ((h x).0 refl)

-- sequences define one value
one_defined : {C B : Type 0} (course : CourseOf C B) → OneList course → (step : Bool) (qs : List (Sequence (Written B))) (v w : List (Slice C)) → Defines course step qs v → Defines course step qs w → v ≡ w
one_defined course one step qs v w p q =
    one v w p.normal.chained q.normal.chained
    (λ t. one_option (value_at course.value v t) (value_at course.value w t)
    (λ x. (λ e. (q.same t x).1 ((p.same t x).0 e), λ e. (p.same t x).1 ((q.same t x).0 e))))

one_meaning : {C B : Type 0} (course : CourseOf C B) → OneList course → (step : Bool) (o : Option (List (Sequence (Written B)))) (v w : List (Slice C)) → MatchOption o ⊥ (λ qs. Defines course step qs v) → MatchOption o ⊥ (λ qs. Defines course step qs w) → v ≡ w
one_meaning course one step None v w a b = absurd a
one_meaning course one step (Some qs) v w a b = one_defined course one step qs v w a b

pub one_reading : {C B : Type 0} (day : ℤ) {steady copies : Bool} {moves : C → Ratio → Ratio → Ratio → B} {start end : C → B} {can_make : B → B → Type 0} {make : B → B → C} {continues : C → C → Ratio → Ratio → Ratio → Bool} {parts : C → Ratio → Ratio → Ratio → List Ratio} (is_same : B → B → Bool)
    → IsCourse steady copies moves start end can_make make continues parts
    → {value : List ℕ → Option B → Type 0} {reader : TextReader (Option B)} {F : List ℕ → Type 0} → IsValueText value reader F → (has_srid : Bool) → (has_value : B → Bool)
    → HasOneReading (literals day has_srid value has_value (plain_course steady moves start end make continues is_same))
one_reading {C} {B} day {steady} {copies} {moves} {start} {end} {can_make} {make} {continues} {parts} is_same laws {value} {reader} {F} law has_srid has_value text =
    let course = plain_course steady moves start end make continues is_same in
    settled (literals day has_srid value has_value course) text (one_value (temporal_exact (admitted steady has_srid) (noted_entry day law)) refl text) (λ s. one_meaning course (λ v w a b e. unique laws v w a b e) (is_step steady s.says_step) (fitting_all s.sequences))
