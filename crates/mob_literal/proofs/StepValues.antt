-- Each value in the slices of a step literal is a value of the type, since it is one of the written
-- values.
use Rattle.std.{specs.Prelude.{Contains, MatchOption}, specs.List.{AllByRecursion, list_all}}
use Rattle.std.{proofs.Common.{◌≡◌, refl, sym, subst, true≢false, ℤ, List, [], ◌∷◌, Bool, true, false, Option, Some, None, Ok, inl, inr}, proofs.lemmas.Bool.{and_parts as both}}
use Rattle.mob_ratio.specs.Ratio.{Ratio}
use Rattle.mob_span.proofs.SpanLemmas.{some_instant}
use Rattle.mob_language.specs.Language.{Text}
use Rattle.mob_list.proofs.Entries.{none_in, which_in, all_by_each, each_of_all}
use Rattle.mob_numeral.specs.Verdict.{Lit}
use Rattle.mob_slice.{specs.CourseOf.{steady_course}, specs.Operands.{steady_limit, steady_value}, specs.Slices.{IsSound}, specs.declared.slice.Slice.{Slice}, specs.declared.steady.Steady.{Steady}}
use Rattle.mob_slice.{proofs.LookUps.{found_value}, proofs.OneAt.{one_slice_at}, proofs.Orders.{ordered, all_sound}}
use Rattle.mob_written.{specs.declared.written.Written.{Written}, specs.declared.written.Sequence.{Sequence}}
use Rattle.mob_literal.{specs.Sequences.{IsValueFrom, is_step}, specs.Sound.{Defines, LitAt, fitting_all, is_sound, is_sound_sequence, are_in_order, steps}}

module _ {A : Type 0} (test : A → Bool) where
  -- a test that all entries pass is passed by each of them
  one_passes : (xs : List A) (x : A) → list_all test xs ≡ true → Contains xs x → test x ≡ true
  one_passes [] x h c = absurd (none_in x c)
  one_passes (y ∷ ys) x h c = elim (which_in y ys x c) [
    | inl e ↦ subst (λ (z : A). test z ≡ true) e (both (test y) (list_all test ys) h).0
    | inr d ↦ one_passes ys x (both (test y) (list_all test ys) h).1 d
  ]

not_refused : (b : Bool) → ¬ (b ≡ false) → b ≡ true
not_refused true h = refl
not_refused false h = absurd (h refl)

steps_always : (says : Bool) → is_step true says ≡ true
steps_always true = refl
steps_always false = refl

module _ {B : Type 0} (has_value : B → Bool) (is_same : B → B → Bool) where
  -- the value of a step literal at an instant is a written one
  from_written : (step : Bool) (i : Written B) (instants : List (Written B)) (t : Ratio) (v : B) → step ≡ true → IsValueFrom (steady_course is_same) step instants i t v → i.value ≡ v
  from_written true i instants t v e h = h
  from_written false i instants t v e h = absurd (true≢false (sym e))

  written : (step : Bool) (qs : List (Sequence (Written B))) (t : Ratio) (v : B) → step ≡ true → is_sound has_value (steady_course is_same) step qs ≡ true → LitAt (steady_course is_same) step qs t v → has_value v ≡ true
  written step qs t v so sound at =
      let q = at.by in
      let i = at.at.by in
      let all = (both (are_in_order qs) (list_all (is_sound_sequence has_value (steady_course is_same) step) qs) sound).1 in
      let one = one_passes (is_sound_sequence has_value (steady_course is_same) step) qs q all at.listed in
      let value = one_passes (λ (j : Written B). has_value j.value) q.instants i (both (list_all (λ (j : Written B). has_value j.value) q.instants) _ one).0 at.at.last.listed in
      subst (λ (x : B). has_value x ≡ true) (from_written step i q.instants t v so at.at.value) value

  -- and so is the value of each slice, since each slice has an instant
  each_written : (step : Bool) (qs : List (Sequence (Written B))) (slices : List (Slice (Steady B))) → step ≡ true → is_sound has_value (steady_course is_same) step qs ≡ true → Defines (steady_course is_same) step qs slices
      → (s : Slice (Steady B)) → Contains slices s → has_value s.course.value ≡ true
  each_written step qs slices so sound defines s c =
      let in_order = ordered steady_limit steady_limit (steady_course is_same).continues slices defines.normal.chained in
      let some = (each_of_all (IsSound steady_limit steady_limit) slices (all_sound steady_limit steady_limit slices in_order) s c).some in
      let at = some_instant s.span some in
      let found = (one_slice_at steady_limit steady_limit slices in_order at.0 s).1 (c, at.1) in
      written step qs at.0 s.course.value so sound ((defines.same at.0 s.course.value).0 (found_value steady_value at.0 slices s found))

  by_fitting : (step : Bool) (o : Option (List (Sequence (Written B)))) (slices : List (Slice (Steady B))) → step ≡ true
      → ¬ MatchOption o ⊥ (λ qs. is_sound has_value (steady_course is_same) step qs ≡ false) → MatchOption o ⊥ (λ qs. Defines (steady_course is_same) step qs slices)
      → AllByRecursion (λ (s : Slice (Steady B)). has_value s.course.value ≡ true) slices
  by_fitting step None slices so sound defines = absurd defines
  by_fitting step (Some qs) slices so sound defines = all_by_each (λ (s : Slice (Steady B)). has_value s.course.value ≡ true) slices (each_written step qs slices so (not_refused _ sound) defines)

pub step_values : {B : Type 0} (day : ℤ) (value : Text → Option B → Type 0) (has_value : B → Bool) (is_same : B → B → Bool) (text : Text) (slices : List (Slice (Steady B)))
    → Lit (steps day value has_value is_same) text (Ok slices) → AllByRecursion (λ (s : Slice (Steady B)). has_value s.course.value ≡ true) slices
step_values day value has_value is_same text slices (written, shape, short, fits, sound, means) =
    by_fitting has_value is_same (is_step true written.says_step) (fitting_all written.sequences) slices (steps_always written.says_step) sound means
