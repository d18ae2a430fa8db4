-- Normal lists of slices that are one function of time are one list, by the course of their values.
use Rattle.std.{specs.Prelude.{IsTrue, ◌↔◌}, proofs.Common.{◌≡◌, Bool, List, map, refl, ap, sym, ◌∙◌}}
use Rattle.mob_ratio.{specs.Ratio.{Ratio}, specs.Order.{same}}
use Rattle.mob_slice.{specs.Course.{IsCourse}, specs.CourseOf.{steady_course, line_course}, specs.Slices.{value_at, IsNormal}, specs.declared.line.Line.{Line}, specs.declared.slice.Slice.{Slice}}
use Rattle.mob_value.{specs.Lines.{level_line}, specs.Moving.{SteadySlices, AreNormalBy, step_function, line_function}, proofs.Widening.{level_normal, level_at}}
use Rattle.mob_lift.{proofs.Unique.{unique}, proofs.ByCourse.{one_of_lines}}
use Rattle.mob_ordinary.specs.Ordinary.{AreOneFunction}

-- lists are one function exactly if they are equal
module _ {C B : Type 0} {steady copies : Bool} {value : C → Ratio → Ratio → Ratio → B} {start end : C → B} {can_make : B → B → Type 0} {make : B → B → C} {continues : C → C → Ratio → Ratio → Ratio → Bool} {parts : C → Ratio → Ratio → Ratio → List Ratio} (laws : IsCourse steady copies value start end can_make make continues parts) where
  pub function_test : (a b v w : List (Slice C)) (r : Bool) → v ≡ a → w ≡ b → IsNormal start end continues a → IsNormal start end continues b → IsTrue r ↔ (v ≡ w) → IsTrue r ↔ AreOneFunction (λ t. value_at value a t) (λ t. value_at value b t)
  function_test a b v w r e f n m h = (
    λ k t. ap (λ z. value_at value z t) (sym e ∙ h.0 k ∙ f),
    λ k. h.1 (e ∙ unique laws a b n.chained m.chained k ∙ sym f),
  )

-- steps are the function of a list of lines exactly if that is the list of their level lines
pub level_test : (a v : SteadySlices Ratio) (b w : List (Slice Line)) (r : Bool) → v ≡ a → w ≡ b → AreNormalBy (steady_course same) a → AreNormalBy line_course b → IsTrue r ↔ (map level_line v ≡ w) → IsTrue r ↔ AreOneFunction (step_function a) (line_function b)
level_test a v b w r e f n m h =
    let level = ap (map level_line) e in (
      λ k t. sym (level_at a b (sym f ∙ sym (h.0 k) ∙ level) t),
      λ k. h.1 (level ∙ one_of_lines (map level_line a) b (level_normal a (map level_line a) n refl).chained m.chained (λ t. level_at a (map level_line a) refl t ∙ k t) ∙ sym f),
    )
