-- What the laws of courses say of courses between written values.
use Rattle.std.{specs.Prelude.{IsTrue, ◌↔◌}, proofs.Common.{◌≡◌, Bool, true, false, List, refl, ◌∙◌}}
use Rattle.mob_ratio.{specs.Ratio.{Ratio}, specs.Order.{before}}
use Rattle.mob_slice.{specs.Course.{IsCourse}, specs.CourseOf.{CourseOf, plain_course}}
use Rattle.mob_literal.specs.Slices.{drawn, arrives}

-- the laws that the texts of a course need
pub record IsLawful {C B : Type 0} (course : CourseOf C B) : Type 0 where
  pub exact : (a b : B) → IsTrue (course.is_same a b) ↔ (a ≡ b)
  pub at_lower : (c : C) (lower upper : Ratio) → course.value c lower upper lower ≡ course.start c
  pub at_upper : (c : C) (lower upper : Ratio) → before lower upper ≡ true → course.value c lower upper upper ≡ course.end c
  pub by_ends : (c d : C) → course.start c ≡ course.start d → course.end c ≡ course.end d → c ≡ d
  pub level : (a : B) (lower upper t : Ratio) → course.value (course.make a a) lower upper t ≡ a
  pub level_start : (a : B) → course.start (course.make a a) ≡ a
  pub level_end : (a : B) → course.end (course.make a a) ≡ a
  pub moves_from : course.steady ≡ false → (a b : B) → course.start (course.make a b) ≡ a
  pub moves_to : course.steady ≡ false → (a b : B) → course.end (course.make a b) ≡ b
  pub one_value : course.steady ≡ true → (c : C) (lower upper t : Ratio) → course.value c lower upper t ≡ course.start c
  pub one_end : course.steady ≡ true → (c : C) → course.start c ≡ course.end c

pub lawful : {C B : Type 0} {steady copies : Bool} {value : C → Ratio → Ratio → Ratio → B} {start end : C → B} {can_make : B → B → Type 0} {make : B → B → C} {continues : C → C → Ratio → Ratio → Ratio → Bool} {parts : C → Ratio → Ratio → Ratio → List Ratio} (is_same : B → B → Bool)
    → ((a b : B) → IsTrue (is_same a b) ↔ (a ≡ b)) → IsCourse steady copies value start end can_make make continues parts → IsLawful (plain_course steady value start end make continues is_same)
lawful is_same exact laws = record {
  exact = exact;
  at_lower = laws.at_lower;
  at_upper = laws.at_upper;
  by_ends = laws.by_ends;
  level = laws.level;
  level_start = λ a. laws.start_made a a (laws.can_level a);
  level_end = λ a. laws.end_made a a (laws.can_level a);
  moves_from = λ h a b. laws.start_made a b (laws.any_ends h a b);
  moves_to = λ h a b. laws.end_made a b (laws.any_ends h a b);
  one_value = laws.one_value;
  one_end = laws.one_end;
}

module _ {C B : Type 0} (course : CourseOf C B) (laws : IsLawful course) where
  -- the course from the start of a course to b is that course: if it ends with b, and under step
  -- interpolation if it ends with its start
  pub drawn_again : (step : Bool) → (step ≡ false → course.steady ≡ false) → (c : C) (b : B) → (step ≡ true → course.start c ≡ course.end c) → (step ≡ false → b ≡ course.end c) → drawn course step (course.start c) b ≡ c
  drawn_again true own c b kept to = laws.by_ends (course.make (course.start c) (course.start c)) c (laws.level_start (course.start c)) (laws.level_end (course.start c) ∙ kept refl)
  drawn_again false own c b kept to = laws.by_ends (course.make (course.start c) b) c (laws.moves_from (own refl) (course.start c) b) (laws.moves_to (own refl) (course.start c) b ∙ to refl)

  -- a course arrives at its own end
  pub arrives_again : (step : Bool) (c : C) → (step ≡ true → course.start c ≡ course.end c) → arrives course step (course.start c) (course.end c) ≡ true
  arrives_again true c kept = (laws.exact (course.start c) (course.end c)).1 (kept refl)
  arrives_again false c kept = refl
