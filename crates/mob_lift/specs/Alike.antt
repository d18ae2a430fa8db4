-- Two slices with the same function.
use Rattle.std.specs.Prelude.{◌≡◌}
use Rattle.mob_slice.specs.declared.slice.Slice.{Slice}

-- they have the same course, on spans with the same ends
pub record AreAlike {C : Type 0} (a b : Slice C) : Type 0 where
  pub lower : a.span.lower ≡ b.span.lower
  pub upper : a.span.upper ≡ b.span.upper
  pub course : a.course ≡ b.course
