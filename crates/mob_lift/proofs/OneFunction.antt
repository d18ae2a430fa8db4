-- Lemmas on two slices with the same function.
use Rattle.std.specs.Prelude.{◌≡◌}
use Rattle.mob_ratio.specs.Ratio.{Ratio}
use Rattle.mob_slice.specs.declared.slice.Slice.{Slice}
use Rattle.mob_lift.specs.Alike.{AreAlike}

-- a property of one at an instant holds for the other there
pub alike_at : {C X : Type 0} (P : X → Type 0) (f : C → Ratio → Ratio → Ratio → X) (a b : Slice C) (t u : Ratio) → AreAlike a b → t ≡ u → P (f b.course b.span.lower b.span.upper u) → P (f a.course a.span.lower a.span.upper t)
alike_at P f a b t u h e k = rw (h.lower, h.upper, h.course, e) k
