-- The nearest approach of two moving points.
use Rattle.std.specs.Prelude.{◌≡◌, true, Option, Some, None}
use Rattle.mob_ratio.{specs.Ratio.{Ratio}, specs.Order.{before, up_to}}
use Rattle.mob_plane.specs.declared.point.Point.{Point}
use Rattle.mob_lift.specs.Sometime.{IsSometime, HaveCommon}
use Rattle.mob_near.specs.Distances.{distance_squared}

-- m is the greatest lower bound of the squared distance over the instants at which both points are
-- defined: it is below m at none of them, and for every greater number it is below that number at
-- one of them. The distance may be m at no instant, if it is only approached at an excluded end.
pub record IsNearest (left right : Ratio → Option Point) (m : Ratio) : Type 0 where
  pub lower : (t : Ratio) (a b : Point) → left t ≡ Some a → right t ≡ Some b → up_to m (distance_squared a b) ≡ true
  pub greatest : (n : Ratio) → before m n ≡ true → IsSometime (λ a b. before (distance_squared a b) n ≡ true) left right

-- The answer is that number. It is None exactly if no instant is common.
abbrev pub IsApproach : (Ratio → Option Point) → (Ratio → Option Point) → Option Ratio → Type 0
IsApproach left right None = HaveCommon left right → ⊥
IsApproach left right (Some m) = HaveCommon left right × IsNearest left right m
