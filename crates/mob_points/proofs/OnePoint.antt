-- A text has at most one reading as a point.
use Rattle.std.proofs.Common.{◌≡◌, Option, Some, refl, sym, ◌∙◌}
use Rattle.mob_language.proofs.Exact.{one_value}
use Rattle.mob_numeral.{specs.Verdict.{HasOneReading}, proofs.Settled.{settled}}
use Rattle.mob_plane.specs.declared.point.Point.{Point}
use Rattle.mob_points.{specs.Points.{points}, proofs.PointsExact.{points_exact}}

same_said : (s : Option Point) (p q : Point) → s ≡ Some p → s ≡ Some q → p ≡ q
same_said s p q e h = one p q (sym e ∙ h)
  where
    one : (p q : Point) → ◌≡◌ {A = Option Point} (Some p) (Some q) → p ≡ q
    one p q e = cc

pub one_point : HasOneReading points
one_point text = settled points text (one_value points_exact refl text) same_said
