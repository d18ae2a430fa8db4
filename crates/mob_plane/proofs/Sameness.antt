-- A test of two points by the tests of their coordinates is exact.
use Rattle.std.{specs.Prelude.{◌≡◌, ◌↔◌, Bool, true, false, IsTrue, refl}, proofs.Common.{sym, ◌∙◌}}
use Rattle.mob_ratio.specs.Order.{same}
use Rattle.mob_plane.{specs.Points.{same_point, same_point_exact}, specs.declared.point.Point.{Point}}

exact_as : (a b : Point) (r : Bool) → r ≡ same_point a b → IsTrue r ↔ (a ≡ b)
exact_as a b r e = (λ h. (same_point_exact a b).0 (sym e ∙ h), λ p. e ∙ (same_point_exact a b).1 p)

pub where_x_is : (a b : Point) (r : Bool) → same a.x b.x ≡ true → r ≡ same a.y b.y → IsTrue r ↔ (a ≡ b)
where_x_is a b r h e = exact_as a b r (rw (h, e) refl)

pub where_x_differs : (a b : Point) (r : Bool) → same a.x b.x ≡ false → r ≡ same a.x b.x → IsTrue r ↔ (a ≡ b)
where_x_differs a b r h e = exact_as a b r (rw (e, h) refl)
