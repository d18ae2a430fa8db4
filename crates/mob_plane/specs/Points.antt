-- When two points of the plane are equal: by coordinate.
use Rattle.std.{specs.Prelude.{◌≡◌, ◌↔◌, Bool, IsTrue, ◌&&◌, refl}, specs.Cmp.{IsEquivalence}, proofs.Common.{arith, ap, sym}}
use Rattle.mob_ratio.{specs.Order.{same}, proofs.Order.{same_exact, same_truth}}
use Rattle.mob_plane.specs.declared.point.Point.{Point}

-- both coordinates are the same numbers
abbrev pub same_point : Point → Point → Bool
same_point a b = same a.x b.x && same a.y b.y

-- two points with the same coordinates are equal
pub point_by_coordinates : (a b : Point) → a.x ≡ b.x → a.y ≡ b.y → a ≡ b
point_by_coordinates a b p q = λ i. record { x = p i; y = q i }

-- the test is exact
pub same_point_exact : (a b : Point) → IsTrue (same_point a b) ↔ (a ≡ b)
same_point_exact a b = (
  λ h. point_by_coordinates a b ((same_exact a.x b.x).0 (grind (arith, h))) ((same_exact a.y b.y).0 (grind (arith, h))),
  λ e. rw ((same_exact a.x b.x).1 (ap (λ (p : Point). p.x) e), (same_exact a.y b.y).1 (ap (λ (p : Point). p.y) e)) refl,
)

-- equality of points is an equivalence relation
pub same_point_equivalence : IsEquivalence same_point
same_point_equivalence = record {
  refl = λ a. (same_point_exact a a).1 refl;
  symm = λ a b. same_truth (same_point a b) (same_point b a) (λ h. (same_point_exact b a).1 (sym ((same_point_exact a b).0 h))) (λ h. (same_point_exact a b).1 (sym ((same_point_exact b a).0 h)));
  congr = λ a b c h. ap (λ z. same_point z c) ((same_point_exact a b).0 h);
}
