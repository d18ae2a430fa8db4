-- Two moving points have one nearest approach.
use Rattle.std.{specs.Prelude.{◌≡◌, false, Option, Some, None, refl}, proofs.Common.{ap, sym, true≢false}, proofs.lemmas.Bool.{false_from_ne_true}}
use Rattle.mob_ratio.{specs.Ratio.{Ratio}, specs.Order.{before}, proofs.Order.{before-neither}}
use Rattle.mob_plane.specs.declared.point.Point.{Point}
use Rattle.mob_near.specs.Approaches.{IsNearest, IsApproach}

module _ (left right : Ratio → Option Point) where
  -- no lower bound is above the greatest one
  not_above : (a b : Ratio) → IsNearest left right a → IsNearest left right b → before a b ≡ false
  not_above a b h k = false_from_ne_true (before a b) (λ f. let m = h.greatest b f in true≢false (sym (rw m.5 at (k.lower m.0 m.1 m.2 m.3 m.4))))

  pub approach_once : (a b : Option Ratio) → IsApproach left right a → IsApproach left right b → a ≡ b
  approach_once None None h k = refl
  approach_once None (Some b) h k = absurd (h k.0)
  approach_once (Some a) None h k = absurd (k h.0)
  approach_once (Some a) (Some b) h k = ap Some (before-neither a b (not_above a b h.1 k.1) (not_above b a k.1 h.1))
