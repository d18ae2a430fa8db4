use Rattle.std.proofs.Common.{◌≡◌, refl, subst, [], ◌∷◌}
use Rattle.mob_arith.specs.Operations.{both_hold}
use Rattle.mob_tagg.proofs.United.{step_value, step_full}
use Rattle.mob_tagg.proofs.adding.and_in.Goals as goal

pub either-requires : goal.either-requires
either-requires c κs = (
  (refl, tt),
  (
    λ p h. tt,
    λ p v i h k. step_full (λ v. v.items) p v (both_hold p.left.now.course.value p.right.now.course.value) i (subst (λ z. v.items ≡ record { span = z.span; course = record { value = both_hold z.left.now.course.value z.right.now.course.value } } ∷ []) k.shows k.says.met),
  ),
)

pub returns-in-Ok : goal.returns-in-Ok
returns-in-Ok c = record { value = step_value (λ v. v.items) _ c.args.total.now c.args.v.now c.in-Ok.value c.in-Ok.ensures.taken both_hold (λ p x k. rw k.shows at k.says.met) }
