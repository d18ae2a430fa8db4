use Rattle.std.{proofs.Common.{refl}, proofs.lemmas.Result.{IfOk-weaker}}
use Rattle.mob_value.{specs.declared.value.Value.TheVariants.{MovingBool, MovingInt, MovingFrac, MovingText, MovingPoint}, specs.Moving.{or_nothing}}
use Rattle.mob_tail.proofs.Aggregating.{ones_over}
use Rattle.mob_tail.proofs.adding.ones_on.Goals as goal

pub returns-in-MovingBool : goal.returns-in-MovingBool
returns-in-MovingBool c = rw c.in-MovingBool.is (record { ones = IfOk-weaker c.ones_value.result _ _ (λ o h ty. ones_over ty (MovingBool c.in-MovingBool.moving) (or_nothing MovingInt o) _ (λ t. refl) h) c.ones_value.ensures.ones })

pub returns-in-MovingInt : goal.returns-in-MovingInt
returns-in-MovingInt c = rw c.in-MovingInt.is (record { ones = IfOk-weaker c.ones_value-in-MovingInt.result _ _ (λ o h ty. ones_over ty (MovingInt c.in-MovingInt.moving) (or_nothing MovingInt o) _ (λ t. refl) h) c.ones_value-in-MovingInt.ensures.ones })

pub returns-in-MovingFrac : goal.returns-in-MovingFrac
returns-in-MovingFrac c = rw c.in-MovingFrac.is (record { ones = IfOk-weaker c.ones_value-in-MovingFrac.result _ _ (λ o h ty. ones_over ty (MovingFrac c.in-MovingFrac.moving) (or_nothing MovingInt o) _ (λ t. refl) h) c.ones_value-in-MovingFrac.ensures.ones })

pub returns-in-MovingText : goal.returns-in-MovingText
returns-in-MovingText c = rw c.in-MovingText.is (record { ones = IfOk-weaker c.ones_value-in-MovingText.result _ _ (λ o h ty. ones_over ty (MovingText c.in-MovingText.moving) (or_nothing MovingInt o) _ (λ t. refl) h) c.ones_value-in-MovingText.ensures.ones })

pub returns-in-MovingPoint : goal.returns-in-MovingPoint
returns-in-MovingPoint c = rw c.in-MovingPoint.is (record { ones = IfOk-weaker c.ones_value-in-MovingPoint.result _ _ (λ o h ty. ones_over ty (MovingPoint c.in-MovingPoint.moving) (or_nothing MovingInt o) _ (λ t. refl) h) c.ones_value-in-MovingPoint.ensures.ones })
