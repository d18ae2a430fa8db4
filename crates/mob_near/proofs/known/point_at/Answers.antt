use Rattle.std.{specs.Prelude.{◌≡◌, true, false, Ok, refl}, proofs.Common.{◌∙◌, sym}}
use Rattle.mob_ratio.specs.Order.{same}
use Rattle.mob_slice.{specs.PlaneLaws.{plane_laws}, proofs.Cuts.{at_low, at_high}}
use Rattle.mob_near.proofs.known.point_at.Goals as goal

pub returns-then-is_same : goal.returns-then-is_same
returns-then-is_same c =
    let s = c.args.slice.now in
    let h : same c.args.t.now s.span.lower ≡ true = rw (← c.lower.ensures.value) (sym c.is_same.ensures.value ∙ c.if-is_same.true) in
    record { value = at_low plane_laws s c.args.t.now (Ok s.course.from) h refl }

pub returns-then-is_same-2 : goal.returns-then-is_same-2
returns-then-is_same-2 c =
    let s = c.args.slice.now in
    let h : same c.args.t.now s.span.lower ≡ false = rw (← c.lower.ensures.value) (sym c.is_same.ensures.value ∙ c.if-is_same.false) in
    let k : same c.args.t.now s.span.upper ≡ true = rw (← c.upper.ensures.value) (sym c.is_same-2.ensures.value ∙ c.if-is_same-2.true) in
    record { value = at_high plane_laws s c.args.t.now (Ok s.course.to) c.requires.after h k refl }
