use Rattle.std.proofs.Common.{◌≡◌, true, false, ap, sym, ◌∙◌}
use Rattle.mob_ratio.{specs.Order.{same}, proofs.Order.{same_exact}}
use Rattle.mob_slice.specs.Cut.{slice_value}
use Rattle.mob_cells.{proofs.OwnEnds.{start_value, end_value}, proofs.TurnCells.{copy_is}}
use Rattle.mob_cells.proofs.turned.held.Goals as goal

pub returns-then-is_same : goal.returns-then-is_same
returns-then-is_same g c =
    let s = c.args.slice.now in
    let k : same c.args.t.now s.span.lower ≡ true = rw (← c.lower.ensures.value) (sym c.is_same.ensures.value ∙ c.if-is_same.true) in
    record { value = copy_is g.C.Course.copy_allocates c.copy_base.result c.start.result.now (slice_value g.C.Course.value_of s c.args.t.now) c.copy_base.ensures.same (c.start.ensures.limit ∙ start_value g.met.C.Course.laws s ∙ ap (λ z. slice_value g.C.Course.value_of s z) (sym ((same_exact c.args.t.now s.span.lower).0 k))) }

pub returns-then-is_same-2 : goal.returns-then-is_same-2
returns-then-is_same-2 g c =
    let s = c.args.slice.now in
    let k : same c.args.t.now s.span.upper ≡ true = rw (← c.upper.ensures.value) (sym c.is_same-2.ensures.value ∙ c.if-is_same-2.true) in
    record { value = copy_is g.C.Course.copy_allocates c.copy_base-then-is_same-2.result c.end.result.now (slice_value g.C.Course.value_of s c.args.t.now) c.copy_base-then-is_same-2.ensures.same (c.end.ensures.limit ∙ end_value g.met.C.Course.laws s c.requires.sound ∙ ap (λ z. slice_value g.C.Course.value_of s z) (sym ((same_exact c.args.t.now s.span.upper).0 k))) }

pub returns : goal.returns
returns g c =
    let s = c.args.slice.now in
    let n : same c.args.t.now s.span.lower ≡ false = rw (← c.lower.ensures.value) (sym c.is_same.ensures.value ∙ c.if-is_same.false) in
    let m : same c.args.t.now s.span.upper ≡ false = rw (← c.upper.ensures.value) (sym c.is_same-2.ensures.value ∙ c.if-is_same-2.false) in
    record { value = copy_is g.C.Course.copy_allocates c.copy_base-2.result c.args.x.now (slice_value g.C.Course.value_of s c.args.t.now) c.copy_base-2.ensures.same (sym (c.requires.inside n m)) }
