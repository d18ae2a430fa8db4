use Rattle.std.proofs.Common.{ap, sym, subst, ◌∙◌}
use Rattle.mob_slice.{specs.Cut.{slice_value}, proofs.Cuts.{cut_is}}
use Rattle.mob_cells.specs.Turnings.{IsHeldInside}
use Rattle.mob_cells.proofs.turned.part_on.Goals as goal

pub held-requires-clause-inside : goal.held-requires-clause-inside
held-requires-clause-inside g c = subst (IsHeldInside g.C.Course.value_of c.args.slice.now c.args.x.now) (sym c.lower.ensures.value) c.requires.lower

pub held-requires-2-clause-inside : goal.held-requires-2-clause-inside
held-requires-2-clause-inside g c = subst (IsHeldInside g.C.Course.value_of c.args.slice.now c.args.x.now) (sym c.upper.ensures.value) c.requires.upper

pub of-requires : goal.of-requires
of-requires g c = record { possible = g.met.C.Course.laws.any_ends c.requires.moves c.in_ok-from.from c.in_ok-to.to }

pub returns : goal.returns
returns g c =
    let s = c.args.slice.now in
    let from = c.in_ok-from.ensures.value ∙ ap (λ z. slice_value g.C.Course.value_of s z) c.lower.ensures.value in
    let to = c.in_ok-to.ensures.value ∙ ap (λ z. slice_value g.C.Course.value_of s z) c.upper.ensures.value in
    record { part = rw c.of.ensures.limits (cut_is g.met.C.Course.laws s c.args.cell.now c.in_ok-from.from c.in_ok-to.to c.requires.within c.lower.ensures.some from to) }
