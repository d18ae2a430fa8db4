use Rattle.mob_slice.specs.Sides.{piece_of}
use Rattle.mob_compare.proofs.AtEach.{steady_given}
use Rattle.mob_compare.proofs.broadly.on_steps_wide.Goals as goal

pub returns : goal.returns
returns g c =
    let same = rw (c.start.ensures.limit, c.start-2.ensures.limit) at c.relates-value.ensures.value in
    record { given = steady_given g.met.C.Course.laws g.met.C.Compared.laws (λ v. v.items) c.single.result c.requires.steady c.args.rel (piece_of c.args.piece.now) _ c.lower.ensures.some same c.single.ensures.one }
