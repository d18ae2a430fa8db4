use Rattle.std.proofs.Common.{refl}
use Rattle.mob_slice.{specs.Cut.{slice_parts}, proofs.Cuts.{high_after, high_until, second_fault, both_fit, at_of, can_cut, cut_is}}
use Rattle.mob_slice.proofs.slice.cutting.cut_from.Goals as goal

pub limit-requires-clause-after : goal.limit-requires-clause-after
limit-requires-clause-after g c = high_after c.args.slice.now.span c.args.span.now _ c.requires.holds.1 c.upper.ensures.some c.upper.ensures.value

pub limit-requires-clause-until : goal.limit-requires-clause-until
limit-requires-clause-until g c = high_until c.args.slice.now.span c.args.span.now _ c.requires.holds.1 c.upper.ensures.value

pub returns-in-Err : goal.returns-in-Err
returns-in-Err g c = record { slice = second_fault (slice_parts g.C.Course.parts_of c.args.slice.now) c.args.span.now g.C.Course.copy_allocates _ _ c.upper.ensures.value c.in-Err.ensures.value }

pub of-requires : goal.of-requires
of-requires g c =
    record {
      possible = can_cut g.met.C.Course.laws c.args.slice.now c.args.span.now c.args.from c.in-Ok.to c.requires.holds.1 c.upper.ensures.some c.requires.from
          (at_of g.C.Course.value_of c.args.slice.now _ _ c.in-Ok.to c.upper.ensures.value c.in-Ok.ensures.value.0);
    }

pub returns : goal.returns
returns g c =
    let part = cut_is g.met.C.Course.laws c.args.slice.now c.args.span.now c.args.from c.in-Ok.to c.requires.holds.1 c.upper.ensures.some c.requires.from
    (at_of g.C.Course.value_of c.args.slice.now _ _ c.in-Ok.to c.upper.ensures.value c.in-Ok.ensures.value.0) in
    record { slice = (rw c.of.ensures.limits part, both_fit (slice_parts g.C.Course.parts_of c.args.slice.now) c.args.span.now _ _ refl c.upper.ensures.value c.requires.fits c.in-Ok.ensures.value.1) }
