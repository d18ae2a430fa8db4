use Rattle.std.{proofs.Common.{rules, arith, ◌≡◌, sym, subst, true, false, ◌<◌, length, slice_index_or}, proofs.lemmas.Grind.{common_steps}}
use Rattle.mob_span.specs.Span.{has}
use Rattle.mob_slice.{specs.Slices.{IsRisingInTime}, proofs.Bisection.{at_end, at_next}, proofs.LookUps.{where_found, where_missing}, proofs.Orders.{ordered}}
use Rattle.mob_slice.proofs.moving.Moving.slice_at.Goals as goal

pub past_count-past-requires : goal.past_count-past-requires
past_count-past-requires g c = record { ordered = subst (λ v. IsRisingInTime g.C.Course.start_of g.C.Course.end_of v) (sym c.slices-slices.ensures.same) (ordered g.C.Course.start_of g.C.Course.end_of _ c.args.self.now c.slices-slices.ensures.normal.chained) }

pub returns-then-past-slices-clause-slice : goal.returns-then-past-slices-clause-slice
returns-then-past-slices-clause-slice g c =
    let w = c.slices-slices.result.now in
    let k = c.past_count-past.result in
    let f : k ≡ length w = first_of (search rules, grind (arith, common_steps)) in
    at_end g.C.Course.start_of g.C.Course.end_of c.args.t.now c.args.self.now w k c.slices-slices.ensures.same f c.past_count-past.ensures.count

pub returns-then-past-slices-clause-undefined : goal.returns-then-past-slices-clause-undefined
returns-then-past-slices-clause-undefined g c =
    let w = c.slices-slices.result.now in
    let k = c.past_count-past.result in
    let f : k ≡ length w = first_of (search rules, grind (arith, common_steps)) in
    where_missing g.C.Course.value_of c.args.t.now c.args.self.now (at_end g.C.Course.start_of g.C.Course.end_of c.args.t.now c.args.self.now w k c.slices-slices.ensures.same f c.past_count-past.ensures.count)

pub returns-then-has-clause-slice : goal.returns-then-has-clause-slice
returns-then-has-clause-slice g c =
    let w = c.slices-slices.result.now in
    let k = c.past_count-past.result in
    let s = c.index-slices-past.result in
    let o = subst (λ v. IsRisingInTime g.C.Course.start_of g.C.Course.end_of v) (sym c.slices-slices.ensures.same) (ordered g.C.Course.start_of g.C.Course.end_of _ c.args.self.now c.slices-slices.ensures.normal.chained) in
    let l : k < length w = first_of (search rules, grind (arith, common_steps)) in
    let i : slice_index_or w k s ≡ s = search rules in
    let h : has s.span c.args.t.now ≡ true = search rules in
    at_next g.C.Course.start_of g.C.Course.end_of c.args.t.now c.args.self.now w k s true c.slices-slices.ensures.same o l c.past_count-past.ensures.count i h

pub returns-then-has-clause-undefined : goal.returns-then-has-clause-undefined
returns-then-has-clause-undefined g c = where_found g.C.Course.value_of c.args.t.now c.args.self.now c.index-slices-past.result (returns-then-has-clause-slice g c)

pub returns-clause-slice : goal.returns-clause-slice
returns-clause-slice g c =
    let w = c.slices-slices.result.now in
    let k = c.past_count-past.result in
    let s = c.index-slices-past.result in
    let o = subst (λ v. IsRisingInTime g.C.Course.start_of g.C.Course.end_of v) (sym c.slices-slices.ensures.same) (ordered g.C.Course.start_of g.C.Course.end_of _ c.args.self.now c.slices-slices.ensures.normal.chained) in
    let l : k < length w = first_of (search rules, grind (arith, common_steps)) in
    let i : slice_index_or w k s ≡ s = search rules in
    let h : has s.span c.args.t.now ≡ false = search rules in
    at_next g.C.Course.start_of g.C.Course.end_of c.args.t.now c.args.self.now w k s false c.slices-slices.ensures.same o l c.past_count-past.ensures.count i h

pub returns-clause-undefined : goal.returns-clause-undefined
returns-clause-undefined g c = where_missing g.C.Course.value_of c.args.t.now c.args.self.now (returns-clause-slice g c)
