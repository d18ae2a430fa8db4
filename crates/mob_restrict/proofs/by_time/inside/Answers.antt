use Rattle.std.{specs.List.{flat_map}, proofs.Common.{subst, IfOk, true}}
use Rattle.mob_span.{specs.Meets.{shared_pieces}, specs.Sets.{in_some}, proofs.Leaving.{set_clear}}
use Rattle.mob_slice.specs.Entries.{IsJudged}
use Rattle.mob_cells.specs.Restricted.{AreRestricted}
use Rattle.mob_restrict.specs.Cuts.{entry_of_cut}
use Rattle.mob_restrict.proofs.by_time.inside.Goals as goal

pub within-requires : goal.within-requires
within-requires g c = record { order = rw c.spans.ensures.same (set_clear c.args.when.now c.spans.ensures.normal) }

pub returns-clause-slices : goal.returns-clause-slices
returns-clause-slices g c = subst (λ z. IfOk c.within.result (λ all. AreRestricted g.C.Course.value_of g.C.Course.start_of g.C.Course.end_of true (λ t x. in_some z t) c.args.a.now all.items)) c.spans.ensures.same c.within.ensures.slices

pub returns-clause-first : goal.returns-clause-first
returns-clause-first g c = subst (λ z. IsJudged (flat_map (entry_of_cut g.C.Course.parts_of) (shared_pieces (λ s. s.span) (λ r. r) c.args.a.now z)) c.within.result) c.spans.ensures.same c.within.ensures.first
