use Rattle.std.proofs.Common.{sym, ap, ◌∙◌, true≢false}
use Rattle.mob_tail.{specs.Aggregated.{leaves_out}, specs.Made.{made_in}, specs.States.{is_in_parts}, proofs.Aggregating.{at_kind}}
use Rattle.mob_tail.proofs.adding.aggregate_in.Goals as goal

pub returns-in-CountAll-clause-with : goal.returns-in-CountAll-clause-with
returns-in-CountAll-clause-with c = λ p h. at_kind c.args.agg.kind _ c.args.agg.ty c.args.before.now c.args.value.now (made_in c.one_more.result c.one_more.new.before) c.in-CountAll.is h (c.one_more.ensures.with c.args.agg.ty c.args.value.now)

pub returns-in-Count-clause-with : goal.returns-in-Count-clause-with
returns-in-Count-clause-with c = λ p h. at_kind c.args.agg.kind _ c.args.agg.ty c.args.before.now c.args.value.now (made_in c.one_more-in-Count.result c.one_more-in-Count.new.before) c.in-Count.is h (c.one_more-in-Count.ensures.known c.args.agg.ty c.args.value.now (sym (h ∙ ap (λ k. leaves_out k c.args.value.now) c.in-Count.is)))

pub returns-in-Sum-clause-with : goal.returns-in-Sum-clause-with
returns-in-Sum-clause-with c = λ p h. at_kind c.args.agg.kind _ c.args.agg.ty c.args.before.now c.args.value.now (made_in c.number_more.result c.number_more.new.before) c.in-Sum.is h (c.number_more.ensures.with c.args.agg.ty)

pub returns-in-TSum-clause-with : goal.returns-in-TSum-clause-with
returns-in-TSum-clause-with c = λ p h. at_kind c.args.agg.kind _ c.args.agg.ty c.args.before.now c.args.value.now (made_in c.sum_more.result c.sum_more.new.before) c.in-TSum.is h c.sum_more.ensures.with

pub returns-in-TCount-clause-with : goal.returns-in-TCount-clause-with
returns-in-TCount-clause-with c = λ p h. absurd (true≢false (sym (ap is_in_parts c.in-TCount.is) ∙ p))

pub returns-in-TAnd-clause-with : goal.returns-in-TAnd-clause-with
returns-in-TAnd-clause-with c = λ p h. absurd (true≢false (sym (ap is_in_parts c.in-TAnd.is) ∙ p))

pub returns-in-TOr-clause-with : goal.returns-in-TOr-clause-with
returns-in-TOr-clause-with c = λ p h. absurd (true≢false (sym (ap is_in_parts c.in-TOr.is) ∙ p))
