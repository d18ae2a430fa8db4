use Rattle.mob_tail.{specs.Aggregated.{leaves_out}, specs.Made.{made_in}, specs.declared.state.State.TheVariants.{Counts}, proofs.StateSteps.{left_out_state, whole_in, counts_at, all_step, any_step}}
use Rattle.mob_tail.proofs.state.state_in.Goals as goal

pub returns-then-leaves_out : goal.returns-then-leaves_out
returns-then-leaves_out c = record { with = left_out_state c.args.agg.kind c.args.agg.ty c.args.state.now c.args.value.now c.if-leaves_out.ensures.same }

pub returns-in-Whole : goal.returns-in-Whole
returns-in-Whole c = rw c.in-Whole.is (record { with = whole_in (leaves_out c.args.agg.kind c.args.value.now) c.args.agg.kind c.args.agg.ty c.in-Whole.before c.aggregate_in.new.before c.args.value.now c.aggregate_in.result (λ p. c.aggregate_in.ensures.with p c.if-leaves_out.ensures.same) })

pub returns-in-Counts : goal.returns-in-Counts
returns-in-Counts c = rw c.in-Counts.is (record { with = counts_at c.args.agg.kind c.args.agg.ty c.in-Counts.parts c.args.value.now (made_in c.counts_in.result (Counts c.counts_in.new.parts)) c.if-leaves_out.ensures.same (c.counts_in.ensures.with c.args.agg.ty) })

pub returns-in-All : goal.returns-in-All
returns-in-All c = rw c.in-All.is (record { with = all_step c.args.agg.kind c.args.agg.ty c.in-All.parts c.truths_in.new.parts c.args.value.now c.truths_in.result c.if-leaves_out.ensures.same c.truths_in.ensures.more c.truths_in.ensures.memory })

pub returns-in-Any : goal.returns-in-Any
returns-in-Any c = rw c.in-Any.is (record { with = any_step c.args.agg.kind c.args.agg.ty c.in-Any.parts c.truths_in-in-Any.new.parts c.args.value.now c.truths_in-in-Any.result c.if-leaves_out.ensures.same c.truths_in-in-Any.ensures.more c.truths_in-in-Any.ensures.memory })
