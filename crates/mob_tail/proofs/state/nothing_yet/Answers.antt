use Rattle.std.proofs.Common.{refl, ap}
use Rattle.mob_operators.specs.declared.aggregate.AggKind.TheVariants.{CountAll, Count, Sum, TSum}
use Rattle.mob_value.specs.declared.value.Value.TheVariants.{Number, Null}
use Rattle.mob_tail.{proofs.Aggregating.{no_sum}, proofs.StateSteps.{start_whole, start_counts, start_all, start_any}}
use Rattle.mob_tail.proofs.state.nothing_yet.Goals as goal

pub returns-in-CountAll : goal.returns-in-CountAll
returns-in-CountAll c = rw c.in-CountAll.is (record { start = start_whole CountAll (Number c.zero.result) refl (λ ty. ap Number c.zero.ensures.value) })

pub returns-in-Count : goal.returns-in-Count
returns-in-Count c = rw c.in-Count.is (record { start = start_whole Count (Number c.zero-in-Count.result) refl (λ ty. ap Number c.zero-in-Count.ensures.value) })

pub returns-in-Sum : goal.returns-in-Sum
returns-in-Sum c = rw c.in-Sum.is (record { start = start_whole Sum Null refl (λ ty. refl) })

pub returns-in-TSum : goal.returns-in-TSum
returns-in-TSum c = rw c.in-TSum.is (record { start = start_whole TSum Null refl no_sum })

pub returns-in-TCount : goal.returns-in-TCount
returns-in-TCount c = rw c.in-TCount.is (record { start = start_counts c.new.result c.new.ensures.empty })

pub returns-in-TAnd : goal.returns-in-TAnd
returns-in-TAnd c = rw c.in-TAnd.is (record { start = start_all c.new-in-TAnd.result c.new-in-TAnd.ensures.empty })

pub returns-in-TOr : goal.returns-in-TOr
returns-in-TOr c = rw c.in-TOr.is (record { start = start_any c.new-in-TOr.result c.new-in-TOr.ensures.empty })
