use Rattle.std.{proofs.Common.{◌∙◌}, proofs.lemmas.Result.{IfOk-weaker}}
use Rattle.mob_tagg.proofs.Three.{united_last, united_two}
use Rattle.mob_tagg.proofs.parts.+with_value.Goals as goal

pub returns-then-top-count : goal.returns-then-top-count
returns-then-top-count g t c = record { same = united_two g.U.Uniting.op g.met.U.Uniting.law g.C.Course.value_of c.args.parts.items c.pop.new.self.items c.push-then-top-count.new.self.items c.push-then-top-count-2.new.self.items c.in-Some.top _ c.in-Some.ensures.items c.in_ok-push-2.ensures.items c.in_ok-push-3.ensures.items }

pub returns : goal.returns
returns g t c = record {
  same = IfOk-weaker c.with_value.result _ _ (λ r h u. h u ∙ united_last g.U.Uniting.op g.met.U.Uniting.law g.C.Course.value_of c.args.parts.items c.pop.new.self.items c.in-Some.top c.args.value c.in_ok-both.both c.in-Some.ensures.items c.in_ok-both.ensures.united u) c.with_value.ensures.same;
}
