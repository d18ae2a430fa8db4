use Rattle.std.{proofs.Common.{◌∙◌, ap, sym}, proofs.lemmas.Result.{IfOk-weaker}}
use Rattle.mob_tagg.{specs.United.{united_by}, specs.Gathered.{united_all, gathered_parts, whole_at}, proofs.Three.{united_last, united_first}}
use Rattle.mob_tagg.proofs.parts.+gathered.Goals as goal

pub returns-in-None : goal.returns-in-None
returns-in-None g t c = record {
  same = IfOk-weaker c.gathered.result _ _ (λ r h u. h u ∙ united_first g.U.Uniting.op g.met.U.Uniting.law g.C.Course.value_of c.args.parts.items c.pop.new.self.items c.in-Some.top c.args.last c.in-Some.ensures.items c.in-None.is u) c.gathered.ensures.same;
}

pub returns-in_ok-both-in-Some-last : goal.returns-in_ok-both-in-Some-last
returns-in_ok-both-in-Some-last g t c = record {
  same = IfOk-weaker c.gathered-in-Some-last.result _ _
      (λ r h u. h u ∙ united_last g.U.Uniting.op g.met.U.Uniting.law g.C.Course.value_of c.args.parts.items c.pop.new.self.items c.in-Some.top c.in-Some-last.value c.in_ok-both-in-Some-last.both c.in-Some.ensures.items c.in_ok-both-in-Some-last.ensures.united u
      ∙ ap (λ z. united_by g.U.Uniting.op (united_all g.U.Uniting.op (gathered_parts g.C.Course.value_of c.args.parts.items u)) (whole_at g.C.Course.value_of z u)) (sym c.in-Some-last.is))
      c.gathered-in-Some-last.ensures.same;
}
