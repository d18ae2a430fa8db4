use Rattle.std.proofs.Common.{Ok, false, sym, subst}
use Rattle.mob_operators.specs.declared.aggregate.AggKind.TheVariants.{Sum}
use Rattle.mob_tail.{specs.Aggregated.{IsAggregateWith}, specs.Made.{made_in}, proofs.Aggregating.{no_number_more, sum_first, sum_next}}
use Rattle.mob_tail.proofs.adding.number_more.Goals as goal

pub returns-in_default : goal.returns-in_default
returns-in_default c = record { with = λ ty. no_number_more ty c.args.before.now c.args.value.now (sym c.in_default.ensures.number) }

pub returns-in-None : goal.returns-in-None
returns-in-None c = record {
  with = λ ty. subst (λ z. IsAggregateWith false Sum ty c.args.before.now c.args.value.now (Ok z)) (sym c.put.ensures.put) (sum_first ty c.args.before.now c.args.value.now c.in-Some.number (sym c.in-Some.ensures.number) (sym c.in-None.ensures.number));
}

pub returns-in-Some-number_in : goal.returns-in-Some-number_in
returns-in-Some-number_in c = record { with = λ ty. sum_next ty c.args.before.now c.args.value.now c.in-Some.number (sym c.in-Some.ensures.number) c.in-Some-number_in.sum (made_in c.sum_in.result c.sum_in.new.before) (sym c.in-Some-number_in.ensures.number) c.sum_in.ensures.value c.sum_in.ensures.fits c.sum_in.ensures.fault }
