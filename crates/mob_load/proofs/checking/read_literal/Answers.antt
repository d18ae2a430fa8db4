use Rattle.std.proofs.Common.{List, ap}
use Rattle.mob_value.specs.declared.value.Value.{Value}
use Rattle.mob_load.{specs.Loads.{Loaded, loaded_of}, proofs.Literals.{literal_refused}}
use Rattle.mob_load.proofs.checking.read_literal.Goals as goal

pub returns-in_ok-push-in-Ok-clause-read : goal.returns-in_ok-push-in-Ok-clause-read
returns-in_ok-push-in-Ok-clause-read c =
    (c.in-Ok.value, c.in-Ok.ensures.value, ap (λ (values : List Value). let l : Loaded = record (loaded_of c.args.loading.now) { values = values } in l) c.in_ok-push-in-Ok.ensures.pushed)

pub returns-in-Err-clause-read : goal.returns-in-Err-clause-read
returns-in-Err-clause-read c =
    literal_refused c.args.epoch.now c.args.literal.now (loaded_of c.args.loading.now) (loaded_of c.args.loading.now) c.in-Err.refusal c.end_of.result c.in-Err.ensures.refused
    c.end_of.ensures.memory c.end_of.ensures.refused
