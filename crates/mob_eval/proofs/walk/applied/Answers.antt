use Rattle.std.{specs.Prelude.{Err}, proofs.Common.{map, sym, subst}}
use Rattle.mob_meaning.specs.Evaluation.{EvaluatesTo}
use Rattle.mob_value.specs.Held.{held}
use Rattle.mob_eval.{specs.Views.{scene_of}, proofs.Nodes.{node_below, node_run, node_value, node_here}}
use Rattle.mob_list.specs.Faults.{OnCause}
use Rattle.mob_eval.proofs.walk.applied.Goals as goal

pub returns-in-Err : goal.returns-in-Err
returns-in-Err g c = record { says = node_below (scene_of c.args.view.now) c.args.e.now _ (map held c.args.values.now) c.in-Err.fault (rw c.in-Err.is at c.requires.given) }

pub returns-in-Ok-result_with : goal.returns-in-Ok-result_with
returns-in-Ok-result_with g c =
    let s = scene_of c.args.view.now in
    let e = c.args.e.now in
    let xs = c.as_slice.result.now in
    let vs = map held c.args.values.now in
    let run = node_run s e xs c.as_slice.ensures.value vs c.in-Ok.field-0 (rw c.in-Ok.is at c.requires.given) in
    let (gives, first) = c.in-Ok-result_with.ensures.outcome in
    record { says = node_value s e xs c.as_slice.ensures.value vs (held c.in-Ok-result_with.value) run first gives }

pub returns-in-Err-result_with : goal.returns-in-Err-result_with
returns-in-Err-result_with g c =
    let s = scene_of c.args.view.now in
    let e = c.args.e.now in
    let xs = c.as_slice.result.now in
    let vs = map held c.args.values.now in
    let run = node_run s e xs c.as_slice.ensures.value vs c.in-Ok.field-0 (rw c.in-Ok.is at c.requires.given) in
    record { says = subst (OnCause (λ f. EvaluatesTo s e (Err f))) (sym c.fault_at.ensures.value) (node_here s e xs c.as_slice.ensures.value vs c.in-Err-result_with.fault run c.in-Err-result_with.ensures.outcome) }
