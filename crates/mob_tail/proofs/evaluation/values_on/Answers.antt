use Rattle.std.{specs.Borrow.{Bor}, proofs.Common.{rules, ◌≡◌, ◌++◌, ◌∷◌, [], map, ap, ◌∙◌, arith}, proofs.lemmas.List.{map-append}}
use Rattle.mob_typed.specs.declared.typed.TExpr.{TExpr}
use Rattle.mob_meaning.specs.Evaluation.{TreeEvaluatesTo}
use Rattle.mob_eval.{specs.Views.{scene_of}, specs.Remembered.{Fits, root_seen}}
use Rattle.mob_arrange.specs.RowValues.{row_value}
use Rattle.mob_tail.{proofs.Fitting.{each_at}, proofs.Making.{each_next, each_fault, each_all, made_seen, fault_seen}}
use Rattle.mob_list.proofs.Faults.{cause_weaker}
use Rattle.mob_tail.proofs.evaluation.values_on.Goals as goal

pub value_of-requires : goal.value_of-requires
value_of-requires g c = record { fits = each_at (Fits g.K.Remembering.recollection (scene_of c.args.view.now)) root_seen c.args.roots.now c.loop-root.root-index c.root-item.result c.loop-root-test.true c.root-item.is c.requires.fit }

pub loop-root-preserved : goal.loop-root-preserved
loop-root-preserved g c =
    let at = c.loop-root in
    let R = λ (e : Bor TExpr). TreeEvaluatesTo (scene_of c.args.view.now) (root_seen e) in
    let value = c.in-Ok-value_of.value in
    let pushed : c.push.new.self.items ≡ at.made.items ++ value ∷ [] = search rules in
    each_next R c.args.roots.now at.root-index c.root-item.result c.loop-root-test.true c.root-item.is (map row_value at.made.items) at.invariant (row_value value) (map row_value c.push.new.self.items) c.in-Ok-value_of.ensures.value
    (ap (map row_value) pushed ∙ map-append row_value at.made.items (value ∷ []))

pub returns-in-Err-clause-fault : goal.returns-in-Err-clause-fault
returns-in-Err-clause-fault g c =
    let at = c.loop-root in
    let s = scene_of c.args.view.now in
    let R = λ (e : Bor TExpr). TreeEvaluatesTo s (root_seen e) in
    let roots = c.args.roots.now in
    cause_weaker _ _ (λ f h. fault_seen (TreeEvaluatesTo s) root_seen roots f (each_fault R roots at.root-index c.root-item.result c.loop-root-test.true c.root-item.is (map row_value at.made.items) at.invariant f h)) c.in-Err.fault c.in-Err.ensures.fault

pub returns-clause-values : goal.returns-clause-values
returns-clause-values g c =
    let at = c.loop-root in
    let s = scene_of c.args.view.now in
    let R = λ (e : Bor TExpr). TreeEvaluatesTo s (root_seen e) in
    let roots = c.args.roots.now in
    rw c.from_vec.ensures.same (made_seen (TreeEvaluatesTo s) root_seen roots (map row_value at.made.items) (each_all R roots at.root-index (map row_value at.made.items) (omega arith) at.invariant))
