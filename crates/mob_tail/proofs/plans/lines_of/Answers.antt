use Rattle.std.{specs.Prelude.{is_some}, proofs.Common.{◌∙◌, ◌+◌, ◌++◌, ◌∷◌, [], ap, length, map, option_map, refl}, proofs.lemmas.List.{drop_all}, proofs.lemmas.Option.{slice_get_read}}
use Rattle.mob_typed.{specs.Trees.{typed_of}, specs.Selects.{on_of}}
use Rattle.mob_plan.specs.Plans.{step_seen}
use Rattle.mob_tail.{specs.PlanAnswers.{plan_line}, proofs.PlanRows.{next_made, rows_behind, steps_end}}
use Rattle.mob_tail.proofs.plans.lines_of.Goals as goal

pub loop-place-preserved : goal.loop-place-preserved
loop-place-preserved c =
    let joins = map (option_map typed_of) c.args.joins.now in
    let catalogue = c.args.catalog.now in
    let place = c.loop-place.place in
    let step = c.index-steps-place.result in
    let left = is_some (on_of joins place) in
    let there = slice_get_read c.args.names.now (length c.args.names.now) place c.in-Some.name.now refl c.in-Some.ensures.lookup.3.0 c.in-Some.ensures.lookup.1 in
    let says =
    c.in_ok-line.ensures.says ∙ ap (λ b. plan_line catalogue b (step_seen step) c.as_str.result.now) c.is_left.ensures.left ∙ ap (λ n. plan_line catalogue left (step_seen step) n) c.as_str.ensures.same in
    ap (λ rows. rows ++ rows_behind catalogue joins c.args.steps.now c.args.names.now (place + 1)) (c.in_ok-push.ensures.pushed ∙ ap (λ field. c.loop-place.rows ++ field ∷ []) c.in_ok-one_field.ensures.one)
    ∙ next_made catalogue joins c.args.steps.now c.args.names.now place step c.in-Some.name.now c.in_ok-line.line c.loop-place.rows c.loop-place-test.true c.index-steps-place.is there says c.loop-place.invariant

pub returns : goal.returns
returns c =
    let joins = map (option_map typed_of) c.args.joins.now in
    record { rows = steps_end c.args.catalog.now joins c.args.steps.now c.args.names.now c.loop-place.place c.loop-place.rows (drop_all c.loop-place.place c.args.steps.now c.loop-place-test.false) c.loop-place.invariant }
