use Rattle.std.proofs.Common.{◌∙◌, ◌∷◌, ◌++◌, [], ap}
use Rattle.mob_clauses.proofs.Pushed.{list_more}
use Rattle.mob_typing.proofs.tables.listed.Goals as goal

pub loop-index-preserved : goal.loop-index-preserved
loop-index-preserved c =
    c.loop-index.invariant ∙ list_more c.args.columns.now c.loop-index.index (c.at-ty.result.0.now, c.at-ty.result.1) c.loop-index.list c.push.new.self c.at-ty.ensures.stored
    (c.in_ok-push.ensures.pushed ∙ ap (λ t. c.loop-index.list ++ (t, c.at-ty.result.1) ∷ []) c.in_ok-from_str.ensures.same)
