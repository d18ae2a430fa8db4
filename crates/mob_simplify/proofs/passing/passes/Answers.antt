use Rattle.std.{proofs.Common.{drop, ◌+◌, arith, sym, ◌∙◌}, proofs.lemmas.Result.{err_from_is_err_and}}
use Rattle.mob_list.proofs.Entries.{drop_read}
use Rattle.mob_simplify.proofs.InTurn.{passing_next, passing_fails}
use Rattle.mob_simplify.proofs.passing.passes.Goals as goal

pub returns-in_err-near-clause-first : goal.returns-in_err-near-clause-first
returns-in_err-near-clause-first c =
    let at = c.loop-b in
    let xs = c.args.between.now in
    let p = err_from_is_err_and c.from_residual.result c.from_residual.ensures.1 in
    rw (p.1, p.2)
    (passing_fails c.args.limit.now.distance c.args.p.now xs (drop at.b-index xs) c.args.n.now (drop (at.b-index + 1) xs) c.b-item.result c.in_err-near.field-0.0 (drop_read xs at.b-index c.b-item.result (omega arith) c.b-item.is) c.in_err-near.ensures.first at.invariant)

pub loop-b-preserved : goal.loop-b-preserved
loop-b-preserved c =
    let at = c.loop-b in
    let xs = c.args.between.now in
    passing_next c.args.limit.now.distance c.args.p.now xs (drop at.b-index xs) c.args.n.now (drop (at.b-index + 1) xs) c.b-item.result (drop_read xs at.b-index c.b-item.result (omega arith) c.b-item.is) (sym c.if-not-near.false ∙ c.in_ok-near.ensures.value) c.in_ok-near.ensures.first at.invariant
