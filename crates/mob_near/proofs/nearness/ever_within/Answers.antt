use Rattle.std.{specs.List.{flat_map}, specs.Prelude.{cond, None, Ok, Err}, proofs.Common.{rules, ap, sym, ◌∙◌, subst}}
use Rattle.mob_slice.{specs.Entries.{IsDecided}, specs.Lines.{plane_value_of}, specs.Sides.{operand_of, pieces, given_at}, specs.declared.formula.Formula.TheVariants.{F6}}
use Rattle.mob_near.{specs.Entries.{entries_of_within, entries_of_reach}, proofs.Answering.{never_within, none_within, within_by_squares, square_up_to}, proofs.Judging.{within_fits, within_unfit}}
use Rattle.mob_near.proofs.nearness.ever_within.Goals as goal

pub returns-then-is_before-clause-value : goal.returns-then-is_before-clause-value
returns-then-is_before-clause-value c = never_within c.args.d.now (given_at plane_value_of (operand_of c.args.a)) (given_at plane_value_of (operand_of c.args.b)) c.share_time.result c.never.result c.share_time.ensures.common (search rules) c.never.ensures.value

pub ever_reaches-requires-clause-square : goal.ever_reaches-requires-clause-square
ever_reaches-requires-clause-square c = square_up_to c.args.d.now c.in-Ok.square c.in-Ok.ensures.exact.0

pub returns-in-Ok-clause-value : goal.returns-in-Ok-clause-value
returns-in-Ok-clause-value c = within_by_squares c.args.d.now (given_at plane_value_of (operand_of c.args.a)) (given_at plane_value_of (operand_of c.args.b)) c.in-Ok.square c.ever_reaches.result (search rules) c.in-Ok.ensures.exact.0 c.ever_reaches.ensures.value

pub returns-in-Ok-clause-first : goal.returns-in-Ok-clause-first
returns-in-Ok-clause-first c =
    let ps = pieces (operand_of c.args.a) (operand_of c.args.b) in
    within_fits c.args.d.now ps c.ever_reaches.result (search rules) (c.in-Ok.ensures.exact.1, tt) (subst (λ z. IsDecided (flat_map (entries_of_reach z) ps) c.ever_reaches.result) c.in-Ok.ensures.exact.0 c.ever_reaches.ensures.first)

pub returns-in-Err-clause-value : goal.returns-in-Err-clause-value
returns-in-Err-clause-value c = none_within c.args.d.now (given_at plane_value_of (operand_of c.args.a)) (given_at plane_value_of (operand_of c.args.b)) c.share_time-in-Err.result c.passed_where.result (F6) c.share_time-in-Err.ensures.common c.passed_where.ensures.value

pub returns-in-Err-clause-first : goal.returns-in-Err-clause-first
returns-in-Err-clause-first c =
    let ps = pieces (operand_of c.args.a) (operand_of c.args.b) in
    subst (IsDecided (entries_of_within c.args.d.now ps)) (sym (c.passed_where.ensures.value ∙ ap (λ b. cond b (Err (F6)) (Ok None)) c.share_time-in-Err.ensures.value)) (within_unfit c.args.d.now ps (search rules) (λ all. c.in-Err.ensures.exact all.0))
