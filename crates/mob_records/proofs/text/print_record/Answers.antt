use Rattle.std.{proofs.Common.{◌≡◌, ◌∙◌, ◌++◌, ◌∷◌, [], ◌<◌, ◌+◌, ◌-◌, ◌^◌, get_or, length, subst, sym, ap, take, arith, rules}, proofs.lemmas.List.{take_all, take_more}}
use Rattle.std.proofs.lemmas.Result.{on_ok_weaker}
use Rattle.mob_records.{specs.Writers.{IsWithinRecord}, proofs.Within.{held, none_written}}
use Rattle.mob_records.proofs.text.print_record.Goals as goal

pub loop-number-init : goal.loop-number-init
loop-number-init g c = none_written c.args.writer.now c.requires.between

pub loop-number-preserved : goal.loop-number-preserved
loop-number-preserved g c =
    let fields = g.P.FieldPrinter.fields c.args.printer.now c.args.row.now in
    let at = c.loop-number in
    let there : at.number < length fields = omega (arith, c.loop-number-test.true, c.count-number-end.ensures.count) in
    let few : length (take at.number fields) < 2 ^ 64 - 1 = search rules in
    let text : c.as_str.result.now ≡ get_or fields at.number [] = search rules in
    let more : take (at.number + 1) fields ≡ take at.number fields ++ c.as_str.result.now ∷ [] = take_more fields at.number [] there ∙ ap (λ f. take at.number fields ++ f ∷ []) (sym text) in
    subst (λ fs. IsWithinRecord (held c.args.writer.now) fs c.write_field.new.writer) (sym more) (c.in_ok-write_field.ensures.within (held c.args.writer.now) (take at.number fields) few at.invariant)

pub returns-clause-text : goal.returns-clause-text
returns-clause-text g c =
    let fields = g.P.FieldPrinter.fields c.args.printer.now c.args.row.now in
    let at = c.loop-number in
    let all : take at.number fields ≡ fields = take_all at.number fields (omega (arith, c.loop-number-test.false, c.count-number-end.ensures.count)) in
    on_ok_weaker c.end_record.result (λ h. h (held c.args.writer.now) fields (subst (λ fs. IsWithinRecord (held c.args.writer.now) fs at.writer) all at.invariant)) c.end_record.ensures.text
