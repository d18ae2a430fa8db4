use Rattle.std.{proofs.Common.{◌≡◌, ◌∙◌, ◌++◌, ◌∷◌, [], ◌<◌, ◌+◌, ◌-◌, ◌^◌, length, subst, sym, ap, take, arith, rules}, proofs.lemmas.List.{take_all, take_more}, proofs.lemmas.Result.{on_ok_weaker}}
use Rattle.mob_records.{specs.Writers.{IsWithinRecord}, proofs.Within.{held, none_written}}
use Rattle.mob_records.proofs.text.write_record.Goals as goal

pub loop-field-init : goal.loop-field-init
loop-field-init c = none_written c.args.writer.now c.requires.between

pub loop-field-preserved : goal.loop-field-preserved
loop-field-preserved c =
    let fields = c.args.fields.now in
    let at = c.loop-field in
    let few : length (take at.field-index fields) < 2 ^ 64 - 1 = search rules in
    let text = c.as_str.ensures.same ∙ c.field-item.is in
    let more : take (at.field-index + 1) fields ≡ take at.field-index fields ++ c.as_str.result.now ∷ [] = take_more fields at.field-index c.field-item.result c.loop-field-test.true ∙ ap (λ f. take at.field-index fields ++ f ∷ []) (sym text) in
    subst (λ fs. IsWithinRecord (held c.args.writer.now) fs c.write_field.new.writer) (sym more) (c.in_ok-write_field.ensures.within (held c.args.writer.now) (take at.field-index fields) few at.invariant)

pub returns-clause-text : goal.returns-clause-text
returns-clause-text c =
    let fields = c.args.fields.now in
    let at = c.loop-field in
    let all : take at.field-index fields ≡ fields = take_all at.field-index fields (omega (arith, c.loop-field-test.false)) in
    on_ok_weaker c.end_record.result (λ h. h (held c.args.writer.now) fields (subst (λ fs. IsWithinRecord (held c.args.writer.now) fs at.writer) all at.invariant)) c.end_record.ensures.text
