use Rattle.std.{specs.Prelude.{string_bytes}, proofs.Common.{◌∙◌, ◌++◌, ap}, proofs.lemmas.Result.{on_ok_weaker}}
use Rattle.mob_literal.specs.Fields.{field_text}
use Rattle.mob_arrange.proofs.Places.{field_dropped}
use Rattle.mob_arrange.proofs.fields.FieldsFieldPrinterRow.append.Goals as goal

pub returns : goal.returns
returns c =
    let print = field_text c.args.self.now.epoch.now in
    let text = ap print c.get.ensures.value ∙ field_dropped print c.args.self.now.keys c.args.number c.args.row.now c.requires.there in
    record { appended = on_ok_weaker c.write_found.result (λ written. written ∙ ap (λ t. string_bytes c.args.into.now ++ t) text) c.write_found.ensures.written }
