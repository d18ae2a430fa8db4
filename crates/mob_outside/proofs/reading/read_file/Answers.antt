use Rattle.std.proofs.Common.{◌∙◌, rules, inr, sym}
use Rattle.mob_outside.specs.Told.{Opens}
use Rattle.mob_outside.proofs.Fronts.{file_front, file_left, where_failed}
use Rattle.mob_outside.proofs.reading.read_file.Goals as goal

pub returns-in-Ok-clause-bytes : goal.returns-in-Ok-clause-bytes
returns-in-Ok-clause-bytes g c =
    let opens : Opens c.args.name.now (g.F.Files.files c.args.files.now) (g.F.Files.left c.open.new.self) = search rules in
    file_front c.args.limit c.args.name.now (g.F.Files.files c.args.files.now) (g.F.Files.left c.open.new.self) (g.F.Files.left c.read_opened.new.files) c.in-Ok.bytes.items opens c.in-Ok.ensures.bytes

pub returns-in-Ok-clause-part : goal.returns-in-Ok-clause-part
returns-in-Ok-clause-part g c =
    let opens : Opens c.args.name.now (g.F.Files.files c.args.files.now) (g.F.Files.left c.open.new.self) = search rules in
    inr (file_left c.args.limit c.args.name.now (g.F.Files.files c.args.files.now) (g.F.Files.left c.open.new.self) (g.F.Files.left c.read_opened.new.files) opens c.read_opened.ensures.part)

pub returns-then-is_err-clause-may_ask : goal.returns-then-is_err-clause-may_ask
returns-then-is_err-clause-may_ask g c = where_failed c.open.result (sym c.is_err.ensures.value ∙ c.if-is_err.true) c.open.ensures.refused
