use Rattle.mob_ast.specs.Trees.{script_of}
use Rattle.mob_accept.proofs.Causes.{IsRead, accepted_typed, none_else, wrong_typed}
use Rattle.mob_accept.proofs.text.accept.Goals as goal

pub returns-clause-accepted : goal.returns-clause-accepted
returns-clause-accepted c =
    let read : IsRead c.args.bytes.now (script_of c.in_ok-script.script) = record { read = c.in_ok-script.ensures.read; only = c.in_ok-script.ensures.only } in
    accepted_typed c.args.bytes.now (script_of c.in_ok-script.script) read c.type_script.result c.type_script.ensures.typed

pub returns-clause-only : goal.returns-clause-only
returns-clause-only c =
    let read : IsRead c.args.bytes.now (script_of c.in_ok-script.script) = record { read = c.in_ok-script.ensures.read; only = c.in_ok-script.ensures.only } in
    none_else c.args.bytes.now (script_of c.in_ok-script.script) read c.type_script.result c.type_script.ensures.typed

pub returns-clause-refused : goal.returns-clause-refused
returns-clause-refused c =
    let read : IsRead c.args.bytes.now (script_of c.in_ok-script.script) = record { read = c.in_ok-script.ensures.read; only = c.in_ok-script.ensures.only } in
    wrong_typed c.args.bytes.now (script_of c.in_ok-script.script) read c.type_script.result c.type_script.ensures.first_refusal
