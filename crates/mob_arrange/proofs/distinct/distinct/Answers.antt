use Rattle.std.{proofs.Common.{◌≡◌, ◌<◌, List, map, drop, length, get_or, ap, subst, sym, ◌∙◌, arith}, proofs.lemmas.List.{get_or-map, length-map}}
use Rattle.mob_value.specs.declared.value.Value.{Value}
use Rattle.mob_literal.specs.Fields.{field_text}
use Rattle.mob_arrange.{specs.TextsSeen.{strings_of}, proofs.Seen.{Taken, seen_or_new, seen_step, seen_end}}
use Rattle.mob_arrange.proofs.distinct.distinct.Goals as goal

pub loop-row-preserved : goal.loop-row-preserved
loop-row-preserved c =
    let at = c.loop-row in
    let print = λ (row : List Value). map (field_text c.args.epoch.now) (drop c.args.keys row) in
    let fields = map print c.args.rows.now in
    let row = c.in_ok-fields.fields in
    let next = c.insert.new.self.keys in
    let choice = seen_or_new row at.seen.keys next c.in_ok-_is_new._is_new c.in_ok-_is_new.ensures.added c.in_ok-_is_new.ensures.keys in
    let text : strings_of row ≡ print c.row-item.result = c.in_ok-fields.ensures.fields in
    let there : at.row-index < length fields = omega (arith, length-map c.args.rows.now print, c.loop-row-test.true) in
    let is : print c.row-item.result ≡ get_or fields at.row-index (print c.row-item.result) = ap print c.row-item.is ∙ sym (get_or-map print c.args.rows.now at.row-index c.row-item.result (print c.row-item.result) c.loop-row-test.true) in
    seen_step fields at.row-index (print c.row-item.result) (map strings_of at.seen.keys) (map strings_of next) c.in_ok-_is_new._is_new there is
    at.invariant (subst (λ x. Taken (map strings_of at.seen.keys) x c.in_ok-_is_new._is_new (map strings_of next)) text choice)

pub returns : goal.returns
returns c =
    let print = λ (row : List Value). map (field_text c.args.epoch.now) (drop c.args.keys row) in
    record { first = seen_end (map print c.args.rows.now) c.loop-row.row-index _ (omega (arith, length-map c.args.rows.now print)) c.loop-row.invariant }
