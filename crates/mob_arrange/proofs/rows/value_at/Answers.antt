use Rattle.std.{proofs.Common.{◌∙◌, ◌<◌, length, map, ap, sym, arith}, proofs.lemmas.List.{get_or-map, length-map}}
use Rattle.mob_arrange.{specs.RowValues.{row_value}, proofs.Places.{first_dropped}}
use Rattle.mob_arrange.proofs.rows.value_at.Goals as goal

pub returns-then-place-values : goal.returns-then-place-values
returns-then-place-values c =
    let values = c.args.values.now in
    let value = c.index-values-place.result in
    let among : c.args.place < length (map row_value values) = omega (arith, c.if-place-values.true, length-map values row_value) in
    record {
      value = c.get.ensures.value ∙ ap row_value c.index-values-place.is
          ∙ sym (get_or-map row_value values c.args.place value (row_value value) c.if-place-values.true)
          ∙ sym (first_dropped (map row_value values) c.args.place (row_value value) among);
    }
