use Rattle.std.{specs.List.{AllZip}, proofs.Common.{sym, subst}}
use Rattle.mob_typed.specs.Selects.{select_seen}
use Rattle.mob_tail.{specs.GroupedAnswers.{columns_of, IsColumnValue}, proofs.GroupLoop.{values_made}}
use Rattle.mob_tail.proofs.grouping.row_of.Goals as goal

pub returns : goal.returns
returns c = record {
  row = λ tuples h.
      let select = select_seen c.args.select.now in
      let made = values_made select c.args.store.now c.args.terms.now tuples c.args.group h in
      c.row_with.ensures.row tuples h.first (subst (λ z. AllZip (IsColumnValue select c.args.store.now c.args.terms.now tuples) (columns_of select) z) (sym (c.in_ok-columns.ensures.values made.0 made.1)) made.2);
}
