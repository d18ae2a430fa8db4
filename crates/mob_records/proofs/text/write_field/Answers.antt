use Rattle.mob_records.{proofs.Within.{one_more}, proofs.text.write_field.Goals.{in-Ok, in-Err}}
use Rattle.mob_records.proofs.text.write_field.Goals as goal

pub returns : goal.returns
returns c = record {
  within = elim c.match-write_field.branch [
    | in-Ok w ↦
        let e = w.in-Ok.ensures in
        rw w.result-is (λ before fields few so_far. one_more before fields _ _ so_far c.args.field.now few (rw c.as_bytes.ensures.value at e.text) e.same e.count (rw c.as_bytes.ensures.value at e.wrote) e.stays)
    | in-Err w ↦ rw w.result-is tt
  ];
}
