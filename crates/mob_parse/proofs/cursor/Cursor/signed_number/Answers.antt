use Rattle.std.proofs.lemmas.Result.{err_from_is_err_and}
use Rattle.mob_parse.{proofs.Constants.{signed_read, signed_made}, proofs.Steps.{stops_through}}
use Rattle.mob_parse.proofs.cursor.Cursor.signed_number.Goals as goal

pub returns-in_err-text-in-Some : goal.returns-in_err-text-in-Some
returns-in_err-text-in-Some c =
    let p = err_from_is_err_and c.from_residual.result c.from_residual.ensures.1 in
    record { reads = rw (p.1, p.2) (stops_through _ _ _ _ _ (signed_read c.args.sign c.in-Some.place _ _ c.in-Some.ensures.passes) c.in_err-text-in-Some.ensures.reads) }

pub returns-in_ok-prefixed-in-Some : goal.returns-in_ok-prefixed-in-Some
returns-in_ok-prefixed-in-Some c = record {
  reads = signed_made c.args.sign c.in-Some.place _ _ _ _ _ _ c.in-Some.ensures.passes c.in_ok-text-in-Some.ensures.reads c.leaf-value.ensures.exact c.in_ok-prefixed-in-Some.ensures.exact;
}
