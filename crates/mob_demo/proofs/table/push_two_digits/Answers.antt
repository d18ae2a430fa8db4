use Rattle.std.{proofs.Common.{arith, string_bytes}, proofs.lemmas.Result.{on_ok_weaker}}
use Rattle.mob_demo.proofs.Digits.{behind_zero}
use Rattle.mob_demo.proofs.table.push_two_digits.Goals as goal

pub returns-then-n-lt10 : goal.returns-then-n-lt10
returns-then-n-lt10 c = record {
  digits = on_ok_weaker c.push_number.result
      (behind_zero c.args.n (string_bytes c.args.into.now) (string_bytes c.push_str.new.self) (string_bytes c.push_number.new.into) (omega (arith, c.if-n-lt10.true)) c.in_ok-push_str.ensures.bytes)
      c.push_number.ensures.digits;
}
