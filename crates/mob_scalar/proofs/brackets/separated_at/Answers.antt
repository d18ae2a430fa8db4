use Rattle.std.proofs.Common.{suc, length, sym, arith, Ok}
use Rattle.mob_language.{specs.Readers.{separated_at}, proofs.Lists.{loop_more, loop_ends, loop_fails, loop_done}}
use Rattle.mob_scalar.specs.Brackets.{comma_at}
use Rattle.mob_scalar.proofs.brackets.separated_at.Goals as goal

pub returns-in_default : goal.returns-in_default
returns-in_default g c = record { read = λ reader exact. loop_fails reader comma_at c.loop.members.items (suc (length c.args.bytes.now)) c.loop.counter c.loop.rest.now (separated_at reader comma_at c.args.bytes.now) (omega arith) (sym (rw c.in_default.is at (exact c.loop.rest (Ok c.in_ok-member.field-0) c.in_ok-member.ensures))) (c.loop.invariant reader exact) }

pub returns-in-None : goal.returns-in-None
unfolding comma_at
returns-in-None g c = record {
  read = λ reader exact.
      rw c.in_ok-push.ensures.items (loop_ends reader comma_at c.loop.members.items (suc (length c.args.bytes.now)) c.loop.counter c.loop.rest.now c.in-Some.member c.in-Some.after.now (separated_at reader comma_at c.args.bytes.now) (omega arith) (sym (rw c.in-Some.is at (exact c.loop.rest (Ok c.in_ok-member.field-0) c.in_ok-member.ensures))) (sym c.in-None.ensures.read) (c.loop.invariant reader exact));
}

pub loop-preserved : goal.loop-preserved
unfolding comma_at
loop-preserved g c = λ reader exact.
    rw c.in_ok-push.ensures.items (loop_more reader comma_at c.loop.members.items (suc (length c.args.bytes.now)) c.loop.counter c.loop.rest.now c.in-Some.member c.in-Some.after.now c.in-Some-spaced_at.next.now tt (separated_at reader comma_at c.args.bytes.now) (omega arith) (sym (rw c.in-Some.is at (exact c.loop.rest (Ok c.in_ok-member.field-0) c.in_ok-member.ensures))) (sym c.in-Some-spaced_at.ensures.read) (c.loop.invariant reader exact))

pub returns : goal.returns
returns g c = record { read = λ reader exact. loop_done reader comma_at c.loop.members.items (suc (length c.args.bytes.now)) c.loop.counter c.loop.rest.now (separated_at reader comma_at c.args.bytes.now) (omega arith) (c.loop.invariant reader exact) }
