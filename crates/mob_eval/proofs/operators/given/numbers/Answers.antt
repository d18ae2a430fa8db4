use Rattle.std.proofs.Common.{Some, sym, subst}
use Rattle.mob_list.specs.Faults.{OnCause}
use Rattle.mob_slice.specs.Entries.{IsFirst}
use Rattle.mob_arith.specs.Sql.Entries.{arithmetic_entries}
use Rattle.mob_meaning.{specs.Modes.{Numbers, given_for}, proofs.Named.{first_named, none_named}}
use Rattle.mob_eval.proofs.operators.given.numbers.Goals as goal

pub returns-in-Ok : goal.returns-in-Ok
returns-in-Ok c = let (gives, first) = c.in-Ok.ensures.outcome in record { outcome = (gives, none_named c.args.mode (arithmetic_entries c.args.by c.args.ty c.args.left.now c.args.right.now) first) }

pub returns-in-Err : goal.returns-in-Err
returns-in-Err c =
    let entries = arithmetic_entries c.args.by c.args.ty c.args.left.now c.args.right.now in
    record { outcome = subst (OnCause (λ f. IsFirst (given_for Numbers c.args.mode entries) (Some f))) (sym c.named.ensures.named) (first_named c.args.mode entries c.in-Err.fault c.in-Err.ensures.outcome) }
