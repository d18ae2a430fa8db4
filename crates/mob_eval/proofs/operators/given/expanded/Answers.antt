use Rattle.std.proofs.Common.{Some, sym, subst}
use Rattle.mob_list.specs.Faults.{OnCause}
use Rattle.mob_slice.specs.Entries.{IsFirst}
use Rattle.mob_clip.specs.Sql.Entries.{OnExpansion}
use Rattle.mob_meaning.{specs.Modes.{Expansions, given_for}, proofs.Named.{fault_outward, none_outward}}
use Rattle.mob_eval.proofs.operators.given.expanded.Goals as goal

pub returns-in-Ok : goal.returns-in-Ok
returns-in-Ok c = let (gives, first) = c.in-Ok.ensures.outcome in record { outcome = (gives, none_outward c.args.mode c.args.value.now c.args.distance.now first) }

pub returns-in-Err : goal.returns-in-Err
returns-in-Err c =
    record { outcome = subst (OnCause (λ f. OnExpansion c.args.value.now c.args.distance.now (λ entries. IsFirst (given_for Expansions c.args.mode entries) (Some f)))) (sym c.named.ensures.named) (fault_outward c.args.mode c.args.value.now c.args.distance.now c.in-Err.fault c.in-Err.ensures.outcome) }
