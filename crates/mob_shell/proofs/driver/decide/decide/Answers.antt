use Rattle.std.proofs.Common.{rules, refl, inl, inr}
use Rattle.mob_load.proofs.Steps.{keeps_same}
use Rattle.mob_shell.{proofs.DemoRun.{demo_ends}, proofs.Settings.{few_ships}, proofs.Whole.{asks_none, early_ends, keeps_all, keeps_names}}
use Rattle.mob_outside.proofs.Known.{reads_none}
use Rattle.mob_shell.proofs.driver.decide.decide.Goals as goal

pub returns-in-Ok-None : goal.returns-in-Ok-None
returns-in-Ok-None g c =
    let refused = rw c.in-Ok-None.field-0-is at c.in-Ok-None.ensures.refused in
    record {
      ends = early_ends _ _ (record { read = reads_none _ _; asks = asks_none _ _; files = keeps_same _; read_later = search rules; filed_later = search rules; put_later = search rules })
          (λ settings says. refused refl settings says, keeps_all _, keeps_all _) (λ u. inl refl) (λ wants. absurd (refused refl wants.0 wants.1));
    }

pub returns-in-Err : goal.returns-in-Err
returns-in-Err g c = record {
  ends = early_ends _ _ (record { read = reads_none _ _; asks = asks_none _ _; files = keeps_same _; read_later = search rules; filed_later = search rules; put_later = search rules })
      (inl (keeps_all _)) (λ u. inr refl)
      (λ wants. (λ is. cc, record { script = keeps_all _; read = refl; files = keeps_same _; asked = keeps_names _; filed = refl }));
}

pub run_demo-requires : goal.run_demo-requires
run_demo-requires g c =
    let said = rw c.in-Ok-Some.field-0-is at c.in-Ok-Some.ensures.said in
    let ships = few_ships _ _ _ said.demo c.in-Some.is in search (rules, ships)

pub returns-in-None : goal.returns-in-None
returns-in-None g c =
    let said = rw c.in-Ok-Some.field-0-is at c.in-Ok-Some.ensures.said in
    record { ends = c.run_script.ensures.ends _ said c.in-None.is }

pub returns-in-Some : goal.returns-in-Some
returns-in-Some g c =
    let said = rw c.in-Ok-Some.field-0-is at c.in-Ok-Some.ensures.said in
    record {
      ends = demo_ends _ c.in-Ok-Some.settings said c.in-Some.ships c.in-Some.is
          (record { read = reads_none _ _; asks = asks_none _ _; files = keeps_same _; read_later = search rules; filed_later = search rules; put_later = c.run_demo.ensures.later })
          (record { script = keeps_all _; read = refl; files = keeps_same _; asked = keeps_names _; filed = refl }) c.run_demo.result c.run_demo.ensures.ends;
    }
