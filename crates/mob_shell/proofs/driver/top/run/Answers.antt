use Rattle.mob_shell.{proofs.Due.{AreEndingLaws}, proofs.Statuses.{is_run}}
use Rattle.mob_shell.proofs.driver.top.run.Goals as goal

pub returns : goal.returns
returns g c =
    let law : AreEndingLaws = record {
      setting = c.one_setting.ensures.setting;
      program = c.one_program.ensures.program;
      apart = c.one_program.ensures.apart;
      refused = c.one_script.ensures.apart;
      ending = c.one_ending.ensures.ending;
      passes = c.faults_pass.ensures.passes;
    } in
    record { promises = rw c.status.ensures.number (is_run law c.decide-ending.result _ _ c.decide-ending.ensures.ends c.tell.ensures.puts) }
