use Rattle.std.proofs.Common.{rules, inl}
use Rattle.mob_load.proofs.Steps.{keeps_same}
use Rattle.mob_shell.proofs.Whole.{asks_none, early_ends, keeps_all, no_demo, text_ends}
use Rattle.mob_shell.proofs.driver.decide.run_script.Goals as goal

pub returns-in-Err-Fault : goal.returns-in-Err-Fault
returns-in-Err-Fault g c = record {
  ends = λ words says none. early_ends _ _ (record { read = c.read_to.ensures.part; asks = asks_none _ _; files = keeps_same _; read_later = c.read_to.ensures.later; filed_later = search rules; put_later = search rules })
      (search rules, keeps_all _) (λ u. absurd (u _ says)) (λ wants. absurd (no_demo c.one_setting.ensures.setting words c.args.settings says none wants));
}

pub returns-in-Err-NoMemory : goal.returns-in-Err-NoMemory
returns-in-Err-NoMemory g c = record {
  ends = λ words says none. early_ends _ _ (record { read = c.read_to.ensures.part; asks = asks_none _ _; files = keeps_same _; read_later = c.read_to.ensures.later; filed_later = search rules; put_later = search rules })
      (inl (keeps_all _)) (λ u. absurd (u _ says)) (λ wants. absurd (no_demo c.one_setting.ensures.setting words c.args.settings says none wants));
}

pub returns : goal.returns
returns g c =
    let ends = rw c.deref.ensures.value at c.run_text.ensures.ends in
    record {
      ends = λ words says none. text_ends c.one_setting.ensures.setting _ c.args.settings says none c.in-Ok.bytes.items c.in-Ok.ensures.bytes
          (record { read = c.read_to.ensures.part; files = c.run_text.ensures.files; read_later = c.read_to.ensures.later; filed_later = c.run_text.ensures.filed_later; put_later = c.run_text.ensures.put_later }) c.run_text.result ends;
    }
