use Rattle.mob_load.proofs.OneLoading.{one_loading, one_program}
use Rattle.mob_load.proofs.laws.one_loading.Goals as goal

pub returns : goal.returns
returns c =
    let table = c.one_table.ensures in
    record { loading = one_loading table.rows table.faults table.apart; program = one_program table.rows table.faults table.apart }
