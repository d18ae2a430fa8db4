use Rattle.mob_catalog.proofs.FirstRows.{live_set}
use Rattle.mob_catalog.proofs.first_rows.set_live.Goals as goal

pub returns : goal.returns
returns c = record { put = live_set c.args.heads.now.items c.args.table c.args.live c.index_mut.result.now c.requires.there c.index_mut.ensures.value c.requires.none }
