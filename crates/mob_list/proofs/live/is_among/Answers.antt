use Rattle.std.proofs.Common.{◌∙◌}
use Rattle.mob_list.proofs.Among.{found_among}
use Rattle.mob_list.proofs.live.is_among.Goals as goal

pub returns : goal.returns
returns c = record { among = c.is_ok.ensures.value ∙ found_among c.args.numbers.now c.args.number c.binary_search.result c.binary_search.ensures.position c.requires.rising }
