use Rattle.mob_list.proofs.Rising.{not_falling}
use Rattle.mob_list.proofs.live.leave.Goals as goal

pub leave_out-requires : goal.leave_out-requires
leave_out-requires c = record { rising = not_falling c.args.gone.now c.requires.rising }
