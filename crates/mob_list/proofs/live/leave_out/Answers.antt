use Rattle.std.{proofs.Common.{not, rules}, proofs.lemmas.Fn.{filter_same}}
use Rattle.mob_list.specs.Live.{is_among}
use Rattle.mob_list.proofs.live.leave_out.Goals as goal

pub returns : goal.returns
returns c = record { left = filter_same _ (λ n. not (is_among n c.args.gone.now)) _ (λ x b f called. search rules) c.args.live.now.items c.retain.new.self.items c.retain.ensures.filtered }
