use Rattle.std.proofs.Common.{sym, ◌∙◌, arith}
use Rattle.mob_list.proofs.Entries.{drop_read}
use Rattle.mob_eval.proofs.Choosing.{names_begin, names_next}
use Rattle.mob_eval.proofs.memory.chosen.+names_only.Goals as goal

pub loop-arg-init : goal.loop-arg-init
loop-arg-init t c = names_begin c.args.place c.args.e.now _ (sym c.reads_only.ensures.only ∙ c.if-not-reads_only.false) c.deref-arg-items.ensures.value

pub loop-arg-preserved : goal.loop-arg-preserved
loop-arg-preserved t c =
    let read = drop_read c.deref-arg-items.result.now c.loop-arg.arg-index c.arg-item.result (omega arith) c.arg-item.is in
    names_next c.args.place _ _ _ c.arg-item.result c.loop-arg.invariant read (sym c.names_only.ensures.only ∙ c.if-not-names_only.false)
