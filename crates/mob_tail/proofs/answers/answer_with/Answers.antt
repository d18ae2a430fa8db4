use Rattle.std.proofs.Common.{ap, map, sym, subst, ◌∙◌}
use Rattle.mob_typed.specs.Selects.{select_seen}
use Rattle.mob_eval.specs.Remembered.{root_seen}
use Rattle.mob_tail.{specs.Recalling.{AnswerFits}, proofs.Fitting.{answer_fits}}
use Rattle.mob_tail.proofs.answers.answer_with.Goals as goal

pub memory_of-memory-requires : goal.memory_of-memory-requires
memory_of-memory-requires g c = record { roots = ap (λ r. r.roots) c.requires.recollection ∙ sym (ap (map root_seen) c.as_slice-roots.ensures.value ∙ c.in-Ok.ensures.roots) }

pub answer_on-requires : goal.answer_on-requires
answer_on-requires g c =
    let select = select_seen c.args.select.now in record {
      roots = ap (map root_seen) c.as_slice-roots.ensures.value ∙ c.in-Ok.ensures.roots;
      fits = subst (λ r. AnswerFits r select c.args.store.now c.args.terms.now) (sym c.requires.recollection) (answer_fits select c.args.store.now c.args.terms.now);
    }
