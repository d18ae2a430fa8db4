use Rattle.std.{specs.List.{AllZip}, proofs.Common.{◌≡◌, ◌∙◌, ◌+◌, ◌++◌, ◌∷◌, [], refl, sym, ap, subst, take}, proofs.lemmas.List.{take_more}}
use Rattle.mob_list.proofs.Entries.{zip_more}
use Rattle.mob_tail.specs.GroupSteps.{IsStartMemo}
use Rattle.mob_tail.proofs.group_memos.no_memos.Goals as goal

pub loop-column-preserved : goal.loop-column-preserved
loop-column-preserved c =
    let at = c.loop-column in
    let more : take (at.column-index + 1) c.args.columns.now ≡ take at.column-index c.args.columns.now ++ c.column-item.result ∷ [] = take_more c.args.columns.now at.column-index c.column-item.result c.loop-column-test.true ∙ ap (λ z. take at.column-index c.args.columns.now ++ z ∷ []) (sym c.column-item.is) in
    subst (λ z. AllZip IsStartMemo z c.push.new.self.items) (sym more)
    (subst (AllZip IsStartMemo (take at.column-index c.args.columns.now ++ c.column-item.result ∷ [])) (sym c.in_ok-push.ensures.items) (zip_more IsStartMemo (take at.column-index c.args.columns.now) at.memos.items c.column-item.result _ at.invariant (refl, c.start_of.ensures.start)))
