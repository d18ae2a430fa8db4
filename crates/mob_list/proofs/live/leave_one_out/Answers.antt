use Rattle.std.{specs.List.Sorted.{IsBinarySearchResult}, specs.Ordering.{nat_cmp}, proofs.Common.{◌∙◌, Ok, Err, List, ℕ, subst}}
use Rattle.mob_list.proofs.Left.{found_left, missed_left}
use Rattle.mob_list.proofs.live.leave_one_out.Goals as goal

pub returns-in-Ok : goal.returns-in-Ok
returns-in-Ok c =
    let found = subst (λ (l : List ℕ). IsBinarySearchResult (λ y. nat_cmp y c.args.gone) l (Ok c.in-Ok.place)) c.deref.ensures.value c.in-Ok.ensures.position in
    record { left = c.remove.ensures.items ∙ found_left c.args.live.now.items c.args.gone c.in-Ok.place found c.requires.rise }

pub returns-in-Err : goal.returns-in-Err
returns-in-Err c =
    let missed = subst (λ (l : List ℕ). IsBinarySearchResult (λ y. nat_cmp y c.args.gone) l (Err c.in-Err.field-0)) c.deref.ensures.value c.in-Err.ensures.position in
    record { left = missed_left c.args.live.now.items c.args.gone c.in-Err.field-0 missed c.requires.rise }
