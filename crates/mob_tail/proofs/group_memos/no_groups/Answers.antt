use Rattle.std.{specs.List.{AllByRecursion}, proofs.Common.{None, [], ◌∷◌, refl, sym, ap, subst, arith, length, length-append}}
use Rattle.mob_tail.{specs.declared.group_memos.Group.{Group}, specs.GroupSteps.{IsStartGroup}}
use Rattle.mob_list.proofs.Each.{each_more}
use Rattle.mob_tail.proofs.group_memos.no_groups.Goals as goal

pub loop-preserved : goal.loop-preserved
loop-preserved c =
    let P = IsStartGroup c.args.columns.now in
    let pushed = ap length c.in_ok-push.ensures.items in
    let group : Group = record { first = None; memos = c.in_ok-memos.memos } in
    let start : IsStartGroup c.args.columns.now group = record { first = refl; memos = c.in_ok-memos.ensures.start } in
    let more = length-append c.loop.groups.items (group ∷ []) in
    record {
      start = subst (AllByRecursion P) (sym c.in_ok-push.ensures.items) (each_more P c.loop.groups.items group c.loop.invariant.start start);
      count = omega (arith, pushed, more, c.loop.invariant.count);
    }
