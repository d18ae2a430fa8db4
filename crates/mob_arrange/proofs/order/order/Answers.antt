use Rattle.std.{specs.Ordering.{is_lt}, proofs.Common.{rules}, proofs.lemmas.Fn.{always_returns_same}}
use Rattle.mob_arrange.{specs.Order.{compare_keys}, proofs.Carried.{values_ordered}, proofs.Orders.{keys_ranked}}
use Rattle.mob_arrange.proofs.order.order.Goals as goal

pub returns-in-Ok : goal.returns-in-Ok
returns-in-Ok c =
    let falls = c.args.falls.now in
    let ranked = keys_ranked falls in
    record {
      ordered = λ day. values_ordered falls day _ _
          c.sort_by.ensures.permutation
          (c.in-Ok.ensures.sorted (λ a b. is_lt (compare_keys falls a b)) ranked (always_returns_same _ _ _ (λ a r q k. search rules)))
          (c.sort_by.ensures.stable (λ a b. is_lt (compare_keys falls a b)) ranked (always_returns_same _ _ _ (λ a r q k. search rules)));
    }
