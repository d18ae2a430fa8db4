use Rattle.std.{proofs.Common.{rules, ◌≡◌, ◌++◌, length}, proofs.lemmas.List.{take-append-drop}}
use Rattle.mob_clip.proofs.Knowing.{single, one_fits, two_fit, two_values}
use Rattle.mob_clip.proofs.membership.+together.Goals as goal

pub returns-in-len1-clause-fit : goal.returns-in-len1-clause-fit
returns-in-len1-clause-fit n c =
    let h : length c.args.edges.now ≡ 1 = search rules in
    one_fits c.merged.result c.args.edges.now c.edge-item.result c.nothing-in-len1.result (single c.args.edges.now c.edge-item.result h c.edge-item.is) c.nothing-in-len1.ensures.nothing.1 c.merged.ensures.fit

pub returns-in_ok-right-in_default-clause-values : goal.returns-in_ok-right-in_default-clause-values
returns-in_ok-right-in_default-clause-values n c =
    let e : c.split_at.result.0.now ++ c.split_at.result.1.now ≡ c.args.edges.now = rw (c.split_at.ensures.front, c.split_at.ensures.back) (take-append-drop _ c.args.edges.now) in
    two_values c.merged-in_default.result c.args.edges.now c.split_at.result.0.now c.split_at.result.1.now c.in_ok-left-in_default.left c.in_ok-right-in_default.right e c.in_ok-left-in_default.ensures.values c.in_ok-right-in_default.ensures.values c.merged-in_default.ensures.values

pub returns-in_ok-right-in_default-clause-fit : goal.returns-in_ok-right-in_default-clause-fit
returns-in_ok-right-in_default-clause-fit n c =
    let e : c.split_at.result.0.now ++ c.split_at.result.1.now ≡ c.args.edges.now = rw (c.split_at.ensures.front, c.split_at.ensures.back) (take-append-drop _ c.args.edges.now) in
    two_fit c.merged-in_default.result c.args.edges.now c.split_at.result.0.now c.split_at.result.1.now c.in_ok-left-in_default.left c.in_ok-right-in_default.right e c.in_ok-left-in_default.ensures.fit c.in_ok-right-in_default.ensures.fit c.merged-in_default.ensures.fit
