use Rattle.std.proofs.Common.{refl, sym, ◌∙◌, subst, arith, append-nil, inl}
use Rattle.mob_rtree_nodes.{specs.Tree.{IsFree, IsReused}, proofs.Frees.{popped, free_over, free_behind, live_of_free, reused_behind}}
use Rattle.mob_rtree_nodes.proofs.insert.put_node.Goals as goal

pub index_mut-requires : goal.index_mut-requires
index_mut-requires c =
    let o = popped c.args.free.now.items c.pop.new.self.items c.in-Some.number c.args.nodes.now.items c.in-Some.ensures.items c.requires.free in
    omega (arith, o.0, c.args.nodes.now.ok.0)

pub returns-in-Some-clause-put : goal.returns-in-Some-clause-put
returns-in-Some-clause-put c =
    let o = popped c.args.free.now.items c.pop.new.self.items c.in-Some.number c.args.nodes.now.items c.in-Some.ensures.items c.requires.free in
    inl (o.0, o.1, refl)

pub returns-in-Some-clause-free : goal.returns-in-Some-clause-free
returns-in-Some-clause-free c = free_over c.args.free.now.items c.pop.new.self.items c.in-Some.number c.args.nodes.now.items c.args.part c.in-Some.ensures.items c.requires.free c.requires.live

pub returns-in-None-clause-free : goal.returns-in-None-clause-free
returns-in-None-clause-free c =
    let left = subst (λ l. IsFree l c.args.nodes.now.items) (c.in-None.ensures.items ∙ append-nil c.pop.new.self.items) c.requires.free in
    subst (λ ps. IsFree c.pop.new.self.items ps) (sym c.push_reserved.ensures.items) (free_behind c.pop.new.self.items c.args.nodes.now.items c.args.part left c.requires.live)

pub returns-in-None-clause-reused : goal.returns-in-None-clause-reused
returns-in-None-clause-reused c =
    let old = c.args.nodes.now.items in
    let none = live_of_free c.args.free.now.items old (omega (arith, c.in-None.ensures.cases.0, c.args.free.now.ok.0)) c.requires.free in
    subst (IsReused old) (sym c.push_reserved.ensures.items) (reused_behind old c.args.part c.requires.live none)
