use Rattle.std.{specs.Prelude.{sum_by}, proofs.Common.{arith, ◌≡◌, sym, ◌∙◌, ap, ℕ, ◌++◌, [], append-nil}, proofs.lemmas.List.Sorted.{sum_by-IsPermutation}}
use Rattle.mob_stbox.specs.Boxes.{overlaps}
use Rattle.mob_rtree_nodes.{specs.Tree.{ref, height_at, walk_sum}, proofs.Roots.{root_there, walk_finds, walk_misses, walk_meets}}
use Rattle.mob_rtree_nodes.proofs.whole.gather.Goals as goal

pub returns-then-not-overlaps-clause-found : goal.returns-then-not-overlaps-clause-found
returns-then-not-overlaps-clause-found g c = let a = c.if-not-overlaps.true in let b = c.overlaps.ensures.test in ([], sym (append-nil c.args.into.now.items), (λ k d l h. absurd (omega (arith, h))), walk_misses c.args.q.now (ref c.args.root.now) c.args.nodes.now c.requires.tree (sym b ∙ a))

pub visit-requires-clause-there : goal.visit-requires-clause-there
visit-requires-clause-there g c = root_there (ref c.args.root.now) c.args.nodes.now c.requires.tree

pub returns-in_err-visit-clause-cost : goal.returns-in_err-visit-clause-cost
returns-in_err-visit-clause-cost g c =
    let over = sym c.overlaps.ensures.test ∙ c.if-not-overlaps.false in
    let m = walk_meets c.args.q.now (ref c.args.root.now) c.args.nodes.now c.requires.tree over in
    omega (arith, m, c.tick.ensures.counted, c.visit.ensures.cost)

pub returns-in_err-extend_from_slice-clause-cost : goal.returns-in_err-extend_from_slice-clause-cost
returns-in_err-extend_from_slice-clause-cost g c =
    let over = sym c.overlaps.ensures.test ∙ c.if-not-overlaps.false in
    let m = walk_meets c.args.q.now (ref c.args.root.now) c.args.nodes.now c.requires.tree over in
    omega (arith, m, c.tick.ensures.counted, c.visit.ensures.cost)

pub returns-clause-found : goal.returns-clause-found
returns-clause-found g c =
    let over = sym c.overlaps.ensures.test ∙ c.if-not-overlaps.false in
    let f = c.in_ok-visit.ensures.found in
    let found = c.sort_unstable.new.self.items in
    let sums : (w : ℕ → ℕ) → sum_by w found ≡ walk_sum (λ b. overlaps b c.args.q.now) 0 (λ e. w e.1) c.args.nodes.now (height_at c.args.nodes.now c.args.root.now.node) c.args.root.now.node = λ w.
    sum_by-IsPermutation w c.visit.new.into.items found c.sort_unstable.ensures.permutation ∙ ap (sum_by w) (f.1 ∙ ap (λ l. l ++ f.0) c.new-found.ensures.items) ∙ f.2 w in
    (found, c.in_ok-extend_from_slice.ensures.items ∙ ap (λ l. c.args.into.now.items ++ l) c.deref.ensures.value, c.sort_unstable.ensures.sorted, walk_finds c.args.q.now (ref c.args.root.now) c.args.nodes.now c.requires.tree over found sums)

pub returns-clause-cost : goal.returns-clause-cost
returns-clause-cost g c =
    let over = sym c.overlaps.ensures.test ∙ c.if-not-overlaps.false in
    let m = walk_meets c.args.q.now (ref c.args.root.now) c.args.nodes.now c.requires.tree over in
    omega (arith, m, c.tick.ensures.counted, c.visit.ensures.cost)
