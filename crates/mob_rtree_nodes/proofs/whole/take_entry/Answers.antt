use Rattle.std.proofs.Common.{sym, ◌∙◌}
use Rattle.mob_rtree_nodes.{specs.Tree.{ref}, proofs.Roots.{root_there, root_height}, proofs.Shrinks.{taken_out, taken_early}}
use Rattle.mob_rtree_nodes.proofs.whole.take_entry.Goals as goal

pub returns-then-not-contains-clause-taken : goal.returns-then-not-contains-clause-taken
returns-then-not-contains-clause-taken c = let a = c.if-not-contains.true in let b = c.contains.ensures.test in taken_early (ref c.args.root) c.args.nodes.now.items c.requires.tree (c.args.b.now, c.args.id) (sym b ∙ a)

pub remove_at-requires-clause-there : goal.remove_at-requires-clause-there
remove_at-requires-clause-there c = root_there (ref c.args.root) c.args.nodes.now.items c.requires.tree

pub returns-clause-taken : goal.returns-clause-taken
returns-clause-taken c = taken_out (ref c.args.root) c.args.nodes.now.items c.requires.tree (c.args.b.now, c.args.id) c.remove_at.result c.remove_at.new.nodes.items (sym c.contains.ensures.test ∙ c.if-not-contains.false) (root_height (ref c.args.root) c.args.nodes.now.items c.requires.tree) c.remove_at.ensures.removed
