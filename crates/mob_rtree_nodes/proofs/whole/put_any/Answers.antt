use Rattle.std.proofs.Common.{arith, ◌≡◌, refl, sym, ◌∙◌, ap, ◌+◌, ◌<◌, List, length, length-append, [], ◌∷◌, ◌++◌}
use Rattle.mob_rtree_nodes.{specs.declared.node.TreeNode.{TreeNode}, specs.Tree.{Kid, entry_of, ref}, specs.declared.node.Child.TheVariants.{Node}, proofs.Covers.{none_left, some_left}}
use Rattle.mob_rtree_nodes.{proofs.Roots.{root_alive, root_there, root_height, tree_none, tree_some, added, added_root}, proofs.Inserts.{put_in}, proofs.Frees.{free_first, reused_trans}}
use Rattle.mob_rtree_nodes.proofs.whole.put_any.Goals as goal

pub returns-then-is_empty-clause-free : goal.returns-then-is_empty-clause-free
returns-then-is_empty-clause-free c =
    let none = none_left _ (sym c.is_empty.ensures ∙ c.if-is_empty.true) in
    free_first c.args.free.now.items c.args.nodes.now.items c.put_first.new.nodes.items (omega (arith, none, c.args.nodes.now.ok.0)) c.requires.free c.put_first.ensures.live

pub insert_at-grown-requires-clause-there : goal.insert_at-grown-requires-clause-there
insert_at-grown-requires-clause-there c = root_there (ref c.args.root) c.args.nodes.now.items (c.requires.tree (let n = some_left _ (sym c.is_empty.ensures ∙ c.if-is_empty.false) in let o = c.args.nodes.now.ok.0 in omega (arith, n, o)))

pub insert_at-grown-requires-clause-small : goal.insert_at-grown-requires-clause-small
insert_at-grown-requires-clause-small c = let s = c.requires.small in omega (arith, s, root_height (ref c.args.root) c.args.nodes.now.items (c.requires.tree (let n = some_left _ (sym c.is_empty.ensures ∙ c.if-is_empty.false) in let o = c.args.nodes.now.ok.0 in omega (arith, n, o))))

pub insert_at-grown-requires-clause-room : goal.insert_at-grown-requires-clause-room
insert_at-grown-requires-clause-room c = let s = c.requires.room in omega (arith, s, root_height (ref c.args.root) c.args.nodes.now.items (c.requires.tree (let n = some_left _ (sym c.is_empty.ensures ∙ c.if-is_empty.false) in let o = c.args.nodes.now.ok.0 in omega (arith, n, o))))

pub returns-in_default-clause-tree : goal.returns-in_default-clause-tree
returns-in_default-clause-tree c = tree_none (ref c.args.root) c.args.nodes.now.items (c.requires.tree (let n = some_left _ (sym c.is_empty.ensures ∙ c.if-is_empty.false) in let o = c.args.nodes.now.ok.0 in omega (arith, n, o))) c.args.kid c.insert_at-grown.result c.insert_at-grown.new.nodes.items c.insert_at-grown.ensures.grown c.in_default.is

pub returns-in_default-clause-entries : goal.returns-in_default-clause-entries
returns-in_default-clause-entries c = added c.args.nodes.now.items c.args.root.node c.args.kid c.insert_at-grown.result c.insert_at-grown.new.nodes.items c.insert_at-grown.ensures.grown

pub returns-in_default-clause-few : goal.returns-in_default-clause-few
returns-in_default-clause-few c =
    let few = c.insert_at-grown.ensures.grown.few in
    omega (arith, few, root_height (ref c.args.root) c.args.nodes.now.items (c.requires.tree (let n = some_left _ (sym c.is_empty.ensures ∙ c.if-is_empty.false) in let o = c.args.nodes.now.ok.0 in omega (arith, n, o))))

pub put_node-node-requires-clause-live : goal.put_node-node-requires-clause-live
put_node-node-requires-clause-live c = omega (arith, ap (λ (l : List Kid). length l) (c.push-2.ensures.items), length-append c.push.new.self.items (c.in-Some.more ∷ []))

pub put_node-node-requires-clause-small : goal.put_node-node-requires-clause-small
put_node-node-requires-clause-small c =
    let few = c.insert_at-grown.ensures.grown.few in
    let s = c.requires.small in
    omega (arith, few, s, root_height (ref c.args.root) c.args.nodes.now.items (c.requires.tree (let n = some_left _ (sym c.is_empty.ensures ∙ c.if-is_empty.false) in let o = c.args.nodes.now.ok.0 in omega (arith, n, o))))

pub put_node-node-requires-clause-room : goal.put_node-node-requires-clause-room
put_node-node-requires-clause-room c =
    let few = c.insert_at-grown.ensures.grown.few in
    let o = c.insert_at-grown.new.nodes.ok.0 in
    let o0 = c.args.nodes.now.ok.0 in
    let cap = c.insert_at-grown.ensures.capacity in
    let s = c.requires.room in
    omega (arith, few, o, o0, cap, s, root_height (ref c.args.root) c.args.nodes.now.items (c.requires.tree (let n = some_left _ (sym c.is_empty.ensures ∙ c.if-is_empty.false) in let o = c.args.nodes.now.ok.0 in omega (arith, n, o))))

pub returns-clause-tree : goal.returns-clause-tree
returns-clause-tree c =
    let g = c.insert_at-grown.result in
    let r : TreeNode = record { area = c.cover-area.result; height = c.args.root.height + 1; kids = c.push-2.new.self } in
    let kids : r.kids.items ≡ (g.area, Node c.args.root.node) ∷ c.in-Some.more ∷ [] = c.push-2.ensures.items ∙ ap (λ l. l ++ c.in-Some.more ∷ []) (c.push.ensures.items ∙ ap (λ l. l ++ (g.area, Node c.args.root.node) ∷ []) c.new-kids.ensures) in
    tree_some (ref c.args.root) c.args.nodes.now.items (c.requires.tree (let n = some_left _ (sym c.is_empty.ensures ∙ c.if-is_empty.false) in let o = c.args.nodes.now.ok.0 in omega (arith, n, o))) c.args.kid g c.insert_at-grown.new.nodes.items c.insert_at-grown.ensures.grown c.in-Some.more c.in-Some.is r kids refl c.cover-area.ensures.value c.put_node-node.result c.put_node-node.new.nodes.items c.put_node-node.ensures.put

pub returns-clause-entries : goal.returns-clause-entries
returns-clause-entries c =
    let new = c.insert_at-grown.new.nodes.items in
    let r : TreeNode = record { area = c.cover-area.result; height = c.args.root.height + 1; kids = c.push-2.new.self } in
    let live : 0 < length r.kids.items = omega (arith, ap (λ (l : List Kid). length l) (c.push-2.ensures.items), length-append c.push.new.self.items (c.in-Some.more ∷ [])) in
    let a = added c.args.nodes.now.items c.args.root.node c.args.kid c.insert_at-grown.result new c.insert_at-grown.ensures.grown in
    added_root c.args.nodes.now.items new (entry_of c.args.kid) r c.args.root.height refl live a c.put_node-node.result c.put_node-node.new.nodes.items c.put_node-node.ensures.put

pub returns-clause-reused : goal.returns-clause-reused
returns-clause-reused c = reused_trans c.args.nodes.now.items c.insert_at-grown.new.nodes.items c.put_node-node.new.nodes.items c.insert_at-grown.ensures.reused c.put_node-node.ensures.reused

pub returns-clause-few : goal.returns-clause-few
returns-clause-few c =
    let few = c.insert_at-grown.ensures.grown.few in
    let r : TreeNode = record { area = c.cover-area.result; height = c.args.root.height + 1; kids = c.push-2.new.self } in
    let live : 0 < length r.kids.items = omega (arith, ap (λ (l : List Kid). length l) (c.push-2.ensures.items), length-append c.push.new.self.items (c.in-Some.more ∷ [])) in
    let last = put_in c.insert_at-grown.new.nodes.items r c.put_node-node.result c.put_node-node.new.nodes.items live c.put_node-node.ensures.put in
    omega (arith, few, last.few, root_height (ref c.args.root) c.args.nodes.now.items (c.requires.tree (let n = some_left _ (sym c.is_empty.ensures ∙ c.if-is_empty.false) in let o = c.args.nodes.now.ok.0 in omega (arith, n, o))))

pub insert_at-grown-requires-clause-live : goal.insert_at-grown-requires-clause-live
insert_at-grown-requires-clause-live c = root_alive (ref c.args.root) c.args.nodes.now.items (c.requires.tree (let n = some_left _ (sym c.is_empty.ensures ∙ c.if-is_empty.false) in let o = c.args.nodes.now.ok.0 in omega (arith, n, o)))
