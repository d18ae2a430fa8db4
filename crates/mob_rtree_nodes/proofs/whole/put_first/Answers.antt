use Rattle.std.{proofs.Common.{arith, ◌≡◌, refl, sym, ◌∙◌, ap, subst, ◌++◌, ◌<◌, ◌∷◌, [], List, length}, proofs.lemmas.List.Elements.{All-cons, All-nil}}
use Rattle.mob_rtree_nodes.{specs.Tree.{Kid, entry_of, IsTree, entries_list, IsAdded, AreLive}, specs.declared.node.TreeNode.{TreeNode}, proofs.Roots.{tree_one, added_one}}
use Rattle.mob_rtree_nodes.proofs.whole.put_first.Goals as goal

pub returns-clause-tree : goal.returns-clause-tree
returns-clause-tree c =
    let r : TreeNode = record { area = c.args.kid.0; height = 0; kids = c.push.new.self } in
    let kids : r.kids.items ≡ c.args.kid ∷ [] = c.push.ensures.items ∙ ap (λ l. l ++ c.args.kid ∷ []) c.new-kids.ensures in
    let made : r ∷ [] ≡ c.push_reserved.new.self.items = sym (c.push_reserved.ensures.items ∙ ap (λ l. l ++ r ∷ []) c.requires.none) in
    subst (λ l. IsTree (record { area = c.args.kid.0; node = 0; height = 0 }) l) made (tree_one c.args.kid r c.requires.fit kids refl refl)

pub returns-clause-entries : goal.returns-clause-entries
returns-clause-entries c =
    let r : TreeNode = record { area = c.args.kid.0; height = 0; kids = c.push.new.self } in
    let kids : r.kids.items ≡ c.args.kid ∷ [] = c.push.ensures.items ∙ ap (λ l. l ++ c.args.kid ∷ []) c.new-kids.ensures in
    let made : r ∷ [] ≡ c.push_reserved.new.self.items = sym (c.push_reserved.ensures.items ∙ ap (λ l. l ++ r ∷ []) c.requires.none) in
    subst (λ l. IsAdded l (entry_of c.args.kid) (entries_list c.push_reserved.new.self.items)) (ap (λ l. entries_list l) (sym c.requires.none)) (subst (λ l. IsAdded [] (entry_of c.args.kid) (entries_list l)) made (added_one c.args.kid r kids refl))

pub returns-clause-live : goal.returns-clause-live
returns-clause-live c =
    let r : TreeNode = record { area = c.args.kid.0; height = 0; kids = c.push.new.self } in
    let kids : r.kids.items ≡ c.args.kid ∷ [] = c.push.ensures.items ∙ ap (λ l. l ++ c.args.kid ∷ []) c.new-kids.ensures in
    let made : r ∷ [] ≡ c.push_reserved.new.self.items = sym (c.push_reserved.ensures.items ∙ ap (λ l. l ++ r ∷ []) c.requires.none) in
    subst AreLive made (All-cons (λ p. 0 < length p.kids.items) r [] (omega (arith, ap (λ (l : List Kid). length l) kids)) (All-nil (λ p. 0 < length p.kids.items)))

pub returns-clause-one : goal.returns-clause-one
returns-clause-one c =
    let r : TreeNode = record { area = c.args.kid.0; height = 0; kids = c.push.new.self } in
    ap (λ (l : List TreeNode). length l) (c.push_reserved.ensures.items ∙ ap (λ l. l ++ r ∷ []) c.requires.none)
