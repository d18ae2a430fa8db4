use Rattle.std.proofs.Common.{rules, ◌≡◌, ◌∙◌, ◌++◌, ◌∷◌, [], ap, sym, subst, arith, length, length-append}
use Rattle.mob_value.{specs.Cuts.{AreCuts, cut}, proofs.Cutting.{cut_more, cuts_more}}
use Rattle.mob_value.proofs.rows.push_row.Goals as goal

pub returns-clause-cuts : goal.returns-clause-cuts
returns-clause-cuts g c =
    let before = c.args.items.now.items in
    let after = c.append.new.self.items in
    let ends : c.push_reserved.new.self.items ≡ c.args.ends.now.items ++ length after ∷ [] = search rules in
    let all : after ≡ before ++ c.args.row = search rules in
    subst (λ es. AreCuts 0 es (length after)) (sym ends)
    (cuts_more 0 c.args.ends.now.items (length before) (length after) c.requires.cuts (omega (arith, ap length all, length-append before c.args.row)))

pub returns-clause-pushed : goal.returns-clause-pushed
returns-clause-pushed g c =
    let before = c.args.items.now.items in
    let after = c.append.new.self.items in
    let places = c.args.ends.now.items in
    let ends : c.push_reserved.new.self.items ≡ places ++ length after ∷ [] = search rules in
    let all : after ≡ before ++ c.args.row = search rules in
    ap (λ es. cut 0 es after) ends ∙ ap (cut 0 (places ++ length after ∷ [])) all
    ∙ cut_more 0 places (length before) (length after) before c.args.row c.requires.cuts (omega arith) (omega (arith, ap length all, length-append before c.args.row))
