use Rattle.std.{specs.Int.{w128}, proofs.Common.{rules, ◌≡◌, ◌%◌, ◌^◌, pos, length, get_or, FitsSigned, ap, ◌∙◌, sym}, proofs.lemmas.Int.{to_z-of_z}, proofs.lemmas.Nat.{mul-mod}}
use Rattle.mob_frac.proofs.WideLemmas.{product_four}
use Rattle.mob_frac.proofs.wide.last_bits.Goals as goal

pub returns : goal.returns
returns c =
    let n : length c.args.numbers ≡ 4 = search rules in
    let f : FitsSigned w128 (get_or c.args.numbers 0 (pos 0)) = search rules in
    let g : FitsSigned w128 (get_or c.args.numbers 1 (pos 0)) = search rules in
    let h : FitsSigned w128 (get_or c.args.numbers 2 (pos 0)) = search rules in
    let k : FitsSigned w128 (get_or c.args.numbers 3 (pos 0)) = search rules in
    let p = simp to_z-of_z at c.unsigned_abs.ensures.value in
    let q = simp to_z-of_z at c.unsigned_abs-2.ensures.value in
    let r = simp to_z-of_z at c.unsigned_abs-3.ensures.value in
    let s = simp to_z-of_z at c.unsigned_abs-4.ensures.value in
    let first = rw (p, q) at c.last_product-first.ensures.value in
    let second = rw (r, s) at c.last_product-second.ensures.value in
    let whole = rw (first, second) at c.last_product.ensures.value in
    record { value = whole ∙ sym (mul-mod _ _ (2 ^ 64)) ∙ ap (λ z. z % 2 ^ 64) (sym (product_four c.args.numbers n)) }
