use Rattle.std.{specs.Int.{w8}, proofs.Common.{rules, ◌≡◌, ◌∙◌, sym, ap, pos, FitsSigned, to_z, of_z}, proofs.lemmas.Int.{to_z-of_z}}
use Rattle.mob_ratio.proofs.SignTests.{above_by, not_above_by}
use Rattle.mob_root.proofs.zero.is_above.Goals as goal

pub returns-then-sign-eq1 : goal.returns-then-sign-eq1
returns-then-sign-eq1 c =
    let f : FitsSigned w8 c.sign.result = search rules in
    let e : c.sign.result ≡ pos 1 = sym (to_z-of_z w8 c.sign.result f) ∙ ap (to_z w8) c.if-sign-eq1.true in
    record { value = above_by c.args.x.now (c.sign.ensures.above.0 e) }

pub returns : goal.returns
returns c = record { value = not_above_by c.args.x.now (λ h. c.if-sign-eq1.false (ap (of_z w8) (c.sign.ensures.above.1 h))) }
