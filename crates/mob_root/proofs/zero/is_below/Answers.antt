use Rattle.std.{specs.Int.{w8}, proofs.Common.{rules, ◌≡◌, ◌∙◌, sym, ap, negsuc, FitsSigned, to_z, of_z}, proofs.lemmas.Int.{to_z-of_z}}
use Rattle.mob_ratio.proofs.SignTests.{below_by, not_below_by}
use Rattle.mob_root.proofs.zero.is_below.Goals as goal

pub returns-then-sign-eq255 : goal.returns-then-sign-eq255
returns-then-sign-eq255 c =
    let f : FitsSigned w8 c.sign.result = search rules in
    let e : c.sign.result ≡ negsuc 0 = sym (to_z-of_z w8 c.sign.result f) ∙ ap (to_z w8) c.if-sign-eq255.true in
    record { value = below_by c.args.x.now (c.sign.ensures.below.0 e) }

pub returns : goal.returns
returns c = record { value = not_below_by c.args.x.now (λ h. c.if-sign-eq255.false (ap (of_z w8) (c.sign.ensures.below.1 h))) }
