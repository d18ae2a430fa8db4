use Rattle.std.proofs.Common.{◌≡◌, drop, map}
use Rattle.mob_chars.specs.Signs.{first_sign}
use Rattle.mob_chars.proofs.scan.first_sign.Given as goal

abbrev pub invariant-loop-sign : goal.invariant-loop-sign
invariant-loop-sign l = first_sign (map (λ s. s.now) (drop l.sign-index l.signs)) l.text ≡ first_sign (map (λ s. s.now) l.signs) l.text
