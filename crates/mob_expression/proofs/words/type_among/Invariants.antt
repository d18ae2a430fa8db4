use Rattle.std.proofs.Common.{◌≡◌, drop, map}
use Rattle.mob_expression.specs.Words.{type_among}
use Rattle.mob_expression.proofs.words.type_among.Given as goal

abbrev pub invariant-loop-word : goal.invariant-loop-word
invariant-loop-word l = type_among (map (λ w. (w.0.now, w.1)) (drop l.word-index l.words)) l.name ≡ type_among (map (λ w. (w.0.now, w.1)) l.words) l.name
