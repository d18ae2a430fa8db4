-- Two lists of parts that fit together.
use Rattle.std.specs.Prelude.{List, [], ◌∷◌, ◌++◌}
use Rattle.mob_ratio.specs.Ratio.{Ratio}
use Rattle.mob_frac.specs.Formula.{AllFit}

pub all_both : (p q : List Ratio) → AllFit p → AllFit q → AllFit (p ++ q)
all_both [] q h k = k
all_both (x ∷ p) q h k = (h.0, all_both p q h.1 k)

pub all_first : (p q : List Ratio) → AllFit (p ++ q) → AllFit p
all_first [] q h = tt
all_first (x ∷ p) q h = (h.0, all_first p q h.1)

pub all_second : (p q : List Ratio) → AllFit (p ++ q) → AllFit q
all_second [] q h = h
all_second (x ∷ p) q h = all_second p q h.1
