-- Uniting numbers or booleans is associative.
use Rattle.std.specs.Prelude.{true, false, refl}
use Rattle.mob_ratio.proofs.Field.{add_assoc}
use Rattle.mob_arith.specs.Operations.{sum_of, both_hold, one_holds}
use Rattle.mob_tagg.specs.Gathered.{IsAssociative}

pub sums_associate : IsAssociative sum_of
sums_associate = add_assoc

pub both_associate : IsAssociative both_hold
both_associate true y z = refl
both_associate false y z = refl

pub one_associates : IsAssociative one_holds
one_associates true y z = refl
one_associates false y z = refl
