use Rattle.std.{proofs.Common.{refl}, proofs.lemmas.Bool.{and_from}}
use Rattle.mob_stbox.proofs.BoxLaws.{point_is_area}
use Rattle.mob_stbox.proofs.stbox.StBoxDefault.default.Goals as goal

pub invariant_of-result : goal.invariant_of-result
invariant_of-result c = and_from _ _ (point_is_area _ _) refl
