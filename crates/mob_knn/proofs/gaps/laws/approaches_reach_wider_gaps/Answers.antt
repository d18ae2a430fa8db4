use Rattle.mob_knn.proofs.Bounds.{approach_reaches, covers_over}
use Rattle.mob_knn.proofs.gaps.laws.approaches_reach_wider_gaps.Goals as goal

pub returns : goal.returns
returns c = record { reach = λ one other wide b q m h k l a. approach_reaches one other wide q m (covers_over one wide b h k) l a }
