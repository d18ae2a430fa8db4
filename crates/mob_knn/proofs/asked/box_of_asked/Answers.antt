use Rattle.mob_knn.proofs.Boxes.{whole_space}
use Rattle.mob_knn.proofs.asked.box_of_asked.Goals as goal

pub returns-in-Moving-clause-space : goal.returns-in-Moving-clause-space
returns-in-Moving-clause-space c = whole_space _ c.box_of.ensures.least.whole
